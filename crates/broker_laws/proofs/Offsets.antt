-- What calls on groups change among the entries.
use Rattle.std.proofs.Common.{◌≡◌, ℕ, List, [], ◌∷◌, ◌++◌, map, Option, Some, None, Bool, true, false, cond, refl, sym, ap, ◌∙◌}
use Rattle.std.specs.Prelude.{not, unwrap_or}
use Rattle.std.specs.Option.{option_map}
use Rattle.std.specs.Str.{bytes_eq}
use Rattle.std.proofs.lemmas.List.{map-append}
use Rattle.std.proofs.lemmas.Slice.Eq.{bytes_eq-Decides}
use Rattle.wire_types.specs.declared.error_code.ErrorCode.{ErrorCode}
use Rattle.wire_types.specs.declared.error_code.ErrorCode.TheVariants as codes
use Rattle.msg_group.specs.declared.join_group.JoinGroupRequest.{JoinGroupRequest}
use Rattle.msg_group.specs.declared.join_group.OfferedProtocol.{OfferedProtocol}
use Rattle.msg_group.specs.declared.sync_group.SyncGroupRequest.{SyncGroupRequest}
use Rattle.msg_group.specs.declared.heartbeat.HeartbeatRequest.{HeartbeatRequest}
use Rattle.msg_group.specs.declared.leave_group.LeaveGroupRequest.{LeaveGroupRequest}
use Rattle.txn_coordinator.specs.declared.target.Target.{Target}
use Rattle.txn_coordinator.specs.declared.target.Target.TheVariants.{Partition, Group}
use Rattle.group_offsets.specs.declared.event.OffsetEvent.{OffsetEvent}
use Rattle.group_offsets.specs.declared.group.Group.{Group as GroupValue}
use Rattle.group_offsets.specs.GroupTransition.{GroupTransition, Stays, Puts, group_after}
use Rattle.group_offsets.specs.Group.{fresh_group, is_empty, is_member, member_refusal, sync_transition, beat_transition, without_member, is_lapsed, without_lapsed, with_event}
use Rattle.group_offsets.specs.Joining.{session_timeout, chosen_protocol, entry_refusal, join_transition, join_under, join_within}
use Rattle.group_offsets.specs.Groups.{find_group, group_of, groups_with, groups_after, join, sync, beat, leave}
use Rattle.group_offsets.proofs.Apart.{name_of, find_put, find_expired}
use Rattle.txn_laws.specs.Small.{with_entry}
use Rattle.broker_world.specs.World.{TopicValue}
use Rattle.broker_laws.specs.Entries.{event_entry, entries_at}

pub text_is : (a b : List ℕ) → bytes_eq a b ≡ true → a ≡ b
text_is a b h = (bytes_eq-Decides a b).0 h

group_put : (gs : List GroupValue) (new : GroupValue) (name : List ℕ) → group_of (groups_with gs new) name ≡ cond (bytes_eq new.name name) new (group_of gs name)
group_put gs new name = ap (λ (o : Option GroupValue). unwrap_or o (fresh_group name)) (find_put gs new name) ∙ by_name (bytes_eq new.name name) where
  by_name : (b : Bool) → unwrap_or (cond b (Some new) (find_group gs name)) (fresh_group name) ≡ cond b new (group_of gs name)
  by_name true = refl
  by_name false = refl

-- ---- one event more

-- the group of this name has it after its others, and each other group has what it had
pub noted_offsets : (gs : List GroupValue) (name : List ℕ) (e : OffsetEvent) (other : List ℕ) → (group_of (groups_with gs (with_event e (group_of gs name))) other).offsets ≡ cond (bytes_eq name other) ((group_of gs other).offsets ++ e ∷ []) (group_of gs other).offsets
noted_offsets gs name e other =
    ap (λ (g : GroupValue). g.offsets) (group_put gs (with_event e (group_of gs name)) other)
    ∙ ap (λ (n : List ℕ). (cond (bytes_eq n other) (with_event e (group_of gs name)) (group_of gs other)).offsets) (name_of gs name)
    ∙ by_name (bytes_eq name other) refl where
      by_name : (b : Bool) → bytes_eq name other ≡ b → (cond b (with_event e (group_of gs name)) (group_of gs other)).offsets ≡ cond b ((group_of gs other).offsets ++ e ∷ []) (group_of gs other).offsets
      by_name true same = ap (λ (n : List ℕ). (group_of gs n).offsets ++ e ∷ []) (text_is name other same)
      by_name false same = refl

pub noted_entries : (topics : List TopicValue) (gs : List GroupValue) (name : List ℕ) (e : OffsetEvent) (target : Target) → entries_at topics (groups_with gs (with_event e (group_of gs name))) target ≡ with_entry (entries_at topics gs) (Group name) (event_entry e) target
noted_entries topics gs name e (Partition p) = refl
noted_entries topics gs name e (Group g) = ap (map event_entry) (noted_offsets gs name e g) ∙ by_name (bytes_eq name g) where
  by_name : (b : Bool) → map event_entry (cond b ((group_of gs g).offsets ++ e ∷ []) (group_of gs g).offsets) ≡ cond b (map event_entry (group_of gs g).offsets ++ event_entry e ∷ []) (map event_entry (group_of gs g).offsets)
  by_name true = map-append event_entry (group_of gs g).offsets (e ∷ [])
  by_name false = refl

-- ---- calls that leave the offsets as they are

-- each group has the offsets that it had
abbrev pub SameOffsets : List GroupValue → List GroupValue → Type 0
SameOffsets old new = (name : List ℕ) → (group_of new name).offsets ≡ (group_of old name).offsets

pub same_entries : (topics : List TopicValue) (old new : List GroupValue) → SameOffsets old new → (target : Target) → entries_at topics new target ≡ entries_at topics old target
same_entries topics old new same (Partition p) = refl
same_entries topics old new same (Group g) = ap (map event_entry) (same g)

abbrev KeepsOffsets : GroupValue → GroupValue → Type 0
KeepsOffsets old new = (new.name ≡ old.name) × (new.offsets ≡ old.offsets)

transition_keeps : {A : Type 0} (gs : List GroupValue) (name : List ℕ) (t : GroupTransition A) → KeepsOffsets (group_of gs name) (group_after (group_of gs name) t) → SameOffsets gs (groups_after gs t)
transition_keeps gs name (Stays code) keeps other = refl
transition_keeps gs name (Puts answer new) keeps other = ap (λ (g : GroupValue). g.offsets) (group_put gs new other) ∙ by_name (bytes_eq new.name other) refl where
  by_name : (b : Bool) → bytes_eq new.name other ≡ b → (cond b new (group_of gs other)).offsets ≡ (group_of gs other).offsets
  by_name true same = keeps.1 ∙ ap (λ (n : List ℕ). (group_of gs n).offsets) (sym (keeps.0 ∙ name_of gs name) ∙ text_is new.name other same)
  by_name false same = refl

pub sync_keeps : (gs : List GroupValue) (request : SyncGroupRequest) (moment : ℕ) → SameOffsets gs (groups_after gs (sync gs request moment))
sync_keeps gs request moment = transition_keeps gs request.group (sync gs request moment) (by_test (is_empty request.group) (member_refusal g request.generation request.member)) where
  g : GroupValue
  g = group_of gs request.group

  by_test : (b : Bool) (refusal : Option ErrorCode) → KeepsOffsets g (group_after g (cond b (Stays codes.InvalidGroupId) (sync_transition refusal g request moment)))
  by_test true refusal = (refl, refl)
  by_test false None = (refl, refl)
  by_test false (Some code) = (refl, refl)

pub beat_keeps : (gs : List GroupValue) (request : HeartbeatRequest) (moment : ℕ) → SameOffsets gs (groups_after gs (beat gs request moment))
beat_keeps gs request moment = transition_keeps gs request.group (beat gs request moment) (by_test (is_empty request.group) (member_refusal g request.generation request.member)) where
  g : GroupValue
  g = group_of gs request.group

  by_test : (b : Bool) (refusal : Option ErrorCode) → KeepsOffsets g (group_after g (cond b (Stays codes.InvalidGroupId) (beat_transition refusal g moment)))
  by_test true refusal = (refl, refl)
  by_test false None = (refl, refl)
  by_test false (Some code) = (refl, refl)

pub leave_keeps : (gs : List GroupValue) (request : LeaveGroupRequest) → SameOffsets gs (groups_after gs (leave gs request))
leave_keeps gs request = transition_keeps gs request.group (leave gs request) (by_test (is_empty request.group) (is_member g request.member)) where
  g : GroupValue
  g = group_of gs request.group

  by_test : (b m : Bool) → KeepsOffsets g (group_after {A = Unit {0}} g (cond b (Stays codes.InvalidGroupId) (cond (not m) (Stays codes.UnknownMemberId) (Puts tt (without_member g)))))
  by_test true m = (refl, refl)
  by_test false true = (refl, refl)
  by_test false false = (refl, refl)

pub join_keeps : (gs : List GroupValue) (request : JoinGroupRequest) (place moment : ℕ) → SameOffsets gs (groups_after gs (join gs request place moment))
join_keeps gs request place moment = transition_keeps gs request.group (join gs request place moment) (by_test (is_empty request.group) (session_timeout request.session_timeout)) where
  g : GroupValue
  g = group_of gs request.group

  by_entry : (refusal : Option ErrorCode) (timeout : ℕ) (protocol : OfferedProtocol) → KeepsOffsets g (group_after g (join_transition refusal g request.member timeout place protocol moment))
  by_entry None timeout protocol = (refl, refl)
  by_entry (Some code) timeout protocol = (refl, refl)

  by_protocol : (protocol : Option OfferedProtocol) (timeout : ℕ) → KeepsOffsets g (group_after g (join_under protocol timeout g request.member place moment))
  by_protocol None timeout = (refl, refl)
  by_protocol (Some protocol) timeout = by_entry (entry_refusal g request.member) timeout protocol

  by_test : (b : Bool) (timeout : Option ℕ) → KeepsOffsets g (group_after g (cond b (Stays codes.InvalidGroupId) (join_within timeout g request place moment)))
  by_test true timeout = (refl, refl)
  by_test false None = (refl, refl)
  by_test false (Some timeout) = by_protocol (chosen_protocol request) timeout

-- a tick lets members go
pub expiry_keeps : (gs : List GroupValue) (moment : ℕ) → SameOffsets gs (map (without_lapsed moment) gs)
expiry_keeps gs moment name = ap (λ (o : Option GroupValue). (unwrap_or o (fresh_group name)).offsets) (find_expired moment gs name) ∙ by_found (find_group gs name) where
  by_lapse : (g : GroupValue) (b : Bool) → (cond b (without_member g) g).offsets ≡ g.offsets
  by_lapse g true = refl
  by_lapse g false = refl

  by_found : (o : Option GroupValue) → (unwrap_or (option_map (without_lapsed moment) o) (fresh_group name)).offsets ≡ (unwrap_or o (fresh_group name)).offsets
  by_found None = refl
  by_found (Some g) = by_lapse g (is_lapsed moment g.member)
