-- What the calls of members come to, told by what they say of a group.
use Rattle.std.proofs.Common.{◌≡◌, ◌≢◌, ◌⊎◌, inl, inr, ℕ, ◌≤◌, ◌&&◌, ℤ, pos, negsuc, List, [], ◌∷◌, ◌++◌, length, Option, Some, None, Bool, true, false, cond, refl, sym, ap, subst, ◌∙◌}
use Rattle.std.specs.Prelude.{not, is_some, unwrap_or, slice_get, nat_le, codes, decimal}
use Rattle.std.specs.Option.{option_map}
use Rattle.std.specs.Ordering.{int_eq}
use Rattle.std.specs.List.{find}
use Rattle.std.specs.Str.{bytes_eq}
use Rattle.std.proofs.lemmas.Bool.{true≢false, eqb-true, leb-true, and_parts}
use Rattle.std.proofs.lemmas.Bool.Decides.{Decides-int_eq}
use Rattle.std.proofs.lemmas.List.{nil_from_length}
use Rattle.std.proofs.lemmas.Slice.Eq.{bytes_eq-Decides}
use Rattle.wire_types.specs.declared.error_code.ErrorCode.{ErrorCode}
use Rattle.wire_types.specs.declared.error_code.ErrorCode.TheVariants as errors
use Rattle.wire_types.specs.ErrorCode.{number_of, code_of, code_of-number_of}
use Rattle.msg_group.specs.declared.join_group.JoinGroupRequest.{JoinGroupRequest}
use Rattle.msg_group.specs.declared.join_group.OfferedProtocol.{OfferedProtocol}
use Rattle.msg_group.specs.declared.sync_group.MemberAssignment.{MemberAssignment}
use Rattle.msg_group.specs.declared.sync_group.SyncGroupRequest.{SyncGroupRequest}
use Rattle.msg_group.specs.declared.heartbeat.HeartbeatRequest.{HeartbeatRequest}
use Rattle.msg_group.specs.declared.leave_group.LeaveGroupRequest.{LeaveGroupRequest}
use Rattle.group_offsets.specs.declared.group.Group.{Group}
use Rattle.group_offsets.specs.declared.member.Member.{Member}
use Rattle.group_offsets.specs.declared.member.Joined.{Joined}
use Rattle.group_offsets.specs.GroupTransition.{GroupTransition, Stays, Puts, group_after}
use Rattle.group_offsets.specs.Group.{fresh_group, is_empty, has_id, is_member, member_refusal, heard_at, given_to, assignment_of, sync_transition, sync_group, beat_transition, beat_group, without_member, leave_group}
use Rattle.group_offsets.specs.Joining.{session_timeout, chosen_protocol, entry_refusal, member_id, with_member, welcome, join_transition, join_under, join_within, join_group}
use Rattle.group_offsets.specs.Groups.{find_group, group_of, groups_with, groups_after}
use Rattle.group_offsets.proofs.Apart.{name_of, find_put}
use Rattle.broker_laws.specs.Members.{IsMember, IsMemberIn, IsGiven}
use Rattle.broker_laws.proofs.Offsets.{text_is}

-- ---- tests

pub text_same : (a b : List ℕ) → a ≡ b → bytes_eq a b ≡ true
text_same a b h = (bytes_eq-Decides a b).1 h

pub empty_is : (text : List ℕ) → is_empty text ≡ true → text ≡ []
empty_is text h = nil_from_length text (eqb-true (length text) 0 h)

pub full_is : (text : List ℕ) → is_empty text ≡ false → text ≢ []
full_is text h e = true≢false (sym (ap is_empty e) ∙ h)

-- the number 0 is that of no error alone
pub zero_is : (code : ErrorCode) → number_of code ≡ pos 0 → code ≡ errors.None
unfolding number_of
zero_is code h = let both : Some code ≡ Some errors.None = sym (code_of-number_of code) ∙ ap code_of h ∙ code_of-number_of errors.None in cc

pub none_zero : number_of errors.None ≡ pos 0
unfolding number_of
none_zero = refl

-- ---- who is a member

pub member_is : (g : Group) (id : List ℕ) → is_member g id ≡ true → IsMember g id
member_is g id h = by_member g.member refl h where
  by_member : (o : Option Member) → g.member ≡ o → has_id id o ≡ true → IsMember g id
  by_member None e h = absurd (true≢false (sym h))
  by_member (Some m) e h = record { member = m; has = e; named = text_is m.id id h }

pub is_member_by : (g : Group) (id : List ℕ) → IsMember g id → is_member g id ≡ true
is_member_by g id h = ap (has_id id) h.has ∙ text_same h.member.id id h.named

pub own_is : (g : Group) (generation : ℤ) (member : List ℕ) → member_refusal g generation member ≡ None → IsMemberIn g member generation
own_is g generation member h = by_tests (is_member g member) refl (int_eq g.generation generation) refl h where
  by_tests : (a : Bool) → is_member g member ≡ a → (b : Bool) → int_eq g.generation generation ≡ b → cond (not a) (Some errors.UnknownMemberId) (cond (not b) (Some errors.IllegalGeneration) None) ≡ None → IsMemberIn g member generation
  by_tests false e b f h = absurd (let clash : Some errors.UnknownMemberId ≡ None = h in cc)
  by_tests true e false f h = absurd (let clash : Some errors.IllegalGeneration ≡ None = h in cc)
  by_tests true e true f h = record { is = member_is g member e; current = (Decides-int_eq g.generation generation).0 f }

pub refusal_error : (g : Group) (generation : ℤ) (member : List ℕ) → member_refusal g generation member ≡ Some errors.None → ⊥
refusal_error g generation member h = by_tests (is_member g member) (int_eq g.generation generation) h where
  by_tests : (a b : Bool) → cond (not a) (Some errors.UnknownMemberId) (cond (not b) (Some errors.IllegalGeneration) None) ≡ Some errors.None → ⊥
  by_tests false b h = let clash : Some errors.UnknownMemberId ≡ Some errors.None = h in cc
  by_tests true false h = let clash : Some errors.IllegalGeneration ≡ Some errors.None = h in cc
  by_tests true true h = let clash : None ≡ Some errors.None = h in cc

-- ---- the group of a name after a transition

pub put_group : (gs : List Group) (new : Group) (name other : List ℕ) → new.name ≡ name → group_of (groups_with gs new) other ≡ cond (bytes_eq name other) new (group_of gs other)
put_group gs new name other named =
    ap (λ (o : Option Group). unwrap_or o (fresh_group other)) (find_put gs new other)
    ∙ ap (λ (n : List ℕ). unwrap_or (cond (bytes_eq n other) (Some new) (find_group gs other)) (fresh_group other)) named
    ∙ by_name (bytes_eq name other) where
      by_name : (b : Bool) → unwrap_or (cond b (Some new) (find_group gs other)) (fresh_group other) ≡ cond b new (group_of gs other)
      by_name true = refl
      by_name false = refl

-- the transition keeps the group's name
abbrev pub KeepsName : {A : Type 0} → Group → GroupTransition A → Type 0
KeepsName g t = (group_after g t).name ≡ g.name

pub transition_own : {A : Type 0} (gs : List Group) (name : List ℕ) (t : GroupTransition A) → KeepsName (group_of gs name) t → group_of (groups_after gs t) name ≡ group_after (group_of gs name) t
transition_own gs name (Stays code) named = refl
transition_own gs name (Puts answer new) named =
    put_group gs new name name (named ∙ name_of gs name) ∙ ap (λ (b : Bool). cond b new (group_of gs name)) (text_same name name refl)

pub transition_other : {A : Type 0} (gs : List Group) (name other : List ℕ) (t : GroupTransition A) → KeepsName (group_of gs name) t → bytes_eq name other ≡ false → group_of (groups_after gs t) other ≡ group_of gs other
transition_other gs name other (Stays code) named apart = refl
transition_other gs name other (Puts answer new) named apart =
    put_group gs new name other (named ∙ name_of gs name) ∙ ap (λ (b : Bool). cond b new (group_of gs other)) apart

-- ---- a transition that is refused

-- by an error, and the group stays as it is
pub record IsTurnedAway {A : Type 0} (t : GroupTransition A) : Type 0 where
  pub code : ErrorCode
  pub is : t ≡ Stays code
  pub error : code ≡ errors.None → ⊥

away : {A : Type 0} (code : ErrorCode) → (code ≡ errors.None → ⊥) → IsTurnedAway {A = A} (Stays code)
away code error = record { code = code; is = refl; error = error }

no_group : errors.InvalidGroupId ≡ errors.None → ⊥
no_group h = cc

no_member : errors.UnknownMemberId ≡ errors.None → ⊥
no_member h = cc

no_timeout : errors.InvalidSessionTimeout ≡ errors.None → ⊥
no_timeout h = cc

no_protocol : errors.InconsistentGroupProtocol ≡ errors.None → ⊥
no_protocol h = cc

-- ---- JoinGroup

-- who comes in
pub data Entrant (g : Group) (place : ℕ) (member id : List ℕ) : Type 0 where
  New : member ≡ [] → g.member ≡ None → id ≡ codes "m-" ++ decimal place → Entrant g place member id
  Back : member ≢ [] → IsMember g member → id ≡ member → Entrant g place member id

pub entrant_is : (g : Group) (place : ℕ) (member : List ℕ) → entry_refusal g member ≡ None → Entrant g place member (member_id member place)
entrant_is g place member h = by_test (is_empty member) refl h where
  none_there : (o : Option Member) → cond (is_some o) (Some errors.GroupMaxSizeReached) None ≡ None → o ≡ None
  none_there None h = refl
  none_there (Some m) h = absurd (let clash : Some errors.GroupMaxSizeReached ≡ None = h in cc)

  known : (b : Bool) → cond b None (Some errors.UnknownMemberId) ≡ None → b ≡ true
  known true h = refl
  known false h = absurd (let clash : Some errors.UnknownMemberId ≡ None = h in cc)

  by_test : (b : Bool) → is_empty member ≡ b → cond b (cond (is_some g.member) (Some errors.GroupMaxSizeReached) None) (cond (is_member g member) None (Some errors.UnknownMemberId)) ≡ None → Entrant g place member (cond b (codes "m-" ++ decimal place) member)
  by_test true e h = New (empty_is member e) (none_there g.member h) refl
  by_test false e h = Back (full_is member e) (member_is g member (known (is_member g member) h)) refl

entry_error : (g : Group) (member : List ℕ) → entry_refusal g member ≡ Some errors.None → ⊥
entry_error g member h = by_tests (is_empty member) (is_some g.member) (is_member g member) h where
  by_tests : (a b c : Bool) → cond a (cond b (Some errors.GroupMaxSizeReached) None) (cond c None (Some errors.UnknownMemberId)) ≡ Some errors.None → ⊥
  by_tests true true c h = let clash : Some errors.GroupMaxSizeReached ≡ Some errors.None = h in cc
  by_tests true false c h = let clash : None ≡ Some errors.None = h in cc
  by_tests false b true h = let clash : None ≡ Some errors.None = h in cc
  by_tests false b false h = let clash : Some errors.UnknownMemberId ≡ Some errors.None = h in cc

pub timeout_is : (z : ℤ) (n : ℕ) → session_timeout z ≡ Some n → (z ≡ pos n) × (6000 ≤ n) × (n ≤ 1800000)
timeout_is (negsuc k) n h = absurd (let clash : None ≡ Some n = h in cc)
timeout_is (pos k) n h = by_test (nat_le 6000 k && nat_le k 1800000) refl h where
  by_test : (b : Bool) → (nat_le 6000 k && nat_le k 1800000) ≡ b → cond b (Some k) None ≡ Some n → (pos k ≡ pos n) × (6000 ≤ n) × (n ≤ 1800000)
  by_test false e h = absurd (let clash : None ≡ Some n = h in cc)
  by_test true e h =
      let same : k ≡ n = cc in
      let parts = and_parts (nat_le 6000 k) (nat_le k 1800000) e in
      (ap pos same, subst (λ (m : ℕ). 6000 ≤ m) same (leb-true 6000 k parts.0), subst (λ (m : ℕ). m ≤ 1800000) same (leb-true k 1800000 parts.1))

pub chosen_is : (r : JoinGroupRequest) (p : OfferedProtocol) → chosen_protocol r ≡ Some p → (r.protocol_type ≢ []) × (slice_get r.protocols 0 ≡ Some p)
chosen_is r p h = by_test (is_empty r.protocol_type) refl h where
  by_test : (b : Bool) → is_empty r.protocol_type ≡ b → cond b None (slice_get r.protocols 0) ≡ Some p → (r.protocol_type ≢ []) × (slice_get r.protocols 0 ≡ Some p)
  by_test true e h = absurd (let clash : None ≡ Some p = h in cc)
  by_test false e h = (full_is r.protocol_type e, h)

-- the member comes in
pub record Enters (g : Group) (r : JoinGroupRequest) (place moment : ℕ) (t : GroupTransition Joined) : Type 0 where
  pub timeout : ℕ
  pub protocol : OfferedProtocol
  pub is : t ≡ Puts (welcome g r.member place protocol) (with_member (member_id r.member place) timeout g moment)
  pub lasts : session_timeout r.session_timeout ≡ Some timeout
  pub offers : chosen_protocol r ≡ Some protocol
  pub unrefused : entry_refusal g r.member ≡ None

pub join_view : (g : Group) (r : JoinGroupRequest) (place moment : ℕ) → IsTurnedAway (join_group g r place moment) ⊎ Enters g r place moment (join_group g r place moment)
join_view g r place moment = by_empty (is_empty r.group) where
  by_entry : (o : Option ErrorCode) → entry_refusal g r.member ≡ o → (timeout : ℕ) → session_timeout r.session_timeout ≡ Some timeout → (p : OfferedProtocol) → chosen_protocol r ≡ Some p
      → IsTurnedAway (join_transition o g r.member timeout place p moment) ⊎ Enters g r place moment (join_transition o g r.member timeout place p moment)
  by_entry None e timeout lasts p is = inr (record { timeout = timeout; protocol = p; is = refl; lasts = lasts; offers = is; unrefused = e })
  by_entry (Some code) e timeout lasts p is = inl (away code (λ none. entry_error g r.member (e ∙ ap (λ (c : ErrorCode). Some c) none)))

  by_protocol : (o : Option OfferedProtocol) → chosen_protocol r ≡ o → (timeout : ℕ) → session_timeout r.session_timeout ≡ Some timeout
      → IsTurnedAway (join_under o timeout g r.member place moment) ⊎ Enters g r place moment (join_under o timeout g r.member place moment)
  by_protocol None e timeout lasts = inl (away errors.InconsistentGroupProtocol no_protocol)
  by_protocol (Some p) e timeout lasts = by_entry (entry_refusal g r.member) refl timeout lasts p e

  by_timeout : (o : Option ℕ) → session_timeout r.session_timeout ≡ o → IsTurnedAway (join_within o g r place moment) ⊎ Enters g r place moment (join_within o g r place moment)
  by_timeout None e = inl (away errors.InvalidSessionTimeout no_timeout)
  by_timeout (Some timeout) e = by_protocol (chosen_protocol r) refl timeout e

  by_empty : (b : Bool) → IsTurnedAway (cond b (Stays errors.InvalidGroupId) (join_within (session_timeout r.session_timeout) g r place moment))
      ⊎ Enters g r place moment (cond b (Stays errors.InvalidGroupId) (join_within (session_timeout r.session_timeout) g r place moment))
  by_empty true = inl (away errors.InvalidGroupId no_group)
  by_empty false = by_timeout (session_timeout r.session_timeout) refl

-- ---- SyncGroup

pub given_is : (member : List ℕ) (gs : List MemberAssignment) → IsGiven member gs (given_to member gs)
given_is member [] = refl
given_is member (a ∷ rest) = by_test (bytes_eq a.member member) refl (given_is member rest) where
  by_test : (b : Bool) → bytes_eq a.member member ≡ b → IsGiven member rest (given_to member rest)
      → IsGiven member (a ∷ rest) (unwrap_or (option_map (λ (g : MemberAssignment). g.assignment) (cond b (Some a) (find (λ (g : MemberAssignment). bytes_eq g.member member) rest))) [])
  by_test true e later = (λ same. refl, λ other. absurd (other (text_is a.member member e)))
  by_test false e later = (λ same. absurd (true≢false (sym (text_same a.member member same) ∙ e)), λ other. later)

pub record IsSynced (g : Group) (r : SyncGroupRequest) (moment : ℕ) (t : GroupTransition (List ℕ)) : Type 0 where
  pub is : t ≡ Puts (assignment_of g r) (record (heard_at moment g) { assignment = Some (assignment_of g r) })
  pub unrefused : member_refusal g r.generation r.member ≡ None

pub sync_view : (g : Group) (r : SyncGroupRequest) (moment : ℕ) → IsTurnedAway (sync_group g r moment) ⊎ IsSynced g r moment (sync_group g r moment)
sync_view g r moment = by_empty (is_empty r.group) (member_refusal g r.generation r.member) refl where
  by_empty : (b : Bool) (o : Option ErrorCode) → member_refusal g r.generation r.member ≡ o
      → IsTurnedAway (cond b (Stays errors.InvalidGroupId) (sync_transition o g r moment)) ⊎ IsSynced g r moment (cond b (Stays errors.InvalidGroupId) (sync_transition o g r moment))
  by_empty true o e = inl (away errors.InvalidGroupId no_group)
  by_empty false None e = inr (record { is = refl; unrefused = e })
  by_empty false (Some code) e = inl (away code (λ none. refusal_error g r.generation r.member (e ∙ ap (λ (c : ErrorCode). Some c) none)))

-- ---- Heartbeat

pub record IsBeaten (g : Group) (r : HeartbeatRequest) (moment : ℕ) (t : GroupTransition (Unit {0})) : Type 0 where
  pub is : t ≡ Puts tt (heard_at moment g)
  pub unrefused : member_refusal g r.generation r.member ≡ None

pub beat_view : (g : Group) (r : HeartbeatRequest) (moment : ℕ) → IsTurnedAway (beat_group g r moment) ⊎ IsBeaten g r moment (beat_group g r moment)
beat_view g r moment = by_empty (is_empty r.group) (member_refusal g r.generation r.member) refl where
  by_empty : (b : Bool) (o : Option ErrorCode) → member_refusal g r.generation r.member ≡ o
      → IsTurnedAway (cond b (Stays errors.InvalidGroupId) (beat_transition o g moment)) ⊎ IsBeaten g r moment (cond b (Stays errors.InvalidGroupId) (beat_transition o g moment))
  by_empty true o e = inl (away errors.InvalidGroupId no_group)
  by_empty false None e = inr (record { is = refl; unrefused = e })
  by_empty false (Some code) e = inl (away code (λ none. refusal_error g r.generation r.member (e ∙ ap (λ (c : ErrorCode). Some c) none)))

-- ---- LeaveGroup

pub record HasLeft (g : Group) (r : LeaveGroupRequest) (t : GroupTransition (Unit {0})) : Type 0 where
  pub is : t ≡ Puts tt (without_member g)
  pub by : IsMember g r.member

left_transition : Group → GroupTransition (Unit {0})
left_transition g = Puts tt (without_member g)

pub leave_view : (g : Group) (r : LeaveGroupRequest) → IsTurnedAway (leave_group g r) ⊎ HasLeft g r (leave_group g r)
unfolding left_transition
leave_view g r = by_tests (is_empty r.group) (is_member g r.member) refl where
  by_tests : (b m : Bool) → is_member g r.member ≡ m
      → IsTurnedAway (cond b (Stays errors.InvalidGroupId) (cond (not m) (Stays errors.UnknownMemberId) (left_transition g))) ⊎ HasLeft g r (cond b (Stays errors.InvalidGroupId) (cond (not m) (Stays errors.UnknownMemberId) (left_transition g)))
  by_tests true m e = inl (away errors.InvalidGroupId no_group)
  by_tests false false e = inl (away errors.UnknownMemberId no_member)
  by_tests false true e = inr (record { is = refl; by = member_is g r.member e })
