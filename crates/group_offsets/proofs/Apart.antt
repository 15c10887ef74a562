-- A group and the calls on others.
use Rattle.std.proofs.Common.{◌≡◌, ℕ, List, [], ◌∷◌, map, Option, Some, None, Bool, true, false, cond, refl, sym, ap, ◌∙◌}
use Rattle.std.specs.Prelude.{not, unwrap_or}
use Rattle.std.specs.Option.{option_map}
use Rattle.std.specs.Str.{bytes_eq}
use Rattle.std.proofs.lemmas.Slice.Eq.{bytes_eq-Decides}
use Rattle.wire_types.specs.declared.error_code.ErrorCode.{ErrorCode}
use Rattle.wire_types.specs.declared.error_code.ErrorCode.TheVariants as codes
use Rattle.msg_group.specs.declared.join_group.JoinGroupRequest.{JoinGroupRequest}
use Rattle.msg_group.specs.declared.join_group.OfferedProtocol.{OfferedProtocol}
use Rattle.msg_group.specs.declared.sync_group.SyncGroupRequest.{SyncGroupRequest}
use Rattle.msg_group.specs.declared.heartbeat.HeartbeatRequest.{HeartbeatRequest}
use Rattle.msg_group.specs.declared.leave_group.LeaveGroupRequest.{LeaveGroupRequest}
use Rattle.group_offsets.specs.declared.event.OffsetEvent.{OffsetEvent}
use Rattle.group_offsets.specs.declared.event.OffsetEvent.TheVariants.{Put, Stage, Decide}
use Rattle.group_offsets.specs.declared.group.Group.{Group}
use Rattle.group_offsets.specs.GroupTransition.{GroupTransition, Stays, Puts, answer_of, group_after}
use Rattle.group_offsets.specs.Group.{fresh_group, is_empty, is_member, member_refusal, sync_transition, sync_group, beat_transition, beat_group, leave_group, without_member, is_lapsed, without_lapsed, commit_refusal, stage_refusal, event_transition, with_event, commit_group, stage_group}
use Rattle.group_offsets.specs.Joining.{session_timeout, chosen_protocol, entry_refusal, join_transition, join_under, join_within, join_group}
use Rattle.group_offsets.specs.Groups.{find_group, group_of, groups_with, groups_after, join, sync, beat, leave, commit, stage, decide}
use Rattle.group_offsets.specs.Laws.{Call, Join, Sync, Beat, Leave, Commits, Stages, Decides, Tick, groups_after_call, concerns, groups_after_calls, concerning_calls, GroupsAreApart, IsJoined, IsAssigned, IsDone, answer_to, AnswersAreApart}
use Rattle.group_offsets.proofs.Places.{found_name}

same_text : (a b : List ℕ) → bytes_eq a b ≡ true → a ≡ b
same_text a b h = (bytes_eq-Decides a b).0 h

text_same : (a b : List ℕ) → a ≡ b → bytes_eq a b ≡ true
text_same a b h = (bytes_eq-Decides a b).1 h

pub name_of : (gs : List Group) (name : List ℕ) → (group_of gs name).name ≡ name
name_of gs name = by_found (find_group gs name) refl where
  by_found : (o : Option Group) → find_group gs name ≡ o → (unwrap_or o (fresh_group name)).name ≡ name
  by_found None is = refl
  by_found (Some g) is = found_name gs g name is

-- ---- what is found after a group was put

pub find_put : (gs : List Group) (g : Group) (name : List ℕ) → find_group (groups_with gs g) name ≡ cond (bytes_eq g.name name) (Some g) (find_group gs name)
find_put [] g name = refl
find_put (x ∷ xs) g name = by_place (find_put xs g name) (bytes_eq x.name g.name) refl where
  by_place : find_group (groups_with xs g) name ≡ cond (bytes_eq g.name name) (Some g) (find_group xs name) → (here : Bool) → bytes_eq x.name g.name ≡ here
      → find_group (cond here (g ∷ xs) (x ∷ groups_with xs g)) name ≡ cond (bytes_eq g.name name) (Some g) (cond (bytes_eq x.name name) (Some x) (find_group xs name))
  by_place rest true e = by_new (bytes_eq g.name name) (ap (λ (n : List ℕ). bytes_eq n name) (same_text x.name g.name e)) where
    by_new : (new : Bool) → bytes_eq x.name name ≡ new → cond new (Some g) (find_group xs name) ≡ cond new (Some g) (cond (bytes_eq x.name name) (Some x) (find_group xs name))
    by_new true f = refl
    by_new false f = ap (λ (t : Bool). cond t (Some x) (find_group xs name)) (sym f)
  by_place rest false e = ap (λ (o : Option Group). cond (bytes_eq x.name name) (Some x) o) rest ∙ by_both (bytes_eq x.name name) (bytes_eq g.name name) refl refl where
    by_both : (old new : Bool) → bytes_eq x.name name ≡ old → bytes_eq g.name name ≡ new → cond old (Some x) (cond new (Some g) (find_group xs name)) ≡ cond new (Some g) (cond old (Some x) (find_group xs name))
    by_both true true f h = absurd (let clash : true ≡ false = sym (text_same x.name g.name (same_text x.name name f ∙ sym (same_text g.name name h))) ∙ e in cc)
    by_both true false f h = refl
    by_both false new f h = refl

-- ---- transitions keep the name

abbrev KeepsName : {A : Type 0} → (Group → GroupTransition A) → Type 0
KeepsName transition = (g : Group) → (group_after g (transition g)).name ≡ g.name

sync_named : (request : SyncGroupRequest) (moment : ℕ) → KeepsName (λ g. sync_group g request moment)
sync_named request moment g = by_test (is_empty request.group) (member_refusal g request.generation request.member) where
  by_test : (b : Bool) (refusal : Option ErrorCode) → (group_after g (cond b (Stays codes.InvalidGroupId) (sync_transition refusal g request moment))).name ≡ g.name
  by_test true refusal = refl
  by_test false None = refl
  by_test false (Some code) = refl

beat_named : (request : HeartbeatRequest) (moment : ℕ) → KeepsName (λ g. beat_group g request moment)
beat_named request moment g = by_test (is_empty request.group) (member_refusal g request.generation request.member) where
  by_test : (b : Bool) (refusal : Option ErrorCode) → (group_after g (cond b (Stays codes.InvalidGroupId) (beat_transition refusal g moment))).name ≡ g.name
  by_test true refusal = refl
  by_test false None = refl
  by_test false (Some code) = refl

leave_named : (request : LeaveGroupRequest) → KeepsName (λ g. leave_group g request)
leave_named request g = by_test (is_empty request.group) (is_member g request.member) where
  by_test : (b m : Bool) → (group_after {A = Unit {0}} g (cond b (Stays codes.InvalidGroupId) (cond (not m) (Stays codes.UnknownMemberId) (Puts tt (without_member g))))).name ≡ g.name
  by_test true m = refl
  by_test false true = refl
  by_test false false = refl

noted_named : (refusal : Option ErrorCode) (g : Group) (e : OffsetEvent) → (group_after g (event_transition refusal g e)).name ≡ g.name
noted_named None g e = refl
noted_named (Some code) g e = refl

join_named : (request : JoinGroupRequest) (place moment : ℕ) → KeepsName (λ g. join_group g request place moment)
join_named request place moment g = by_test (is_empty request.group) (session_timeout request.session_timeout) where
  by_entry : (refusal : Option ErrorCode) (timeout : ℕ) (protocol : OfferedProtocol) → (group_after g (join_transition refusal g request.member timeout place protocol moment)).name ≡ g.name
  by_entry None timeout protocol = refl
  by_entry (Some code) timeout protocol = refl

  by_protocol : (protocol : Option OfferedProtocol) (timeout : ℕ) → (group_after g (join_under protocol timeout g request.member place moment)).name ≡ g.name
  by_protocol None timeout = refl
  by_protocol (Some protocol) timeout = by_entry (entry_refusal g request.member) timeout protocol

  by_test : (b : Bool) (timeout : Option ℕ) → (group_after g (cond b (Stays codes.InvalidGroupId) (join_within timeout g request place moment))).name ≡ g.name
  by_test true timeout = refl
  by_test false None = refl
  by_test false (Some timeout) = by_protocol (chosen_protocol request) timeout

-- ---- one call

-- what is found under a name after a transition on the group of another name, or of this
transition_others : {A : Type 0} (gs : List Group) (own name : List ℕ) (t : GroupTransition A) → (group_after (group_of gs own) t).name ≡ (group_of gs own).name → bytes_eq own name ≡ false → find_group (groups_after gs t) name ≡ find_group gs name
transition_others gs own name (Stays code) named other = refl
transition_others gs own name (Puts answer g) named other =
    find_put gs g name ∙ ap (λ (t : Bool). cond t (Some g) (find_group gs name)) (ap (λ (n : List ℕ). bytes_eq n name) (named ∙ name_of gs own) ∙ other)

transition_found : {A : Type 0} (gs hs : List Group) (name : List ℕ) (t : GroupTransition A) → (g : Group) → (group_after g t).name ≡ name → find_group gs name ≡ find_group hs name → find_group (groups_after gs t) name ≡ find_group (groups_after hs t) name
transition_found gs hs name (Stays code) g named same = same
transition_found gs hs name (Puts answer new) g named same = find_put gs new name ∙ ap (λ (o : Option Group). cond (bytes_eq new.name name) (Some new) o) same ∙ sym (find_put hs new name)

group_same : (gs hs : List Group) (own name : List ℕ) → bytes_eq own name ≡ true → find_group gs name ≡ find_group hs name → group_of gs own ≡ group_of hs own
group_same gs hs own name is same =
    ap (group_of gs) (same_text own name is) ∙ ap (λ (o : Option Group). unwrap_or o (fresh_group name)) same ∙ sym (ap (group_of hs) (same_text own name is))

transition_own : {A : Type 0} (gs hs : List Group) (own name : List ℕ) (transition : Group → GroupTransition A) → KeepsName transition → bytes_eq own name ≡ true → find_group gs name ≡ find_group hs name
    → find_group (groups_after gs (transition (group_of gs own))) name ≡ find_group (groups_after hs (transition (group_of hs own))) name
transition_own gs hs own name transition named is same =
    transition_found gs hs name (transition (group_of gs own)) (group_of gs own) (named (group_of gs own) ∙ name_of gs own ∙ same_text own name is) same
    ∙ ap (λ (g : Group). find_group (groups_after hs (transition g)) name) (group_same gs hs own name is same)

pub expired_name : (moment : ℕ) (g : Group) → (without_lapsed moment g).name ≡ g.name
expired_name moment g = by_test (is_lapsed moment g.member) where
  by_test : (b : Bool) → (cond b (without_member g) g).name ≡ g.name
  by_test true = refl
  by_test false = refl

pub find_expired : (moment : ℕ) (gs : List Group) (name : List ℕ) → find_group (map (without_lapsed moment) gs) name ≡ option_map (without_lapsed moment) (find_group gs name)
find_expired moment [] name = refl
find_expired moment (g ∷ gs) name =
    ap (λ (n : List ℕ). cond (bytes_eq n name) (Some (without_lapsed moment g)) (find_group (map (without_lapsed moment) gs) name)) (expired_name moment g)
    ∙ by_test (find_expired moment gs name) (bytes_eq g.name name) where
      by_test : find_group (map (without_lapsed moment) gs) name ≡ option_map (without_lapsed moment) (find_group gs name) → (b : Bool)
          → cond b (Some (without_lapsed moment g)) (find_group (map (without_lapsed moment) gs) name) ≡ option_map (without_lapsed moment) (cond b (Some g) (find_group gs name))
      by_test rest true = refl
      by_test rest false = rest

call_others : (gs : List Group) (c : Call) (name : List ℕ) → concerns name c ≡ false → find_group (groups_after_call gs c) name ≡ find_group gs name
call_others gs (Join request place moment) name h = transition_others gs request.group name (join gs request place moment) (join_named request place moment (group_of gs request.group)) h
call_others gs (Sync request moment) name h = transition_others gs request.group name (sync gs request moment) (sync_named request moment (group_of gs request.group)) h
call_others gs (Beat request moment) name h = transition_others gs request.group name (beat gs request moment) (beat_named request moment (group_of gs request.group)) h
call_others gs (Leave request) name h = transition_others gs request.group name (leave gs request) (leave_named request (group_of gs request.group)) h
call_others gs (Commits own generation member o) name h = transition_others gs own name (commit gs own generation member o) (noted_named (commit_refusal (group_of gs own) generation member) (group_of gs own) (Put o)) h
call_others gs (Stages own producer generation member o) name h = transition_others gs own name (stage gs own producer generation member o) (noted_named (stage_refusal (group_of gs own) generation member) (group_of gs own) (Stage producer o)) h
call_others gs (Decides own producer outcome) name h = transition_others gs own name (decide gs own producer outcome) refl h
call_others gs (Tick moment) name h = absurd (let clash : true ≡ false = h in cc)

call_own : (gs hs : List Group) (c : Call) (name : List ℕ) → concerns name c ≡ true → find_group gs name ≡ find_group hs name → find_group (groups_after_call gs c) name ≡ find_group (groups_after_call hs c) name
call_own gs hs (Join request place moment) name h same = transition_own gs hs request.group name (λ g. join_group g request place moment) (join_named request place moment) h same
call_own gs hs (Sync request moment) name h same = transition_own gs hs request.group name (λ g. sync_group g request moment) (sync_named request moment) h same
call_own gs hs (Beat request moment) name h same = transition_own gs hs request.group name (λ g. beat_group g request moment) (beat_named request moment) h same
call_own gs hs (Leave request) name h same = transition_own gs hs request.group name (λ g. leave_group g request) (leave_named request) h same
call_own gs hs (Commits own generation member o) name h same = transition_own gs hs own name (λ g. commit_group g generation member o) (λ g. noted_named (commit_refusal g generation member) g (Put o)) h same
call_own gs hs (Stages own producer generation member o) name h same = transition_own gs hs own name (λ g. stage_group g producer generation member o) (λ g. noted_named (stage_refusal g generation member) g (Stage producer o)) h same
call_own gs hs (Decides own producer outcome) name h same = transition_own gs hs own name (λ g. decided g) (λ g. refl) h same where
  decided : Group → GroupTransition (Unit {0})
  decided g = Puts tt (with_event (Decide producer outcome) g)
call_own gs hs (Tick moment) name h same = find_expired moment gs name ∙ ap (option_map (without_lapsed moment)) same ∙ sym (find_expired moment hs name)

-- ---- any calls

pub groups_are_apart : GroupsAreApart
groups_are_apart gs hs [] name same = same
groups_are_apart gs hs (c ∷ cs) name same = by_test (λ new old h. groups_are_apart new old cs name h) (concerns name c) refl where
  by_test : ((new old : List Group) → find_group new name ≡ find_group old name → find_group (groups_after_calls new cs) name ≡ find_group (groups_after_calls old (concerning_calls name cs)) name)
      → (b : Bool) → concerns name c ≡ b → find_group (groups_after_calls (groups_after_call gs c) cs) name ≡ find_group (groups_after_calls hs (cond b (c ∷ concerning_calls name cs) (concerning_calls name cs))) name
  by_test rest true e = rest (groups_after_call gs c) (groups_after_call hs c) (call_own gs hs c name e same)
  by_test rest false e = rest (groups_after_call gs c) hs (call_others gs c name e ∙ same)

answer_own : (gs hs : List Group) (c : Call) (name : List ℕ) → concerns name c ≡ true → find_group gs name ≡ find_group hs name → answer_to gs c ≡ answer_to hs c
answer_own gs hs (Join request place moment) name h same = ap (λ (g : Group). IsJoined (answer_of (join_group g request place moment))) (group_same gs hs request.group name h same)
answer_own gs hs (Sync request moment) name h same = ap (λ (g : Group). IsAssigned (answer_of (sync_group g request moment))) (group_same gs hs request.group name h same)
answer_own gs hs (Beat request moment) name h same = ap (λ (g : Group). IsDone (answer_of (beat_group g request moment))) (group_same gs hs request.group name h same)
answer_own gs hs (Leave request) name h same = ap (λ (g : Group). IsDone (answer_of (leave_group g request))) (group_same gs hs request.group name h same)
answer_own gs hs (Commits own generation member o) name h same = ap (λ (g : Group). IsDone (answer_of (commit_group g generation member o))) (group_same gs hs own name h same)
answer_own gs hs (Stages own producer generation member o) name h same = ap (λ (g : Group). IsDone (answer_of (stage_group g producer generation member o))) (group_same gs hs own name h same)
answer_own gs hs (Decides own producer outcome) name h same = refl
answer_own gs hs (Tick moment) name h same = refl

pub answers_are_apart : AnswersAreApart
answers_are_apart gs hs cs c name same about = answer_own (groups_after_calls gs cs) (groups_after_calls hs (concerning_calls name cs)) c name about (groups_are_apart gs hs cs name same)
