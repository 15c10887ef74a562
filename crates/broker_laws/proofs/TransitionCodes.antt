-- What the calls of members are told, by number.
use Rattle.std.proofs.Common.{◌≡◌, ◌≢◌, ℕ, ◌<◌, ◌≤◌, ℤ, pos, negsuc, List, [], ◌∷◌, Option, Some, None, Result, Ok, Err, Bool, true, false, cond, refl, sym, ap, subst, ◌∙◌, arith}
use Rattle.std.specs.Prelude.{not, is_some, slice_get, nat_le, ◌<ℤ◌, ◌≤ℤ◌}
use Rattle.std.proofs.lemmas.Bool.{and_from, and_left, and_right, le-leb, lt-leb}
use Rattle.std.proofs.lemmas.Int.{ints}
use Rattle.acl_binding.specs.declared.question.Caller.{Caller}
use Rattle.authorizer.specs.declared.answer.Refusal.{Refusal}
use Rattle.authorizer.specs.Asking.{part_refusal}
use Rattle.wire_types.specs.declared.error_code.ErrorCode.{ErrorCode}
use Rattle.wire_types.specs.declared.error_code.ErrorCode.TheVariants as errors
use Rattle.wire_types.specs.ErrorCode.{number_of}
use Rattle.msg_group.specs.declared.join_group.JoinGroupRequest.{JoinGroupRequest}
use Rattle.msg_group.specs.declared.join_group.JoinGroupReply.{JoinGroupReply}
use Rattle.msg_group.specs.declared.join_group.OfferedProtocol.{OfferedProtocol}
use Rattle.msg_group.specs.declared.sync_group.SyncGroupRequest.{SyncGroupRequest}
use Rattle.msg_group.specs.declared.sync_group.SyncGroupReply.{SyncGroupReply}
use Rattle.msg_group.specs.declared.heartbeat.HeartbeatRequest.{HeartbeatRequest}
use Rattle.msg_group.specs.declared.heartbeat.HeartbeatReply.{HeartbeatReply}
use Rattle.msg_group.specs.declared.leave_group.LeaveGroupRequest.{LeaveGroupRequest}
use Rattle.msg_group.specs.declared.leave_group.LeaveGroupReply.{LeaveGroupReply}
use Rattle.msg_admin.specs.declared.reply.Reply.{Reply}
use Rattle.msg_admin.specs.declared.reply.Reply.TheVariants as replies
use Rattle.msg_admin.specs.declared.request.Request.TheVariants.{JoinGroup, SyncGroup, Heartbeat, LeaveGroup}
use Rattle.audit_trail.specs.declared.event.Event.TheVariants.{Ask}
use Rattle.walk.specs.Codes.{refusal_code}
use Rattle.group_offsets.specs.declared.group.Group.{Group}
use Rattle.group_offsets.specs.declared.member.Member.{Member}
use Rattle.group_offsets.specs.declared.member.Joined.{Joined}
use Rattle.group_offsets.specs.GroupTransition.{GroupTransition, Stays, Puts, answer_of}
use Rattle.group_offsets.specs.Group.{is_empty, is_member, member_refusal, sync_transition, sync_group, beat_transition, beat_group, without_member, leave_group}
use Rattle.group_offsets.specs.Joining.{session_timeout, chosen_protocol, entry_refusal, join_transition, join_under, join_within, join_group}
use Rattle.group_offsets.specs.Groups.{group_of, join, sync, beat, leave}
use Rattle.broker_world.specs.World.{World, rules_of}
use Rattle.broker_world.specs.Whole.{Served, whole_outcome_by}
use Rattle.broker_world.specs.Questions.{read_question}
use Rattle.broker_world.specs.Codes.{code_in}
use Rattle.group_handlers.specs.Members.{join_error, join_reply, served_join, sync_reply, served_sync as synced_by, beat_reply, served_heartbeat, leave_reply, served_leave as left_by}
use Rattle.api_dispatch.specs.Step.{reply_to}
use Rattle.broker_laws.specs.Members.{IsMember}
use Rattle.broker_laws.specs.MemberCodes.{IsLasting, IsOffering, IsJoinNumber, IsOwnNumber, IsLeaveNumber, ByNumber, TellsNothing, CallsByNumber}
use Rattle.broker_laws.proofs.Turning.{empty_is, none_zero, is_member_by, member_is}
use Rattle.broker_laws.proofs.Refusing.{read_number}
use Rattle.broker_laws.proofs.Membership.{join_same, sync_same, beat_same, leave_same}
use Rattle.broker_laws.proofs.Putting.{stranger_refused, other_refused, own_unrefused}

abbrev transition_number : {A : Type 0} → GroupTransition A → ℤ
transition_number t = number_of (code_in (answer_of t))

-- ---- tests

is_full : (text : List ℕ) → text ≢ [] → is_empty text ≡ false
is_full text h = by_test (is_empty text) refl where
  by_test : (b : Bool) → is_empty text ≡ b → is_empty text ≡ false
  by_test true e = absurd (h (empty_is text e))
  by_test false e = e

is_void : (text : List ℕ) → text ≡ [] → is_empty text ≡ true
is_void text e = ap is_empty e

stranger_is : (g : Group) (id : List ℕ) → (IsMember g id → ⊥) → is_member g id ≡ false
stranger_is g id other = by_test (is_member g id) refl where
  by_test : (b : Bool) → is_member g id ≡ b → is_member g id ≡ false
  by_test true e = absurd (other (member_is g id e))
  by_test false e = e

too_short : (z : ℤ) → z <ℤ pos 6000 → session_timeout z ≡ None
too_short (negsuc k) h = refl
too_short (pos k) h =
    let low : k < 6000 = omega (arith, ints, h) in
    ap (λ (b : Bool). cond b (Some k) None) (and_left (nat_le 6000 k) (nat_le k 1800000) (lt-leb 6000 k low))

too_long : (z : ℤ) → pos 1800000 <ℤ z → session_timeout z ≡ None
too_long (negsuc k) h = refl
too_long (pos k) h =
    let high : 1800000 < k = omega (arith, ints, h) in
    ap (λ (b : Bool). cond b (Some k) None) (and_right (nat_le 6000 k) (nat_le k 1800000) (lt-leb k 1800000 high))

lasts : (z : ℤ) → pos 6000 ≤ℤ z → z ≤ℤ pos 1800000 → (n : ℕ) × (session_timeout z ≡ Some n)
lasts (negsuc k) h l = absurd (omega (arith, ints, h))
lasts (pos k) h l =
    let low : 6000 ≤ k = omega (arith, ints, h) in
    let high : k ≤ 1800000 = omega (arith, ints, l) in
    (k, ap (λ (b : Bool). cond b (Some k) None) (and_from (nat_le 6000 k) (nat_le k 1800000) (le-leb 6000 k low) (le-leb k 1800000 high)))

offers : (r : JoinGroupRequest) → r.protocol_type ≢ [] → r.protocols ≢ [] → (p : OfferedProtocol) × (chosen_protocol r ≡ Some p)
offers r typed some =
    let first = by_list r.protocols some in
    (first.0, ap (λ (b : Bool). cond b None (slice_get r.protocols 0)) (is_full r.protocol_type typed) ∙ first.1) where
      by_list : (ps : List OfferedProtocol) → ps ≢ [] → (p : OfferedProtocol) × (slice_get ps 0 ≡ Some p)
      by_list [] h = absurd (h refl)
      by_list (p ∷ ps) h = (p, refl)

no_list : (b : Bool) (ps : List OfferedProtocol) → ps ≡ [] → cond b None (slice_get ps 0) ≡ None
no_list true ps e = refl
no_list false ps e = ap (λ (l : List OfferedProtocol). slice_get l 0) e

none_offered : (r : JoinGroupRequest) → r.protocols ≡ [] → chosen_protocol r ≡ None
none_offered r e = no_list (is_empty r.protocol_type) r.protocols e

-- ---- JoinGroup

module _ (g : Group) (r : JoinGroupRequest) (place moment : ℕ) where
  named_group : r.group ≢ [] → join_group g r place moment ≡ join_within (session_timeout r.session_timeout) g r place moment
  named_group h = ap (λ (b : Bool). cond b (Stays errors.InvalidGroupId) (join_within (session_timeout r.session_timeout) g r place moment)) (is_full r.group h)

  lasting : IsLasting r → (n : ℕ) × (join_group g r place moment ≡ join_under (chosen_protocol r) n g r.member place moment)
  lasting h =
      let found = lasts r.session_timeout h.1 h.2 in
      (found.0, named_group h.0 ∙ ap (λ (o : Option ℕ). join_within o g r place moment) found.1)

  unchosen : IsLasting r → chosen_protocol r ≡ None → join_group g r place moment ≡ Stays errors.InconsistentGroupProtocol
  unchosen h none =
      let timed = lasting h in
      timed.1 ∙ ap (λ (o : Option OfferedProtocol). join_under o timed.0 g r.member place moment) none

  offering : IsOffering r → (n : ℕ) × (p : OfferedProtocol) × (join_group g r place moment ≡ join_transition (entry_refusal g r.member) g r.member n place p moment)
  offering h =
      let timed = lasting h.0 in
      let found = offers r h.1 h.2 in
      (timed.0, found.0, timed.1 ∙ ap (λ (o : Option OfferedProtocol). join_under o timed.0 g r.member place moment) found.1)

  refused_entry : IsOffering r → (code : ErrorCode) → entry_refusal g r.member ≡ Some code → transition_number (join_group g r place moment) ≡ number_of code
  refused_entry h code e =
      let found = offering h in
      ap (λ (t : GroupTransition Joined). transition_number t) (found.2 ∙ ap (λ (o : Option ErrorCode). join_transition o g r.member found.0 place found.1 moment) e)

  let_in_is : IsOffering r → entry_refusal g r.member ≡ None → transition_number (join_group g r place moment) ≡ pos 0
  let_in_is h e =
      let found = offering h in
      ap (λ (t : GroupTransition Joined). transition_number t) (found.2 ∙ ap (λ (o : Option ErrorCode). join_transition o g r.member found.0 place found.1 moment) e) ∙ none_zero

  abbrev entry_by : Bool → Bool → Bool → Option ErrorCode
  entry_by nameless some own = cond nameless (cond some (Some errors.GroupMaxSizeReached) None) (cond own None (Some errors.UnknownMemberId))

  join_numbers : IsJoinNumber g r (transition_number (join_group g r place moment))
  unfolding number_of
  join_numbers = record {
    no_group = λ e. ap (λ (b : Bool). transition_number (cond b (Stays errors.InvalidGroupId) (join_within (session_timeout r.session_timeout) g r place moment))) (is_void r.group e);
    short = λ named low. ap (λ (t : GroupTransition Joined). transition_number t) (named_group named ∙ ap (λ (o : Option ℕ). join_within o g r place moment) (too_short r.session_timeout low));
    long = λ named high. ap (λ (t : GroupTransition Joined). transition_number t) (named_group named ∙ ap (λ (o : Option ℕ). join_within o g r place moment) (too_long r.session_timeout high));
    no_type = λ h e. ap (λ (t : GroupTransition Joined). transition_number t) (unchosen h (ap (λ (b : Bool). cond b None (slice_get r.protocols 0)) (is_void r.protocol_type e)));
    no_protocol = λ h e. ap (λ (t : GroupTransition Joined). transition_number t) (unchosen h (none_offered r e));
    new = λ h nameless none. let_in_is h (ap (λ (b : Bool). entry_by b (is_some g.member) (is_member g r.member)) (is_void r.member nameless) ∙ ap (λ (o : Option Member). cond (is_some o) (Some errors.GroupMaxSizeReached) None) none);
    full = λ h nameless m has. refused_entry h errors.GroupMaxSizeReached (ap (λ (b : Bool). entry_by b (is_some g.member) (is_member g r.member)) (is_void r.member nameless) ∙ ap (λ (o : Option Member). cond (is_some o) (Some errors.GroupMaxSizeReached) None) has);
    back = λ h names is. let_in_is h (ap (λ (b : Bool). entry_by b (is_some g.member) (is_member g r.member)) (is_full r.member names) ∙ ap (λ (b : Bool). cond b None (Some errors.UnknownMemberId)) (is_member_by g r.member is));
    stranger = λ h names other. refused_entry h errors.UnknownMemberId (ap (λ (b : Bool). entry_by b (is_some g.member) (is_member g r.member)) (is_full r.member names) ∙ ap (λ (b : Bool). cond b None (Some errors.UnknownMemberId)) (stranger_is g r.member other));
  }

-- ---- SyncGroup, Heartbeat, LeaveGroup

sync_refused : (g : Group) (r : SyncGroupRequest) (moment : ℕ) (o : Option ErrorCode) → r.group ≢ [] → member_refusal g r.generation r.member ≡ o → transition_number (sync_group g r moment) ≡ transition_number (sync_transition o g r moment)
sync_refused g r moment o named e =
    ap (λ (b : Bool). transition_number (cond b (Stays errors.InvalidGroupId) (sync_transition (member_refusal g r.generation r.member) g r moment))) (is_full r.group named)
    ∙ ap (λ (x : Option ErrorCode). transition_number (sync_transition x g r moment)) e

sync_numbers : (g : Group) (r : SyncGroupRequest) (moment : ℕ) → IsOwnNumber g r.group r.generation r.member (transition_number (sync_group g r moment))
unfolding number_of
sync_numbers g r moment = record {
  no_group = λ e. ap (λ (b : Bool). transition_number (cond b (Stays errors.InvalidGroupId) (sync_transition (member_refusal g r.generation r.member) g r moment))) (is_void r.group e);
  stranger = λ named other. sync_refused g r moment (Some errors.UnknownMemberId) named (stranger_refused g r.generation r.member other);
  other_generation = λ named is other. sync_refused g r moment (Some errors.IllegalGeneration) named (other_refused g r.generation r.member is other);
  own = λ named own. sync_refused g r moment None named (own_unrefused g r.generation r.member own);
}

beat_refused : (g : Group) (r : HeartbeatRequest) (moment : ℕ) (o : Option ErrorCode) → r.group ≢ [] → member_refusal g r.generation r.member ≡ o → transition_number (beat_group g r moment) ≡ transition_number (beat_transition o g moment)
beat_refused g r moment o named e =
    ap (λ (b : Bool). transition_number (cond b (Stays errors.InvalidGroupId) (beat_transition (member_refusal g r.generation r.member) g moment))) (is_full r.group named)
    ∙ ap (λ (x : Option ErrorCode). transition_number (beat_transition x g moment)) e

beat_numbers : (g : Group) (r : HeartbeatRequest) (moment : ℕ) → IsOwnNumber g r.group r.generation r.member (transition_number (beat_group g r moment))
unfolding number_of
beat_numbers g r moment = record {
  no_group = λ e. ap (λ (b : Bool). transition_number (cond b (Stays errors.InvalidGroupId) (beat_transition (member_refusal g r.generation r.member) g moment))) (is_void r.group e);
  stranger = λ named other. beat_refused g r moment (Some errors.UnknownMemberId) named (stranger_refused g r.generation r.member other);
  other_generation = λ named is other. beat_refused g r moment (Some errors.IllegalGeneration) named (other_refused g r.generation r.member is other);
  own = λ named own. beat_refused g r moment None named (own_unrefused g r.generation r.member own);
}

left_transition : Group → GroupTransition (Unit {0})
left_transition g = Puts tt (without_member g)

abbrev left_number : Bool → ℤ
left_number own = cond own (pos 0) (pos 25)

leave_by : (g : Group) (b m : Bool) → transition_number (cond b (Stays errors.InvalidGroupId) (cond (not m) (Stays errors.UnknownMemberId) (left_transition g))) ≡ cond b (pos 24) (left_number m)
unfolding number_of left_transition
leave_by g true m = refl
leave_by g false true = refl
leave_by g false false = refl

leave_is : (g : Group) (r : LeaveGroupRequest) (b m : Bool) → is_empty r.group ≡ b → is_member g r.member ≡ m → transition_number (leave_group g r) ≡ cond b (pos 24) (left_number m)
unfolding left_transition
leave_is g r b m e f = leave_by g (is_empty r.group) (is_member g r.member) ∙ ap (λ (t : Bool). cond t (pos 24) (left_number (is_member g r.member))) e ∙ ap (λ (t : Bool). cond b (pos 24) (left_number t)) f

leave_numbers : (g : Group) (r : LeaveGroupRequest) → IsLeaveNumber g r.group r.member (transition_number (leave_group g r))
leave_numbers g r = record {
  no_group = λ e. leave_is g r true (is_member g r.member) (is_void r.group e) refl;
  stranger = λ named other. leave_is g r false false (is_full r.group named) (stranger_is g r.member other);
  own = λ named is. leave_is g r false true (is_full r.group named) (is_member_by g r.member is);
}

-- ---- a request

join_code : (told : Result Joined ErrorCode) (r : JoinGroupRequest) → (join_reply told r).error ≡ code_in told
join_code (Ok j) r = refl
join_code (Err code) r = refl

sync_code : (told : Result (List ℕ) ErrorCode) → (sync_reply told).error ≡ code_in told
sync_code (Ok assignment) = refl
sync_code (Err code) = refl

join_failed : (told : Result Joined ErrorCode) (r : JoinGroupRequest) → number_of (join_reply told r).error ≢ pos 0 → TellsNothing r (join_reply told r)
join_failed (Ok j) r h = absurd (h none_zero)
join_failed (Err code) r h = record { generation = refl; member = refl; leader = refl; members = refl }

sync_failed : (told : Result (List ℕ) ErrorCode) → number_of (sync_reply told).error ≢ pos 0 → (sync_reply told).assignment ≡ []
sync_failed (Ok assignment) h = absurd (h none_zero)
sync_failed (Err code) h = refl

-- by whether the permission was granted
by_grant : (w : World) (caller : Caller) (group : List ℕ) (refused : ErrorCode → Reply) (served : Served) (Law : Option Refusal → Reply → Type 0)
    → ((x : Refusal) → part_refusal (rules_of w) (read_question caller group ∷ []) ≡ Some x → Law (Some x) (refused (refusal_code x)))
    → (part_refusal (rules_of w) (read_question caller group ∷ []) ≡ None → Law None served.reply)
    → Law (part_refusal (rules_of w) (read_question caller group ∷ [])) (whole_outcome_by (part_refusal (rules_of w) (read_question caller group ∷ [])) w refused served).reply
by_grant w caller group refused served Law some none = by_refusal (part_refusal (rules_of w) (read_question caller group ∷ [])) refl where
  by_refusal : (o : Option Refusal) → part_refusal (rules_of w) (read_question caller group ∷ []) ≡ o → Law o (whole_outcome_by o w refused served).reply
  by_refusal (Some x) e = some x e
  by_refusal None e = none e

some_none : (x : Refusal) → Some x ≡ None → ⊥
some_none x h = cc

-- the law of a call, by its number
abbrev NumberLaw : (Table : ℤ → Type 0) → Option Refusal → ℤ → Type 0
NumberLaw Table o number = (o ≡ None → Table number) × ((o ≡ None → ⊥) → number ≡ pos 30)

number_refused : (w : World) (caller : Caller) (group : List ℕ) (Table : ℤ → Type 0) (x : Refusal) (number : ℤ) → part_refusal (rules_of w) (read_question caller group ∷ []) ≡ Some x → number_of (refusal_code x) ≡ number → NumberLaw Table (Some x) number
number_refused w caller group Table x number e is = (λ none. absurd (some_none x none), λ some. sym is ∙ read_number (rules_of w) caller group x e)

number_served : (Table : ℤ → Type 0) (number : ℤ) → Table number → NumberLaw Table None number
number_served Table number h = (λ none. h, λ some. absurd (some refl))

module _ (w : World) (caller : Caller) (client : Option (List ℕ)) where
  joins_by : (r : JoinGroupRequest) (reply : JoinGroupReply) → reply_to w (Ask caller client (JoinGroup r)) ≡ replies.JoinGroup reply → ByNumber w caller (JoinGroup r) (IsJoinNumber (group_of w.groups r.group) r) (number_of reply.error)
  joins_by r reply = by_grant w caller r.group (λ code. replies.JoinGroup (join_error code r)) (served_join w r)
      (λ o answer. answer ≡ replies.JoinGroup reply → NumberLaw (IsJoinNumber (group_of w.groups r.group) r) o (number_of reply.error))
      (λ x e h. number_refused w caller r.group (IsJoinNumber (group_of w.groups r.group) r) x (number_of reply.error) e (ap (λ (y : JoinGroupReply). number_of y.error) (join_same (join_error (refusal_code x) r) reply h)))
      (λ e h. number_served (IsJoinNumber (group_of w.groups r.group) r) (number_of reply.error)
      (subst (IsJoinNumber (group_of w.groups r.group) r)
      (ap number_of (sym (join_code (answer_of (join w.groups r w.events w.moment)) r) ∙ ap (λ (y : JoinGroupReply). y.error) (join_same (join_reply (answer_of (join w.groups r w.events w.moment)) r) reply h)))
      (join_numbers (group_of w.groups r.group) r w.events w.moment)))

  syncs_by : (r : SyncGroupRequest) (reply : SyncGroupReply) → reply_to w (Ask caller client (SyncGroup r)) ≡ replies.SyncGroup reply → ByNumber w caller (SyncGroup r) (IsOwnNumber (group_of w.groups r.group) r.group r.generation r.member) (number_of reply.error)
  syncs_by r reply = by_grant w caller r.group (λ code. replies.SyncGroup (sync_reply (Err code))) (synced_by w r)
      (λ o answer. answer ≡ replies.SyncGroup reply → NumberLaw (IsOwnNumber (group_of w.groups r.group) r.group r.generation r.member) o (number_of reply.error))
      (λ x e h. number_refused w caller r.group (IsOwnNumber (group_of w.groups r.group) r.group r.generation r.member) x (number_of reply.error) e (ap (λ (y : SyncGroupReply). number_of y.error) (sync_same (sync_reply (Err (refusal_code x))) reply h)))
      (λ e h. number_served (IsOwnNumber (group_of w.groups r.group) r.group r.generation r.member) (number_of reply.error)
      (subst (IsOwnNumber (group_of w.groups r.group) r.group r.generation r.member)
      (ap number_of (sym (sync_code (answer_of (sync w.groups r w.moment))) ∙ ap (λ (y : SyncGroupReply). y.error) (sync_same (sync_reply (answer_of (sync w.groups r w.moment))) reply h)))
      (sync_numbers (group_of w.groups r.group) r w.moment)))

  beats_by : (r : HeartbeatRequest) (reply : HeartbeatReply) → reply_to w (Ask caller client (Heartbeat r)) ≡ replies.Heartbeat reply → ByNumber w caller (Heartbeat r) (IsOwnNumber (group_of w.groups r.group) r.group r.generation r.member) (number_of reply.error)
  beats_by r reply = by_grant w caller r.group (λ code. replies.Heartbeat (beat_reply code)) (served_heartbeat w r)
      (λ o answer. answer ≡ replies.Heartbeat reply → NumberLaw (IsOwnNumber (group_of w.groups r.group) r.group r.generation r.member) o (number_of reply.error))
      (λ x e h. number_refused w caller r.group (IsOwnNumber (group_of w.groups r.group) r.group r.generation r.member) x (number_of reply.error) e (ap (λ (y : HeartbeatReply). number_of y.error) (beat_same (beat_reply (refusal_code x)) reply h)))
      (λ e h. number_served (IsOwnNumber (group_of w.groups r.group) r.group r.generation r.member) (number_of reply.error)
      (subst (IsOwnNumber (group_of w.groups r.group) r.group r.generation r.member)
      (ap (λ (y : HeartbeatReply). number_of y.error) (beat_same (beat_reply (code_in (answer_of (beat w.groups r w.moment)))) reply h))
      (beat_numbers (group_of w.groups r.group) r w.moment)))

  leaves_by : (r : LeaveGroupRequest) (reply : LeaveGroupReply) → reply_to w (Ask caller client (LeaveGroup r)) ≡ replies.LeaveGroup reply → ByNumber w caller (LeaveGroup r) (IsLeaveNumber (group_of w.groups r.group) r.group r.member) (number_of reply.error)
  leaves_by r reply = by_grant w caller r.group (λ code. replies.LeaveGroup (leave_reply code)) (left_by w r)
      (λ o answer. answer ≡ replies.LeaveGroup reply → NumberLaw (IsLeaveNumber (group_of w.groups r.group) r.group r.member) o (number_of reply.error))
      (λ x e h. number_refused w caller r.group (IsLeaveNumber (group_of w.groups r.group) r.group r.member) x (number_of reply.error) e (ap (λ (y : LeaveGroupReply). number_of y.error) (leave_same (leave_reply (refusal_code x)) reply h)))
      (λ e h. number_served (IsLeaveNumber (group_of w.groups r.group) r.group r.member) (number_of reply.error)
      (subst (IsLeaveNumber (group_of w.groups r.group) r.group r.member)
      (ap (λ (y : LeaveGroupReply). number_of y.error) (leave_same (leave_reply (code_in (answer_of (leave w.groups r)))) reply h))
      (leave_numbers (group_of w.groups r.group) r)))

  unjoined_by : (r : JoinGroupRequest) (reply : JoinGroupReply) → reply_to w (Ask caller client (JoinGroup r)) ≡ replies.JoinGroup reply → number_of reply.error ≢ pos 0 → TellsNothing r reply
  unjoined_by r reply = by_grant w caller r.group (λ code. replies.JoinGroup (join_error code r)) (served_join w r)
      (λ o answer. answer ≡ replies.JoinGroup reply → number_of reply.error ≢ pos 0 → TellsNothing r reply)
      (λ x e h error. subst (TellsNothing r) (join_same (join_error (refusal_code x) r) reply h) (record { generation = refl; member = refl; leader = refl; members = refl }))
      (λ e h error.
      let told = answer_of (join w.groups r w.events w.moment) in
      let same = join_same (join_reply told r) reply h in
      subst (TellsNothing r) same (join_failed told r (λ zero. error (ap (λ (y : JoinGroupReply). number_of y.error) (sym same) ∙ zero))))

  unsynced_by : (r : SyncGroupRequest) (reply : SyncGroupReply) → reply_to w (Ask caller client (SyncGroup r)) ≡ replies.SyncGroup reply → number_of reply.error ≢ pos 0 → reply.assignment ≡ []
  unsynced_by r reply = by_grant w caller r.group (λ code. replies.SyncGroup (sync_reply (Err code))) (synced_by w r)
      (λ o answer. answer ≡ replies.SyncGroup reply → number_of reply.error ≢ pos 0 → reply.assignment ≡ [])
      (λ x e h error. ap (λ (y : SyncGroupReply). y.assignment) (sym (sync_same (sync_reply (Err (refusal_code x))) reply h)))
      (λ e h error.
      let told = answer_of (sync w.groups r w.moment) in
      let same = sync_same (sync_reply told) reply h in
      ap (λ (y : SyncGroupReply). y.assignment) (sym same) ∙ sync_failed told (λ zero. error (ap (λ (y : SyncGroupReply). number_of y.error) (sym same) ∙ zero)))

pub calls_by_number : CallsByNumber reply_to
calls_by_number w = record { joins = joins_by w; syncs = syncs_by w; beats = beats_by w; leaves = leaves_by w; unjoined = unjoined_by w; unsynced = unsynced_by w }
