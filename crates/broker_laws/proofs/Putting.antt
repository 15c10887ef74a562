-- Who commits offsets for a group, and what that leaves.
use Rattle.std.proofs.Common.{◌≡◌, ◌≢◌, inl, inr, ℕ, ℤ, pos, negsuc, List, [], ◌∷◌, ◌++◌, Option, Some, None, Bool, true, false, cond, refl, sym, ap, subst, ◌∙◌, append-nil}
use Rattle.std.specs.Prelude.{not, is_some}
use Rattle.std.specs.Ordering.{int_eq}
use Rattle.std.specs.Str.{bytes_eq}
use Rattle.std.proofs.lemmas.Bool.{and_from, and_parts}
use Rattle.std.proofs.lemmas.Bool.Decides.{Decides-int_eq}
use Rattle.acl_binding.specs.declared.question.Caller.{Caller}
use Rattle.authorizer.specs.declared.answer.Refusal.{Refusal}
use Rattle.wire_types.specs.declared.error_code.ErrorCode.{ErrorCode}
use Rattle.wire_types.specs.declared.error_code.ErrorCode.TheVariants as errors
use Rattle.wire_types.specs.declared.topic.Topic.{Topic}
use Rattle.wire_types.specs.ErrorCode.{number_of}
use Rattle.msg_group.specs.declared.offset_commit.OffsetCommitRequest.{OffsetCommitRequest}
use Rattle.msg_group.specs.declared.offset_commit.OffsetCommitReply.{OffsetCommitReply}
use Rattle.msg_group.specs.declared.offset_commit.OffsetToCommit.{OffsetToCommit}
use Rattle.msg_group.specs.declared.offset_commit.CommittedOffset.{CommittedOffset}
use Rattle.msg_txn.specs.declared.txn_offset_commit.TxnOffsetCommitRequest.{TxnOffsetCommitRequest}
use Rattle.msg_txn.specs.declared.txn_offset_commit.TxnOffsetCommitReply.{TxnOffsetCommitReply}
use Rattle.msg_txn.specs.declared.txn_offset_commit.OffsetToStage.{OffsetToStage}
use Rattle.msg_txn.specs.declared.txn_offset_commit.StagedOffset.{StagedOffset}
use Rattle.msg_admin.specs.declared.request.Request.TheVariants.{OffsetCommit, TxnOffsetCommit}
use Rattle.msg_admin.specs.declared.reply.Reply.TheVariants as replies
use Rattle.audit_trail.specs.declared.event.Event.TheVariants.{Ask}
use Rattle.walk.specs.Rule.{refusal_of}
use Rattle.walk.specs.Codes.{refusal_code}
use Rattle.walk.specs.Steps.{topics_world}
use Rattle.walk.proofs.Weaving.{woven}
use Rattle.txn_coordinator.specs.declared.target.Target.TheVariants.{Group as group_target}
use Rattle.group_offsets.specs.declared.event.PartitionOffset.{PartitionOffset}
use Rattle.group_offsets.specs.declared.event.OffsetEvent.{OffsetEvent}
use Rattle.group_offsets.specs.declared.event.OffsetEvent.TheVariants.{Put, Stage}
use Rattle.group_offsets.specs.declared.group.Group.{Group}
use Rattle.group_offsets.specs.declared.member.Member.{Member}
use Rattle.group_offsets.specs.GroupTransition.{answer_of}
use Rattle.group_offsets.specs.Group.{is_empty, is_member, member_refusal, is_unmanaged, or_awaited, commit_refusal, stage_refusal, with_event, event_transition}
use Rattle.group_offsets.specs.Groups.{group_of, groups_after}
use Rattle.group_offsets.proofs.Apart.{name_of}
use Rattle.broker_world.specs.World.{World, LogValue, rules_of}
use Rattle.broker_world.specs.Logs.{log_at}
use Rattle.broker_world.specs.Codes.{code_in}
use Rattle.group_handlers.specs.OffsetCommit.{committing_of, offset_of, committed_code, code_by, groups_by, committing_rule}
use Rattle.txn_handlers.specs.TxnOffsetCommit.{staging_of, offset_staged, staged_code, transition_by, staging_refusal, staging_rule}
use Rattle.api_dispatch.specs.Step.{step, reply_to}
use Rattle.broker_laws.specs.Members.{group_in, IsMember, IsMemberIn, IsAsBefore}
use Rattle.broker_laws.specs.Commits.{IsNobody, IsAssigned, MayCommit, IsCommitNumber, MayStage, IsStageNumber, BothTopics, made_topics, MayAsk, IsCommitAnswer, put_part, CommitsBy, IsStageAnswer, stage_part, StagesBy, CommitsAreOfMembers}
use Rattle.broker_laws.proofs.Offsets.{text_is, noted_offsets}
use Rattle.broker_laws.proofs.Walks.{walk_goes}
use Rattle.broker_laws.proofs.Passing.{never_none, held_error}
use Rattle.broker_laws.proofs.Turning.{text_same, empty_is, zero_is, none_zero, is_member_by, member_is, own_is, refusal_error, put_group}
use Rattle.broker_laws.proofs.Membership.{as_before, before_joined, all_noted}
use Rattle.broker_laws.proofs.Refusing.{commit_number, stage_number}
use Rattle.broker_laws.proofs.Pairing.{IsOne, AreAll, all_are}

-- ---- what the tests tell

nobody_is : (generation : ℤ) (member : List ℕ) → is_unmanaged generation member ≡ true → IsNobody generation member
nobody_is generation member h =
    let parts = and_parts (int_eq generation (negsuc 0)) (is_empty member) h in
    record { minus_one = (Decides-int_eq generation (negsuc 0)).0 parts.0; nameless = empty_is member parts.1 }

is_nobody : (generation : ℤ) (member : List ℕ) → IsNobody generation member → is_unmanaged generation member ≡ true
is_nobody generation member h = and_from (int_eq generation (negsuc 0)) (is_empty member) ((Decides-int_eq generation (negsuc 0)).1 h.minus_one) (ap is_empty h.nameless)

somebody : (generation : ℤ) (member : List ℕ) → (IsNobody generation member → ⊥) → is_unmanaged generation member ≡ false
somebody generation member h = by_test (is_unmanaged generation member) refl where
  by_test : (b : Bool) → is_unmanaged generation member ≡ b → is_unmanaged generation member ≡ false
  by_test true e = absurd (h (nobody_is generation member e))
  by_test false e = e

pub stranger_refused : (g : Group) (generation : ℤ) (member : List ℕ) → (IsMember g member → ⊥) → member_refusal g generation member ≡ Some errors.UnknownMemberId
stranger_refused g generation member h = by_test (is_member g member) refl where
  by_test : (b : Bool) → is_member g member ≡ b → cond (not b) (Some errors.UnknownMemberId) (cond (not (int_eq g.generation generation)) (Some errors.IllegalGeneration) None) ≡ Some errors.UnknownMemberId
  by_test true e = absurd (h (member_is g member e))
  by_test false e = refl

pub other_refused : (g : Group) (generation : ℤ) (member : List ℕ) → IsMember g member → g.generation ≢ generation → member_refusal g generation member ≡ Some errors.IllegalGeneration
other_refused g generation member is other =
    ap (λ (b : Bool). cond (not b) (Some errors.UnknownMemberId) (cond (not (int_eq g.generation generation)) (Some errors.IllegalGeneration) None)) (is_member_by g member is)
    ∙ by_test (int_eq g.generation generation) refl where
      by_test : (b : Bool) → int_eq g.generation generation ≡ b → cond (not b) (Some errors.IllegalGeneration) None ≡ Some errors.IllegalGeneration
      by_test true e = absurd (other ((Decides-int_eq g.generation generation).0 e))
      by_test false e = refl

pub own_unrefused : (g : Group) (generation : ℤ) (member : List ℕ) → IsMemberIn g member generation → member_refusal g generation member ≡ None
own_unrefused g generation member own =
    ap (λ (b : Bool). cond (not b) (Some errors.UnknownMemberId) (cond (not (int_eq g.generation generation)) (Some errors.IllegalGeneration) None)) (is_member_by g member own.is)
    ∙ ap (λ (b : Bool). cond (not b) (Some errors.IllegalGeneration) None) ((Decides-int_eq g.generation generation).1 own.current)

-- ---- the numbers

-- that of a refusal, or of none
abbrev refusal_number : Option ErrorCode → ℤ
refusal_number None = pos 0
refusal_number (Some code) = number_of code

managed_as : (g : Group) (generation : ℤ) (member : List ℕ) (b : Bool) → is_unmanaged generation member ≡ b
    → commit_refusal g generation member ≡ cond b (cond (is_some g.member) (Some errors.UnknownMemberId) None) (or_awaited (member_refusal g generation member) g.assignment)
managed_as g generation member b e = ap (λ (t : Bool). cond t (cond (is_some g.member) (Some errors.UnknownMemberId) None) (or_awaited (member_refusal g generation member) g.assignment)) e

commit_numbers : (g : Group) (generation : ℤ) (member : List ℕ) → IsCommitNumber g generation member (refusal_number (commit_refusal g generation member))
unfolding number_of
commit_numbers g generation member = record {
  unmanaged = λ u. ap refusal_number (managed_as g generation member true (is_nobody generation member u.by) ∙ ap (λ (o : Option Member). cond (is_some o) (Some errors.UnknownMemberId) None) u.empty);
  managed = λ by m has. ap refusal_number (managed_as g generation member true (is_nobody generation member by) ∙ ap (λ (o : Option Member). cond (is_some o) (Some errors.UnknownMemberId) None) has);
  stranger = λ named other. ap refusal_number (managed_as g generation member false (somebody generation member named) ∙ ap (λ (o : Option ErrorCode). or_awaited o g.assignment) (stranger_refused g generation member other));
  other_generation = λ named is other. ap refusal_number (managed_as g generation member false (somebody generation member named) ∙ ap (λ (o : Option ErrorCode). or_awaited o g.assignment) (other_refused g generation member is other));
  awaited = λ named own none. ap refusal_number (managed_as g generation member false (somebody generation member named) ∙ ap (λ (o : Option ErrorCode). or_awaited o g.assignment) (own_unrefused g generation member own) ∙ ap (or_awaited None) none);
  assigned = λ named own. ap refusal_number (managed_as g generation member false (somebody generation member named) ∙ ap (λ (o : Option ErrorCode). or_awaited o g.assignment) (own_unrefused g generation member own.by) ∙ ap (or_awaited None) own.has);
}

staged_as : (g : Group) (generation : ℤ) (member : List ℕ) (b : Bool) → is_unmanaged generation member ≡ b → stage_refusal g generation member ≡ cond b None (member_refusal g generation member)
staged_as g generation member b e = ap (λ (t : Bool). cond t None (member_refusal g generation member)) e

stage_numbers : (g : Group) (generation : ℤ) (member : List ℕ) → IsStageNumber g generation member (refusal_number (stage_refusal g generation member))
unfolding number_of
stage_numbers g generation member = record {
  nobody = λ by. ap refusal_number (staged_as g generation member true (is_nobody generation member by));
  stranger = λ named other. ap refusal_number (staged_as g generation member false (somebody generation member named) ∙ stranger_refused g generation member other);
  other_generation = λ named is other. ap refusal_number (staged_as g generation member false (somebody generation member named) ∙ other_refused g generation member is other);
  own = λ named own. ap refusal_number (staged_as g generation member false (somebody generation member named) ∙ own_unrefused g generation member own);
}

-- ---- who passes

may_commit : (g : Group) (generation : ℤ) (member : List ℕ) → commit_refusal g generation member ≡ None → MayCommit g generation member
may_commit g generation member h = by_test (is_unmanaged generation member) refl h where
  no_member : (o : Option Member) → cond (is_some o) (Some errors.UnknownMemberId) None ≡ None → o ≡ None
  no_member None h = refl
  no_member (Some m) h = absurd (let clash : Some errors.UnknownMemberId ≡ None = h in cc)

  assigned : (o : Option ErrorCode) → member_refusal g generation member ≡ o → (a : Option (List ℕ)) → g.assignment ≡ a → or_awaited o a ≡ None → IsAssigned g generation member
  assigned (Some code) e a has h = absurd (let clash : Some code ≡ None = h in cc)
  assigned None e None has h = absurd (let clash : Some errors.RebalanceInProgress ≡ None = h in cc)
  assigned None e (Some a) has h = record { by = own_is g generation member e; assignment = a; has = has }

  by_test : (b : Bool) → is_unmanaged generation member ≡ b → cond b (cond (is_some g.member) (Some errors.UnknownMemberId) None) (or_awaited (member_refusal g generation member) g.assignment) ≡ None → MayCommit g generation member
  by_test true e h = inl (record { by = nobody_is generation member e; empty = no_member g.member h })
  by_test false e h = inr (assigned (member_refusal g generation member) refl g.assignment refl h)

may_stage : (g : Group) (generation : ℤ) (member : List ℕ) → stage_refusal g generation member ≡ None → MayStage g generation member
may_stage g generation member h = by_test (is_unmanaged generation member) refl h where
  by_test : (b : Bool) → is_unmanaged generation member ≡ b → cond b None (member_refusal g generation member) ≡ None → MayStage g generation member
  by_test true e h = inl (nobody_is generation member e)
  by_test false e h = inr (own_is g generation member h)

commit_error : (g : Group) (generation : ℤ) (member : List ℕ) → commit_refusal g generation member ≡ Some errors.None → ⊥
commit_error g generation member h = by_test (is_unmanaged generation member) (is_some g.member) h where
  awaits : (o : Option ErrorCode) (a : Option (List ℕ)) → member_refusal g generation member ≡ o → or_awaited o a ≡ Some errors.None → ⊥
  awaits (Some code) a e h = refusal_error g generation member (e ∙ h)
  awaits None None e h = let clash : Some errors.RebalanceInProgress ≡ Some errors.None = h in cc
  awaits None (Some a) e h = let clash : None ≡ Some errors.None = h in cc

  by_test : (b c : Bool) → cond b (cond c (Some errors.UnknownMemberId) None) (or_awaited (member_refusal g generation member) g.assignment) ≡ Some errors.None → ⊥
  by_test true true h = let clash : Some errors.UnknownMemberId ≡ Some errors.None = h in cc
  by_test true false h = let clash : None ≡ Some errors.None = h in cc
  by_test false c h = awaits (member_refusal g generation member) g.assignment refl h

stage_error : (g : Group) (generation : ℤ) (member : List ℕ) → stage_refusal g generation member ≡ Some errors.None → ⊥
stage_error g generation member h = by_test (is_unmanaged generation member) h where
  by_test : (b : Bool) → cond b None (member_refusal g generation member) ≡ Some errors.None → ⊥
  by_test true h = let clash : None ≡ Some errors.None = h in cc
  by_test false h = refusal_error g generation member h

-- ---- groups of the same member, generation and assignment

member_before : (old new : Group) → IsAsBefore old new → (id : List ℕ) → IsMember old id → IsMember new id
member_before old new same id h = record { member = h.member; has = same.member ∙ h.has; named = h.named }

member_then : (old new : Group) → IsAsBefore old new → (id : List ℕ) → IsMember new id → IsMember old id
member_then old new same id h = record { member = h.member; has = sym same.member ∙ h.has; named = h.named }

own_before : (old new : Group) → IsAsBefore old new → (id : List ℕ) (generation : ℤ) → IsMemberIn old id generation → IsMemberIn new id generation
own_before old new same id generation h = record { is = member_before old new same id h.is; current = same.generation ∙ h.current }

commit_before : (old new : Group) → IsAsBefore old new → (generation : ℤ) (member : List ℕ) (n : ℤ) → IsCommitNumber new generation member n → IsCommitNumber old generation member n
commit_before old new same generation member n h = record {
  unmanaged = λ u. h.unmanaged (record { by = u.by; empty = same.member ∙ u.empty });
  managed = λ by m has. h.managed by m (same.member ∙ has);
  stranger = λ named other. h.stranger named (λ is. other (member_then old new same member is));
  other_generation = λ named is other. h.other_generation named (member_before old new same member is) (λ e. other (sym same.generation ∙ e));
  awaited = λ named own none. h.awaited named (own_before old new same member generation own) (same.assignment ∙ none);
  assigned = λ named own. h.assigned named (record { by = own_before old new same member generation own.by; assignment = own.assignment; has = same.assignment ∙ own.has });
}

stage_before : (old new : Group) → IsAsBefore old new → (generation : ℤ) (member : List ℕ) (n : ℤ) → IsStageNumber new generation member n → IsStageNumber old generation member n
stage_before old new same generation member n h = record {
  nobody = λ by. h.nobody by;
  stranger = λ named other. h.stranger named (λ is. other (member_then old new same member is));
  other_generation = λ named is other. h.other_generation named (member_before old new same member is) (λ e. other (sym same.generation ∙ e));
  own = λ named own. h.own named (own_before old new same member generation own);
}

-- ---- a part

-- an error isn't the number 0
error_test : (code : ErrorCode) → (code ≡ errors.None → ⊥) → int_eq (number_of code) (pos 0) ≡ false
error_test code error = by_test (int_eq (number_of code) (pos 0)) refl where
  by_test : (b : Bool) → int_eq (number_of code) (pos 0) ≡ b → int_eq (number_of code) (pos 0) ≡ false
  by_test true e = absurd (error (zero_is code ((Decides-int_eq (number_of code) (pos 0)).0 e)))
  by_test false e = e

none_test : int_eq (number_of errors.None) (pos 0) ≡ true
none_test = (Decides-int_eq (number_of errors.None) (pos 0)).1 none_zero

-- so an error adds nothing, and no error the event
adds_none : (old : List OffsetEvent) (code : ErrorCode) (e : OffsetEvent) → (code ≡ errors.None → ⊥) → old ≡ old ++ cond (int_eq (number_of code) (pos 0)) (e ∷ []) []
adds_none old code e error = sym (append-nil old) ∙ ap (λ (b : Bool). old ++ cond b (e ∷ []) []) (sym (error_test code error))

adds_event : (old : List OffsetEvent) (e : OffsetEvent) → old ++ e ∷ [] ≡ old ++ cond (int_eq (number_of errors.None) (pos 0)) (e ∷ []) []
adds_event old e = ap (λ (b : Bool). old ++ cond b (e ∷ []) []) (sym none_test)

unknown_topic : errors.UnknownTopicOrPartition ≡ errors.None → ⊥
unknown_topic h = cc

three : number_of errors.UnknownTopicOrPartition ≡ pos 3
unfolding number_of
three = refl

pub not_refused : (o : Option Refusal) (x : Refusal) → o ≡ Some x → o ≡ None → ⊥
not_refused o x e h = let clash : None ≡ Some x = sym h ∙ e in cc

log_clash : (o : Option LogValue) (log : LogValue) → o ≡ None → o ≡ Some log → ⊥
log_clash o log e h = let clash : None ≡ Some log = sym e ∙ h in cc

-- the group of this name has the event after its others
noted_own : (gs : List Group) (name : List ℕ) (e : OffsetEvent) → (group_of (groups_after gs (event_transition None (group_of gs name) e)) name).offsets ≡ (group_of gs name).offsets ++ e ∷ []
noted_own gs name e =
    noted_offsets gs name e name ∙ ap (λ (b : Bool). cond b ((group_of gs name).offsets ++ e ∷ []) (group_of gs name).offsets) (text_same name name refl)

text_apart : (a b : List ℕ) → a ≢ b → bytes_eq a b ≡ false
text_apart a b other = by_test (bytes_eq a b) refl where
  by_test : (t : Bool) → bytes_eq a b ≡ t → bytes_eq a b ≡ false
  by_test true e = absurd (other (text_is a b e))
  by_test false e = e

-- each other group is as it was
abbrev OthersStay : List ℕ → List Group → List Group → Type 0
OthersStay name old new = (g : List ℕ) → name ≢ g → group_of new g ≡ group_of old g

others_noted : (gs : List Group) (name : List ℕ) (e : OffsetEvent) (refusal : Option ErrorCode) → OthersStay name gs (groups_after gs (event_transition refusal (group_of gs name) e))
others_noted gs name e (Some code) g other = refl
others_noted gs name e None g other =
    put_group gs (with_event e (group_of gs name)) name g (name_of gs name) ∙ ap (λ (b : Bool). cond b (with_event e (group_of gs name)) (group_of gs g)) (text_apart name g other)

-- ---- OffsetCommit: a part

-- what it leaves, and the code that it is told
record CommitPart (w : World) (caller : Caller) (r : OffsetCommitRequest) (gs : List Group) (name : List ℕ) (p : OffsetToCommit) (after : List Group) (code : ErrorCode) : Type 0 where
  keeps : IsAsBefore (group_in w r.group) (group_of after r.group)
  is : IsCommitAnswer w caller r name p (committed_code code p)
  adds : (group_of after r.group).offsets ≡ (group_of gs r.group).offsets ++ put_part name p (committed_code code p)

module _ (w : World) (caller : Caller) (r : OffsetCommitRequest) where
  commit_noted : (gs : List Group) (name : List ℕ) (p : OffsetToCommit) (log : LogValue) → MayAsk w caller (OffsetCommit r) name → IsAsBefore (group_in w r.group) (group_of gs r.group) → log_at w.topics name p.index ≡ Some log
      → (refusal : Option ErrorCode) → commit_refusal (group_of gs r.group) r.generation r.member ≡ refusal
      → CommitPart w caller r gs name p (groups_after gs (event_transition refusal (group_of gs r.group) (Put (offset_of name p)))) (code_in (answer_of (event_transition refusal (group_of gs r.group) (Put (offset_of name p)))))
  commit_noted gs name p log granted keeps found (Some code) e = record {
    keeps = keeps;
    is = record {
      index = refl;
      refused = λ may_not. absurd (may_not granted);
      missing = λ may none. absurd (log_clash (log_at w.topics name p.index) log none found);
      there = λ may other is. commit_before (group_in w r.group) (group_of gs r.group) keeps r.generation r.member (number_of code)
          (subst (IsCommitNumber (group_of gs r.group) r.generation r.member) (ap refusal_number e) (commit_numbers (group_of gs r.group) r.generation r.member));
    };
    adds = adds_none (group_of gs r.group).offsets code (Put (offset_of name p)) (λ none. commit_error (group_of gs r.group) r.generation r.member (e ∙ ap (λ (c : ErrorCode). Some c) none));
  }
  commit_noted gs name p log granted keeps found None e =
      let after = groups_after gs (event_transition None (group_of gs r.group) (Put (offset_of name p))) in
      record {
        keeps = before_joined (group_in w r.group) (group_of gs r.group) (group_of after r.group) keeps (all_noted gs r.group (Put (offset_of name p)) None r.group);
        is = record {
          index = refl;
          refused = λ may_not. absurd (may_not granted);
          missing = λ may none. absurd (log_clash (log_at w.topics name p.index) log none found);
          there = λ may other is. commit_before (group_in w r.group) (group_of gs r.group) keeps r.generation r.member (number_of errors.None)
              (subst (IsCommitNumber (group_of gs r.group) r.generation r.member) (ap refusal_number e ∙ sym none_zero) (commit_numbers (group_of gs r.group) r.generation r.member));
        };
        adds = noted_own gs r.group (Put (offset_of name p)) ∙ adds_event (group_of gs r.group).offsets (Put (offset_of name p));
      }

  commit_found : (gs : List Group) (name : List ℕ) (p : OffsetToCommit) → MayAsk w caller (OffsetCommit r) name → IsAsBefore (group_in w r.group) (group_of gs r.group) → (found : Option LogValue) → log_at w.topics name p.index ≡ found
      → CommitPart w caller r gs name p (groups_by (committing_of r) gs name p found) (code_by (committing_of r) gs name p found)
  commit_found gs name p granted keeps None e = record {
    keeps = keeps;
    is = record { index = refl; refused = λ may_not. absurd (may_not granted); missing = λ may none. three; there = λ may log found. absurd (log_clash (log_at w.topics name p.index) log e found) };
    adds = adds_none (group_of gs r.group).offsets errors.UnknownTopicOrPartition (Put (offset_of name p)) unknown_topic;
  }
  commit_found gs name p granted keeps (Some log) e = commit_noted gs name p log granted keeps e (commit_refusal (group_of gs r.group) r.generation r.member) refl

  abbrev CommitOne : Option Refusal → List Group → List ℕ → OffsetToCommit → Type 0
  CommitOne o gs name p =
      IsOne (committing_rule w caller r) (λ hs. IsAsBefore (group_in w r.group) (group_of hs r.group)) (IsCommitAnswer w caller r) put_part (λ hs. (group_of hs r.group).offsets) o gs name p

  commit_one : (gs : List Group) (name : List ℕ) (p : OffsetToCommit) → IsAsBefore (group_in w r.group) (group_of gs r.group) → (o : Option Refusal) → refusal_of (committing_rule w caller r) (rules_of w) name p ≡ o → CommitOne o gs name p
  commit_one gs name p keeps (Some x) e = record {
    keeps = keeps;
    is = record {
      index = refl;
      refused = λ may_not. commit_number (rules_of w) caller r.group name x e;
      missing = λ may none. absurd (not_refused (refusal_of (committing_rule w caller r) (rules_of w) name p) x e may);
      there = λ may log found. absurd (not_refused (refusal_of (committing_rule w caller r) (rules_of w) name p) x e may);
    };
    adds = adds_none (group_of gs r.group).offsets (refusal_code x) (Put (offset_of name p)) (never_none x.question.kind);
  }
  commit_one gs name p keeps None e =
      let part = commit_found gs name p e keeps (log_at w.topics name p.index) refl in
      record { keeps = part.keeps; is = part.is; adds = part.adds }

  commits_all : AreAll (committing_rule w caller r) (rules_of w) (λ hs. IsAsBefore (group_in w r.group) (group_of hs r.group)) (IsCommitAnswer w caller r) put_part (λ hs. (group_of hs r.group).offsets) w.groups r.topics
  commits_all =
      all_are (committing_rule w caller r) (rules_of w) (λ hs. IsAsBefore (group_in w r.group) (group_of hs r.group)) (IsCommitAnswer w caller r) put_part (λ hs. (group_of hs r.group).offsets) commit_one w.groups r.topics (as_before (group_in w r.group))

  others_committed : (gs : List Group) (name : List ℕ) (p : OffsetToCommit) (found : Option LogValue) → OthersStay r.group gs (groups_by (committing_of r) gs name p found)
  others_committed gs name p None g other = refl
  others_committed gs name p (Some log) g other = others_noted gs r.group (Put (offset_of name p)) (commit_refusal (group_of gs r.group) r.generation r.member) g other

  commit_others : OthersStay r.group w.groups (topics_world (committing_rule w caller r) (rules_of w) w.groups r.topics)
  commit_others = walk_goes (committing_rule w caller r) (rules_of w) (OthersStay r.group) (λ gs g other. refl) (λ us vs ws a b g other. b g other ∙ a g other)
      (λ gs name p. others_committed gs name p (log_at w.topics name p.index)) w.groups r.topics

  -- where nobody may commit, all groups stay
  abbrev CommitStays : List Group → List Group → Type 0
  CommitStays old new = (MayCommit (group_of old r.group) r.generation r.member → ⊥) → new ≡ old

  stays_noted : (gs : List Group) (e : OffsetEvent) (refusal : Option ErrorCode) → commit_refusal (group_of gs r.group) r.generation r.member ≡ refusal → CommitStays gs (groups_after gs (event_transition refusal (group_of gs r.group) e))
  stays_noted gs e (Some code) is none = refl
  stays_noted gs e None is none = absurd (none (may_commit (group_of gs r.group) r.generation r.member is))

  stays_committed : (gs : List Group) (name : List ℕ) (p : OffsetToCommit) (found : Option LogValue) → CommitStays gs (groups_by (committing_of r) gs name p found)
  stays_committed gs name p None none = refl
  stays_committed gs name p (Some log) none = stays_noted gs (Put (offset_of name p)) (commit_refusal (group_of gs r.group) r.generation r.member) refl none

  stays_joined : (us vs ws : List Group) → CommitStays us vs → CommitStays vs ws → CommitStays us ws
  stays_joined us vs ws a b none =
      let first = a none in
      b (subst (λ (gs : List Group). MayCommit (group_of gs r.group) r.generation r.member → ⊥) (sym first) none) ∙ first

  commit_none : CommitStays w.groups (topics_world (committing_rule w caller r) (rules_of w) w.groups r.topics)
  commit_none = walk_goes (committing_rule w caller r) (rules_of w) CommitStays (λ gs none. refl) stays_joined (λ gs name p. stays_committed gs name p (log_at w.topics name p.index)) w.groups r.topics

commit_topics : (a b : OffsetCommitReply) → replies.OffsetCommit a ≡ replies.OffsetCommit b → a.topics ≡ b.topics
commit_topics a b h = let same : a ≡ b = cc in ap (λ (x : OffsetCommitReply). x.topics) same

pub commits_by : (w : World) (caller : Caller) (client : Option (List ℕ)) (r : OffsetCommitRequest) (reply : OffsetCommitReply) → reply_to w (Ask caller client (OffsetCommit r)) ≡ replies.OffsetCommit reply → CommitsBy step w caller client r reply
commits_by w caller client r reply told =
    let walk = woven (committing_rule w caller r) (rules_of w) w.groups r.topics in
    let all = commits_all w caller r in
    let same = walk.answers ∙ commit_topics _ reply told in
    record {
      answers = subst (BothTopics (IsCommitAnswer w caller r) r.topics) same all.are;
      offsets = ap (λ (gs : List Group). (group_of gs r.group).offsets) (sym walk.world) ∙ all.add
          ∙ ap (λ (l : List (Topic CommittedOffset)). (group_in w r.group).offsets ++ made_topics put_part r.topics l) same;
      others = λ g other. ap (λ (gs : List Group). group_of gs g) (sym walk.world) ∙ commit_others w caller r g other;
      none = λ none. sym walk.world ∙ commit_none w caller r none;
    }

-- ---- TxnOffsetCommit: a part

record StagePart (w : World) (caller : Caller) (r : TxnOffsetCommitRequest) (gs : List Group) (name : List ℕ) (p : OffsetToStage) (after : List Group) (code : ErrorCode) : Type 0 where
  keeps : IsAsBefore (group_in w r.group) (group_of after r.group)
  is : IsStageAnswer w caller r name p (staged_code code p)
  adds : (group_of after r.group).offsets ≡ (group_of gs r.group).offsets ++ stage_part r.producer name p (staged_code code p)

module _ (w : World) (caller : Caller) (r : TxnOffsetCommitRequest) where
  stage_noted : (gs : List Group) (name : List ℕ) (p : OffsetToStage) (log : LogValue) → MayAsk w caller (TxnOffsetCommit r) name → IsAsBefore (group_in w r.group) (group_of gs r.group) → log_at w.topics name p.index ≡ Some log
      → (refusal : Option ErrorCode) → stage_refusal (group_of gs r.group) r.generation r.member ≡ refusal
      → StagePart w caller r gs name p (groups_after gs (event_transition refusal (group_of gs r.group) (Stage r.producer (offset_staged name p)))) (code_in (answer_of (event_transition refusal (group_of gs r.group) (Stage r.producer (offset_staged name p)))))
  stage_noted gs name p log granted keeps found (Some code) e = record {
    keeps = keeps;
    is = record {
      index = refl;
      refused = λ may_not. absurd (may_not granted);
      missing = λ may none. absurd (log_clash (log_at w.topics name p.index) log none found);
      there = λ may held other is. stage_before (group_in w r.group) (group_of gs r.group) keeps r.generation r.member (number_of code)
          (subst (IsStageNumber (group_of gs r.group) r.generation r.member) (ap refusal_number e) (stage_numbers (group_of gs r.group) r.generation r.member));
    };
    adds = adds_none (group_of gs r.group).offsets code (Stage r.producer (offset_staged name p)) (λ none. stage_error (group_of gs r.group) r.generation r.member (e ∙ ap (λ (c : ErrorCode). Some c) none));
  }
  stage_noted gs name p log granted keeps found None e =
      let event = Stage r.producer (offset_staged name p) in
      let after = groups_after gs (event_transition None (group_of gs r.group) event) in
      record {
        keeps = before_joined (group_in w r.group) (group_of gs r.group) (group_of after r.group) keeps (all_noted gs r.group event None r.group);
        is = record {
          index = refl;
          refused = λ may_not. absurd (may_not granted);
          missing = λ may none. absurd (log_clash (log_at w.topics name p.index) log none found);
          there = λ may held other is. stage_before (group_in w r.group) (group_of gs r.group) keeps r.generation r.member (number_of errors.None)
              (subst (IsStageNumber (group_of gs r.group) r.generation r.member) (ap refusal_number e ∙ sym none_zero) (stage_numbers (group_of gs r.group) r.generation r.member));
        };
        adds = noted_own gs r.group event ∙ adds_event (group_of gs r.group).offsets event;
      }

  held_clash : (o : Option ErrorCode) (code : ErrorCode) → o ≡ Some code → o ≡ None → ⊥
  held_clash o code e h = let clash : None ≡ Some code = sym h ∙ e in cc

  stage_found : (gs : List Group) (name : List ℕ) (p : OffsetToStage) → MayAsk w caller (TxnOffsetCommit r) name → IsAsBefore (group_in w r.group) (group_of gs r.group) → (found : Option LogValue) → log_at w.topics name p.index ≡ found
      → (refusal : Option ErrorCode) → staging_refusal w.coordinator (staging_of r) ≡ refusal
      → StagePart w caller r gs name p (groups_after gs (transition_by refusal (staging_of r) gs (offset_staged name p) found)) (code_in (answer_of (transition_by refusal (staging_of r) gs (offset_staged name p) found)))
  stage_found gs name p granted keeps None e refusal held = record {
    keeps = keeps;
    is = record { index = refl; refused = λ may_not. absurd (may_not granted); missing = λ may none. three; there = λ may is log found. absurd (log_clash (log_at w.topics name p.index) log e found) };
    adds = adds_none (group_of gs r.group).offsets errors.UnknownTopicOrPartition (Stage r.producer (offset_staged name p)) unknown_topic;
  }
  stage_found gs name p granted keeps (Some log) e (Some code) held = record {
    keeps = keeps;
    is = record {
      index = refl;
      refused = λ may_not. absurd (may_not granted);
      missing = λ may none. absurd (log_clash (log_at w.topics name p.index) log none e);
      there = λ may is other found. absurd (held_clash (staging_refusal w.coordinator (staging_of r)) code held is);
    };
    adds = adds_none (group_of gs r.group).offsets code (Stage r.producer (offset_staged name p))
        (λ none. held_error w.coordinator r.transactional_id (staging_of r).pair (group_target r.group) (held ∙ ap (λ (c : ErrorCode). Some c) none));
  }
  stage_found gs name p granted keeps (Some log) e None held = stage_noted gs name p log granted keeps e (stage_refusal (group_of gs r.group) r.generation r.member) refl

  abbrev StageOne : Option Refusal → List Group → List ℕ → OffsetToStage → Type 0
  StageOne o gs name p =
      IsOne (staging_rule w caller r) (λ hs. IsAsBefore (group_in w r.group) (group_of hs r.group)) (IsStageAnswer w caller r) (stage_part r.producer) (λ hs. (group_of hs r.group).offsets) o gs name p

  stage_one : (gs : List Group) (name : List ℕ) (p : OffsetToStage) → IsAsBefore (group_in w r.group) (group_of gs r.group) → (o : Option Refusal) → refusal_of (staging_rule w caller r) (rules_of w) name p ≡ o → StageOne o gs name p
  stage_one gs name p keeps (Some x) e = record {
    keeps = keeps;
    is = record {
      index = refl;
      refused = λ may_not. stage_number (rules_of w) caller (staging_of r) name x e;
      missing = λ may none. absurd (not_refused (refusal_of (staging_rule w caller r) (rules_of w) name p) x e may);
      there = λ may held log found. absurd (not_refused (refusal_of (staging_rule w caller r) (rules_of w) name p) x e may);
    };
    adds = adds_none (group_of gs r.group).offsets (refusal_code x) (Stage r.producer (offset_staged name p)) (never_none x.question.kind);
  }
  stage_one gs name p keeps None e =
      let part = stage_found gs name p e keeps (log_at w.topics name p.index) refl (staging_refusal w.coordinator (staging_of r)) refl in
      record { keeps = part.keeps; is = part.is; adds = part.adds }

  stages_all : AreAll (staging_rule w caller r) (rules_of w) (λ hs. IsAsBefore (group_in w r.group) (group_of hs r.group)) (IsStageAnswer w caller r) (stage_part r.producer) (λ hs. (group_of hs r.group).offsets) w.groups r.topics
  stages_all =
      all_are (staging_rule w caller r) (rules_of w) (λ hs. IsAsBefore (group_in w r.group) (group_of hs r.group)) (IsStageAnswer w caller r) (stage_part r.producer) (λ hs. (group_of hs r.group).offsets) stage_one w.groups r.topics (as_before (group_in w r.group))

  others_staged : (gs : List Group) (o : PartitionOffset) (found : Option LogValue) (refusal : Option ErrorCode) → OthersStay r.group gs (groups_after gs (transition_by refusal (staging_of r) gs o found))
  others_staged gs o None refusal g other = refl
  others_staged gs o (Some log) (Some code) g other = refl
  others_staged gs o (Some log) None g other = others_noted gs r.group (Stage r.producer o) (stage_refusal (group_of gs r.group) r.generation r.member) g other

  stage_others : OthersStay r.group w.groups (topics_world (staging_rule w caller r) (rules_of w) w.groups r.topics)
  stage_others = walk_goes (staging_rule w caller r) (rules_of w) (OthersStay r.group) (λ gs g other. refl) (λ us vs ws a b g other. b g other ∙ a g other)
      (λ gs name p. others_staged gs (offset_staged name p) (log_at w.topics name p.index) (staging_refusal w.coordinator (staging_of r))) w.groups r.topics

  abbrev StageStays : List Group → List Group → Type 0
  StageStays old new = (MayStage (group_of old r.group) r.generation r.member → ⊥) → new ≡ old

  stays_held : (gs : List Group) (e : OffsetEvent) (refusal : Option ErrorCode) → stage_refusal (group_of gs r.group) r.generation r.member ≡ refusal → StageStays gs (groups_after gs (event_transition refusal (group_of gs r.group) e))
  stays_held gs e (Some code) is none = refl
  stays_held gs e None is none = absurd (none (may_stage (group_of gs r.group) r.generation r.member is))

  stays_staged : (gs : List Group) (o : PartitionOffset) (found : Option LogValue) (refusal : Option ErrorCode) → StageStays gs (groups_after gs (transition_by refusal (staging_of r) gs o found))
  stays_staged gs o None refusal none = refl
  stays_staged gs o (Some log) (Some code) none = refl
  stays_staged gs o (Some log) None none = stays_held gs (Stage r.producer o) (stage_refusal (group_of gs r.group) r.generation r.member) refl none

  stays_on : (us vs ws : List Group) → StageStays us vs → StageStays vs ws → StageStays us ws
  stays_on us vs ws a b none =
      let first = a none in
      b (subst (λ (gs : List Group). MayStage (group_of gs r.group) r.generation r.member → ⊥) (sym first) none) ∙ first

  stage_none : StageStays w.groups (topics_world (staging_rule w caller r) (rules_of w) w.groups r.topics)
  stage_none = walk_goes (staging_rule w caller r) (rules_of w) StageStays (λ gs none. refl) stays_on
      (λ gs name p. stays_staged gs (offset_staged name p) (log_at w.topics name p.index) (staging_refusal w.coordinator (staging_of r))) w.groups r.topics

stage_topics : (a b : TxnOffsetCommitReply) → replies.TxnOffsetCommit a ≡ replies.TxnOffsetCommit b → a.topics ≡ b.topics
stage_topics a b h = let same : a ≡ b = cc in ap (λ (x : TxnOffsetCommitReply). x.topics) same

pub stages_by : (w : World) (caller : Caller) (client : Option (List ℕ)) (r : TxnOffsetCommitRequest) (reply : TxnOffsetCommitReply) → reply_to w (Ask caller client (TxnOffsetCommit r)) ≡ replies.TxnOffsetCommit reply → StagesBy step w caller client r reply
stages_by w caller client r reply told =
    let walk = woven (staging_rule w caller r) (rules_of w) w.groups r.topics in
    let all = stages_all w caller r in
    let same = walk.answers ∙ stage_topics _ reply told in
    record {
      answers = subst (BothTopics (IsStageAnswer w caller r) r.topics) same all.are;
      offsets = ap (λ (gs : List Group). (group_of gs r.group).offsets) (sym walk.world) ∙ all.add
          ∙ ap (λ (l : List (Topic StagedOffset)). (group_in w r.group).offsets ++ made_topics (stage_part r.producer) r.topics l) same;
      others = λ g other. ap (λ (gs : List Group). group_of gs g) (sym walk.world) ∙ stage_others w caller r g other;
      none = λ none. sym walk.world ∙ stage_none w caller r none;
    }

pub commits_are_of_members : CommitsAreOfMembers step reply_to
commits_are_of_members w = record { commits = commits_by w; stages = stages_by w }
