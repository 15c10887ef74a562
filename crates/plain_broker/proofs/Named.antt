-- Each refusal is named rightly.
use Rattle.std.proofs.Common.{◌≡◌, Bool, true, false, if◌then◌else◌, List, [], ◌∷◌, Option, Some, None, refl}
use Rattle.std.specs.List.{AllByRecursion, cons_option}
use Rattle.acl_binding.specs.declared.question.Question.{Question}
use Rattle.acl_binding.specs.declared.question.Verdict.{Verdict}
use Rattle.acl_binding.specs.declared.question.Verdict.TheVariants.{Yes, Denied, Nothing}
use Rattle.acl_binding.specs.Verdict.{verdict_of, IsDecided}
use Rattle.acl_binding.proofs.Decided.{verdict_right}
use Rattle.authorizer.specs.declared.answer.Refusal.{Refusal}
use Rattle.authorizer.specs.Policy.{is_super}
use Rattle.authorizer.specs.Asking.{Rules, refusal_by, question_refusal, first_of, part_refusal}
use Rattle.msg_admin.specs.declared.request.Request.TheVariants.{Produce, Fetch, ListOffsets, Metadata, OffsetCommit, OffsetFetch, FindCoordinator, JoinGroup, Heartbeat, LeaveGroup, SyncGroup, SaslHandshake, ApiVersions, InitProducerId, AddPartitionsToTxn, AddOffsetsToTxn, EndTxn, TxnOffsetCommit, DescribeAcls, CreateAcls, DeleteAcls, SaslAuthenticate}
use Rattle.api_dispatch.specs.Questions.{asks_itself, offset_parts, parts_of}
use Rattle.api_dispatch.specs.Refusals.{refusals_in, refusal_or_rest}
use Rattle.plain_broker.specs.Named.{IsRightRefusal, RefusalsAreRight}

module _ (rules : Rules) where
  -- what is refused, if something is, is refused rightly
  abbrev IsRight : Option Refusal → Type 0
  IsRight None = Unit {0}
  IsRight (Some r) = IsRightRefusal rules r

  by_verdict : (q : Question) (b : Bool) → is_super rules.supers q.who ≡ b → (v : Verdict) → IsDecided rules.book.entries q v → IsRight (refusal_by (if b then Yes else v) q)
  by_verdict q true super v right = tt
  by_verdict q false super Yes right = tt
  by_verdict q false super (Denied n) right = record { asker = super; why = right }
  by_verdict q false super Nothing right = record { asker = super; why = right }

  of_question : (q : Question) → IsRight (question_refusal rules q)
  of_question q = by_verdict q (is_super rules.supers q.who) refl (verdict_of rules.book.entries q) (verdict_right rules.book.entries q)

  of_first : (o rest : Option Refusal) → IsRight o → IsRight rest → IsRight (first_of o rest)
  of_first (Some r) rest right others = right
  of_first None rest right others = others

  of_part : (qs : List Question) → IsRight (part_refusal rules qs)
  of_part [] = tt
  of_part (q ∷ qs) = of_first (question_refusal rules q) (part_refusal rules qs) (of_question q) (of_part qs)

  after : (o : Option Refusal) (rs : List Refusal) → IsRight o → AllByRecursion (IsRightRefusal rules) rs → AllByRecursion (IsRightRefusal rules) (cons_option o rs)
  after None rs right all = all
  after (Some r) rs right all = (right, all)

  of_parts : (parts : List (List Question)) → AllByRecursion (IsRightRefusal rules) (refusals_in rules parts)
  of_parts [] = tt
  of_parts (qs ∷ parts) = after (part_refusal rules qs) (refusals_in rules parts) (of_part qs) (of_parts parts)

  alone : (o : Option Refusal) (rs : List Refusal) → IsRight o → AllByRecursion (IsRightRefusal rules) rs → AllByRecursion (IsRightRefusal rules) (refusal_or_rest o rs)
  alone (Some r) rs right all = (right, tt)
  alone None rs right all = all

pub refusals_are_right : RefusalsAreRight
refusals_are_right rules caller (OffsetFetch r) = alone rules (part_refusal rules (asks_itself rules caller (OffsetFetch r))) (refusals_in rules (offset_parts caller r.topics)) (of_part rules (asks_itself rules caller (OffsetFetch r))) (of_parts rules (offset_parts caller r.topics))
refusals_are_right rules caller (Produce r) = of_parts rules (parts_of rules caller (Produce r))
refusals_are_right rules caller (Fetch r) = of_parts rules (parts_of rules caller (Fetch r))
refusals_are_right rules caller (ListOffsets r) = of_parts rules (parts_of rules caller (ListOffsets r))
refusals_are_right rules caller (Metadata r) = of_parts rules (parts_of rules caller (Metadata r))
refusals_are_right rules caller (OffsetCommit r) = of_parts rules (parts_of rules caller (OffsetCommit r))
refusals_are_right rules caller (FindCoordinator r) = of_parts rules (parts_of rules caller (FindCoordinator r))
refusals_are_right rules caller (JoinGroup r) = of_parts rules (parts_of rules caller (JoinGroup r))
refusals_are_right rules caller (Heartbeat r) = of_parts rules (parts_of rules caller (Heartbeat r))
refusals_are_right rules caller (LeaveGroup r) = of_parts rules (parts_of rules caller (LeaveGroup r))
refusals_are_right rules caller (SyncGroup r) = of_parts rules (parts_of rules caller (SyncGroup r))
refusals_are_right rules caller (InitProducerId r) = of_parts rules (parts_of rules caller (InitProducerId r))
refusals_are_right rules caller (AddPartitionsToTxn r) = of_parts rules (parts_of rules caller (AddPartitionsToTxn r))
refusals_are_right rules caller (AddOffsetsToTxn r) = of_parts rules (parts_of rules caller (AddOffsetsToTxn r))
refusals_are_right rules caller (EndTxn r) = of_parts rules (parts_of rules caller (EndTxn r))
refusals_are_right rules caller (TxnOffsetCommit r) = of_parts rules (parts_of rules caller (TxnOffsetCommit r))
refusals_are_right rules caller (SaslHandshake r) = of_parts rules (parts_of rules caller (SaslHandshake r))
refusals_are_right rules caller ApiVersions = of_parts rules (parts_of rules caller ApiVersions)
refusals_are_right rules caller (SaslAuthenticate r) = of_parts rules (parts_of rules caller (SaslAuthenticate r))
refusals_are_right rules caller (DescribeAcls r) = of_parts rules (parts_of rules caller (DescribeAcls r))
refusals_are_right rules caller (CreateAcls r) = of_parts rules (parts_of rules caller (CreateAcls r))
refusals_are_right rules caller (DeleteAcls r) = of_parts rules (parts_of rules caller (DeleteAcls r))
