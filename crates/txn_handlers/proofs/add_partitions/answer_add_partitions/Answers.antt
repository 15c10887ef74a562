use Rattle.std.proofs.Common.{◌≡◌, ℤ, List, true, false, [], None, sym, ap, subst, ◌∙◌, arith, rules}
use Rattle.acl_binding.specs.declared.question.Question.{Question}
use Rattle.authorizer.specs.declared.answer.Refusal.{Refusal}
use Rattle.authorizer.specs.Asking.{question_refusal}
use Rattle.authorizer.specs.Settled.{SettledValue}
use Rattle.authorizer.specs.Tally.{count_after_parts}
use Rattle.wire_types.specs.declared.topic.Topic.{Topic}
use Rattle.walk.specs.Walk.{asked_in}
use Rattle.broker_world.specs.declared.handler_result.HandlerResult.{HandlerResult as Told}
use Rattle.walk.specs.Woven.{has_any}
use Rattle.broker_world.specs.contracts.state.State.{the_view}
use Rattle.broker_world.specs.World.{World, rules_of}
use Rattle.txn_handlers.specs.AddPartitions.{cut_rule, is_cut, is_missing, added_parts, cut_outcome, added_outcome, add_partitions_outcome}
use Rattle.txn_handlers.proofs.Added.{id_granted}
use Rattle.txn_handlers.proofs.Cut.{any_of_some, none_of_zero, cut_by_refusal, cut_by_missing, not_cut, cut_outcome_is, added_outcome_is, no_parts_paid, all_parts_paid}
use Rattle.txn_handlers.proofs.add_partitions.answer_add_partitions.Goals.{then-len-ne0-via-then-len-ne0, then-len-ne0-via-else-len-ne0+then-is_missing}
use Rattle.txn_handlers.proofs.add_partitions.answer_add_partitions.Goals as goal

pub returns-then-len-ne0 : goal.returns-then-len-ne0
returns-then-len-ne0 c =
    let v = the_view c.state.inside in
    let caller = c.args.caller.now in
    let r = c.args.request.now in
    let cut : is_cut caller r.transactional_id v.topics (rules_of v) r.topics ≡ true = elim c.then-len-ne0.branch [
      | then-len-ne0-via-then-len-ne0 w ↦ cut_by_refusal caller r.transactional_id v.topics (rules_of v) r.topics (let some : has_any c.in_ok-cut.cut.refusals ≡ true = any_of_some {A = Refusal} c.in_ok-cut.cut.refusals (omega (arith, c.len.ensures, w.if-len-ne0.true)) in rw (c.in_ok-cut.ensures.refusals, c.as_slice-named.ensures) at some)
      | then-len-ne0-via-else-len-ne0+then-is_missing w ↦ cut_by_missing caller r.transactional_id v.topics (rules_of v) r.topics (search rules)
    ] in
    let told = subst (λ (w : World). add_partitions_outcome w caller r ≡ cut_outcome w caller r) c.state.view_is (cut_outcome_is v caller r cut) in
    let unpaid = subst (λ (w : World). added_parts w caller r ≡ []) c.state.view_is (no_parts_paid v caller r cut) in
    record {
      world = search (rules, told);
      reply = search (rules, told);
      refusals = search (rules, told);
      paid = search rules;
      spent = search (rules, unpaid);
    }

pub add_all-requires-clause-granted : goal.add_all-requires-clause-granted
add_all-requires-clause-granted c some =
    let v = the_view c.state.inside in
    let caller = c.args.caller.now in
    let r = c.args.request.now in
    let none = none_of_zero {A = Refusal} c.in_ok-cut.cut.refusals (omega (arith, c.len.ensures, c.if-len-ne0.false)) in
    let asks = ap (λ (s : SettledValue). s.question) (c.in_ok-again.ensures ∙ c.settle-asked.ensures) ∙ c.in_ok-id_question.ensures in
    subst (λ (q : Question). question_refusal (rules_of v) q ≡ None) (sym asks) (id_granted (rules_of v) v.topics caller r.transactional_id r.topics some (rw (c.in_ok-cut.ensures.refusals, c.as_slice-named.ensures) at none))

pub returns : goal.returns
returns c =
    let v = the_view c.state.inside in
    let caller = c.args.caller.now in
    let r = c.args.request.now in
    let none = none_of_zero {A = Refusal} c.in_ok-cut.cut.refusals (omega (arith, c.len.ensures, c.if-len-ne0.false)) in
    let granted = ap has_any none in
    let all : is_missing v.topics r.topics ≡ false = search rules in
    let whole = not_cut caller r.transactional_id v.topics (rules_of v) r.topics (rw (c.in_ok-cut.ensures.refusals, c.as_slice-named.ensures) at granted) all in
    let told = subst (λ (w : World). add_partitions_outcome w caller r ≡ added_outcome w r) c.state.view_is (added_outcome_is v caller r whole) in
    let paid = all_parts_paid v caller r whole in
    record {
      world = search (rules, told);
      reply = search (rules, told);
      refusals = search (rules, told, none);
      paid = search rules;
      spent =
          ap (λ (o : Told). o.spent) c.served_in_parts-2.ensures
          ∙ c.in_ok-reply-2.ensures.spent
          ∙ ap (λ (ts : List (Topic ℤ)). count_after_parts (rules_of v) 0 (asked_in (cut_rule caller r.transactional_id v.topics) ts)) c.as_slice-named.ensures
          ∙ sym (ap (count_after_parts (rules_of v) 0) paid)
          ∙ ap (λ (w : World). count_after_parts (rules_of w) 0 (added_parts w caller r)) c.state.view_is;
    }
