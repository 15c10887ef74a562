use Rattle.std.proofs.Common.{◌≡◌, Option, sym, ap, ◌∙◌, rules}
use Rattle.std.specs.Option.{option_map}
use Rattle.acl_binding.specs.declared.words.Kind.TheVariants.{TransactionalId}
use Rattle.acl_binding.specs.declared.words.Operation.TheVariants.{Write}
use Rattle.acl_binding.specs.Verdict.{question_of}
use Rattle.authorizer.specs.declared.answer.Refusal.{Refusal}
use Rattle.authorizer.specs.Asking.{policy_rules}
use Rattle.authorizer.specs.Settled.{settled_question}
use Rattle.walk.specs.Steps.{world_by}
use Rattle.walk.proofs.Endings.{served_done}
use Rattle.data_handlers.specs.Produce.{produce_questions, produce_rule}
use Rattle.data_handlers.proofs.Given.{question_is}
use Rattle.data_handlers.proofs.produce.ProduceHandlerPartApiProducedRecordsProducedOffsetTopics.serve.Goals as goal

pub returns-in_ok-spent-in-Ok-clause-world : goal.returns-in_ok-spent-in-Ok-clause-world
returns-in_ok-spent-in-Ok-clause-world c =
    let api = c.args.self.now in
    let rule = produce_rule api.caller.now api.most api.coordinator.now api.id.now api.acks in
    let asks = ap settled_question (c.in_ok-id.ensures ∙ c.requires.settled) ∙ question_is c.args.policy.now (option_map (question_of api.caller.now Write TransactionalId) api.id.now) in
    let granted = rw (asks, c.in_ok-topic.ensures) at c.in-Ok.ensures.yes in
    c.in_ok-spent-in-Ok.ensures.topics
    ∙ ap (λ (o : Option Refusal). world_by rule o c.args.topics.now c.args.name.now c.args.part.now) (sym granted)

pub returns-in_ok-spent-in-Ok-clause-done : goal.returns-in_ok-spent-in-Ok-clause-done
returns-in_ok-spent-in-Ok-clause-done c =
    let api = c.args.self.now in
    let rule = produce_rule api.caller.now api.most api.coordinator.now api.id.now api.acks in
    let asks = ap settled_question (c.in_ok-id.ensures ∙ c.requires.settled) ∙ question_is c.args.policy.now (option_map (question_of api.caller.now Write TransactionalId) api.id.now) in
    let granted = rw (asks, c.in_ok-topic.ensures) at c.in-Ok.ensures.yes in
    let paid : c.given.result ≡ produce_questions api.caller.now api.id.now c.args.name.now = search (rules, asks) in
    c.served.ensures
    ∙ served_done rule (policy_rules c.args.policy.now) c.args.topics.now c.args.name.now c.args.part.now c.in_ok-spent-in-Ok.answer c.given.result granted c.in_ok-spent-in-Ok.ensures.answer paid
