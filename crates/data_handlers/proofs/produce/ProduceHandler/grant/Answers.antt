use Rattle.std.proofs.Common.{ℕ, List, Option, ap, ◌∙◌}
use Rattle.data_handlers.specs.Judged.{batch_to_append}
use Rattle.data_handlers.specs.BudgetLaws.{judged_fits}
use Rattle.data_handlers.proofs.produce.ProduceHandler.grant.Goals as goal

pub produce-requires-clause-budget : goal.produce-requires-clause-budget
produce-requires-clause-budget c =
    let api = c.args.self.now in
    judged_fits api.most api.coordinator.now api.id.now api.acks c.args.target.now c.args.part.now.records c.args.topics.now c.judge-batch.result
    (c.judge-batch.ensures ∙ ap (λ (o : Option (List ℕ)). batch_to_append api.most api.coordinator.now api.id.now api.acks c.args.target.now o) c.requires.records) c.requires.budget
