use Rattle.std.proofs.Common.{◌≡◌, ◌-◌, drop}
use Rattle.partition_log.specs.Laws.{total_bytes}
use Rattle.data_handlers.proofs.fetch_budget.FetchBudget.less.Given as goal

-- what is left, less what is still to come
abbrev pub invariant-loop-batch : goal.invariant-loop-batch
invariant-loop-batch l = l.left - total_bytes (drop l.batch-index l.batches) ≡ l.self.left - total_bytes l.batches
