use Rattle.std.proofs.Common.{◌≡◌, ◌++◌, drop}
use Rattle.data_handlers.specs.Fetch.{batch_bytes}
use Rattle.data_handlers.proofs.fetch.joined.Given as goal

-- what is joined so far, and then what is left
abbrev pub invariant-loop-batch : goal.invariant-loop-batch
invariant-loop-batch l = l.out ++ batch_bytes (drop l.batch-index l.batches) ≡ batch_bytes l.batches
