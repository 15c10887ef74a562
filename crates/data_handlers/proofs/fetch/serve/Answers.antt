use Rattle.std.proofs.Common.{rules, w32}
use Rattle.std.proofs.lemmas.Int.{to_z-of_z}
use Rattle.data_handlers.proofs.fetch.serve.Goals as goal

pub returns : goal.returns
returns c =
    let back = to_z-of_z w32 c.args.part.now.index (search rules) in
    rw back at (rw c.log.ensures at c.serve_from.ensures)
