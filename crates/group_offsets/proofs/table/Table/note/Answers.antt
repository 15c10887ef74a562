use Rattle.std.proofs.Common.{w64, rules}
use Rattle.std.specs.Prelude.{FitsSigned}
use Rattle.std.proofs.lemmas.Int.{to_z-of_z}
use Rattle.group_offsets.proofs.table.Table.note.Goals as goal

pub returns-in-Decide-clause-ok : goal.returns-in-Decide-clause-ok
returns-in-Decide-clause-ok c = λ es last d.
    let fits : FitsSigned w64 c.in-Decide.producer = search rules in
    let described = rw (to_z-of_z w64 c.in-Decide.producer fits) at c.decide.ensures.described in
    rw c.in-Decide.is (described c.args.place es last d)
