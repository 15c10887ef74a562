use Rattle.commands.proofs.LinesLemmas.{first_line, only_line}
use Rattle.commands.proofs.lines.split_line.Goals as goal

pub returns-in-Some-clause-lines : goal.returns-in-Some-clause-lines
returns-in-Some-clause-lines c =
    rw (c.split_at.ensures.front, c.split_at.ensures.back) (first_line c.args.text.now c.in-Some.end c.requires c.in-Some.ensures)

pub returns-in-None-clause-lines : goal.returns-in-None-clause-lines
returns-in-None-clause-lines c = only_line c.args.text.now c.requires c.in-None.ensures
