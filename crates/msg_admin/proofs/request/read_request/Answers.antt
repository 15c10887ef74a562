use Rattle.std.proofs.Common.{subst}
use Rattle.msg_admin.specs.Laws.{SpellsFitting}
use Rattle.msg_admin.specs.Request.{Answers}
use Rattle.msg_admin.proofs.Readings.{found, request-again}
use Rattle.msg_admin.proofs.MessageLaws.{found_fits, named}
use Rattle.msg_admin.proofs.request.read_request.Goals as goal

pub returns-clause-found : goal.returns-clause-found
returns-clause-found c = found c.args.frame.now c.read_whole.result c.read_whole.ensures

pub returns-clause-only : goal.returns-clause-only
returns-clause-only c = λ h r i. subst (λ f. Answers f c.read_whole.result) (request-again c.args.frame.now h r i) c.read_whole.ensures

pub returns-clause-fits : goal.returns-clause-fits
returns-clause-fits c =
    let fitting = subst SpellsFitting c.as_slice.ensures c.read_fits.ensures in
    found_fits c.args.frame.now c.read_whole.result fitting (found c.args.frame.now c.read_whole.result c.read_whole.ensures)

pub returns-clause-named : goal.returns-clause-named
returns-clause-named c = named c.args.frame.now c.read_whole.result (found c.args.frame.now c.read_whole.result c.read_whole.ensures)
