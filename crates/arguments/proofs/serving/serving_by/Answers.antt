use Rattle.std.proofs.Common.{◌∙◌}
use Rattle.std.proofs.lemmas.Result.{err_from_is_err_and}
use Rattle.arguments.proofs.serving.serving_by.Goals as goal

pub returns-in_err-listen-clause-none : goal.returns-in_err-listen-clause-none
returns-in_err-listen-clause-none c =
    let up = err_from_is_err_and c.from_residual.result c.from_residual.ensures.1 in
    rw up.1 (λ s served within. c.in_err-listen.ensures.none s.listen.now within.listen (c.get_str.ensures ∙ served.listen))
