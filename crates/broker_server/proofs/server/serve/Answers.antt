use Rattle.std.proofs.Common.{◌∙◌, inl, inr, refl, subst, sym}
use Rattle.broker_server.specs.Serves.{IsLast}
use Rattle.broker_server.proofs.Served.{first_said, both_said}
use Rattle.broker_server.proofs.server.serve.Goals as goal

pub returns-in-Err-write_whole : goal.returns-in-Err-write_whole
returns-in-Err-write_whole g c = first_said c.args.core.settings _ _ _ _ c.in-Ok.ensures.0 (c.as_bytes-2.ensures.value ∙ c.in-Ok.ensures.1) c.write_whole-2.ensures

pub returns-in_default : goal.returns-in_default
returns-in_default g c = first_said c.args.core.settings _ _ _ _ c.in-Ok.ensures.0 (c.as_bytes-2.ensures.value ∙ c.in-Ok.ensures.1) c.write_whole-2.ensures

pub returns-in-Ok-write_whole-2 : goal.returns-in-Ok-write_whole-2
returns-in-Ok-write_whole-2 g c =
    both_said c.args.core.settings _ _ _ _ _ c.in-Ok.ensures.0 _ _ _ (c.as_bytes-2.ensures.value ∙ c.in-Ok.ensures.1) c.in-Ok-write_whole.ensures c.in-Ok-write_whole.ensures.all c.in-Ok-write_whole-2.ensures
    (inl (c.in-Ok-write_whole-2.ensures.all, subst (IsLast c.args.core.settings c.in-Some.status) (sym c.as_bytes-3.ensures.value) (c.in-Some.ensures c.args.core.settings c.serve_told-outcome.ensures)))

pub returns : goal.returns
returns g c =
    both_said c.args.core.settings _ _ _ _ _ c.in-Ok.ensures.0 _ _ _ (c.as_bytes-2.ensures.value ∙ c.in-Ok.ensures.1) c.in-Ok-write_whole.ensures c.in-Ok-write_whole.ensures.all c.write_whole-3.ensures
    (inr (refl, inr (c.in-Some.status, subst (IsLast c.args.core.settings c.in-Some.status) (sym c.as_bytes-3.ensures.value) (c.in-Some.ensures c.args.core.settings c.serve_told-outcome.ensures))))
