use Rattle.std.proofs.Common.{List, [], Option, ap, ◌∙◌}
use Rattle.std.specs.Option.{unwrap_or}
use Rattle.acl_binding.specs.declared.binding.Numbered.{Numbered}
use Rattle.authorizer.proofs.Tables.{found_rows}
use Rattle.authorizer.proofs.principals.Principals.held.Goals as goal

pub returns-in-Some : goal.returns-in-Some
returns-in-Some c = rw (← c.self.view_is) (c.as_slice.ensures ∙ ap (λ (o : Option (List Numbered)). unwrap_or o []) (c.in-Some.ensures.value ∙ found_rows c.self.inside.buckets.entries c.args.principal.now))

pub returns-in-None : goal.returns-in-None
returns-in-None c = rw (← c.self.view_is) (ap (λ (o : Option (List Numbered)). unwrap_or o []) (c.in-None.ensures.value ∙ found_rows c.self.inside.buckets.entries c.args.principal.now))
