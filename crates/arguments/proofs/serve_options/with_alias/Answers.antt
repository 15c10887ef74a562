use Rattle.std.proofs.Common.{◌≡◌, ◌∙◌, Bool, List, ◌++◌, Bor, ap, map, ℕ}
use Rattle.std.proofs.lemmas.List.{map-append}
use Rattle.std.proofs.lemmas.Result.{IfOk-weaker}
use Rattle.clap.specs.Adds.{AddsAliases}
use Rattle.clap.specs.Walk.{rule_of}
use Rattle.clap.specs.declared.builder.arg.Arg.{Arg}
use Rattle.arguments.proofs.serve_options.with_alias.Goals as goal

abbrev names_of : List (Bor (List ℕ) × Bool) → List (List ℕ)
names_of aliases = map (λ alias. alias.0.now) aliases

-- one more name is all that a parse reads of it
named_too : (old new : Arg) (more : List (Bor (List ℕ) × Bool)) → AddsAliases old new more
    → rule_of new ≡ record (rule_of old) { aliases = (rule_of old).aliases ++ names_of more }
named_too old new more (kept, added) =
    ap rule_of kept ∙ ap (λ aliases. record (rule_of old) { aliases = aliases }) (ap names_of added ∙ map-append _ old.aliases.items more)

pub returns-clause-rule : goal.returns-clause-rule
returns-clause-rule c =
    IfOk-weaker c.alias.result _ _ (λ made added. named_too c.args.option made _ added) c.alias.ensures
