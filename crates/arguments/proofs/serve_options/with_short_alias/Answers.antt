use Rattle.std.proofs.Common.{◌≡◌, ◌∙◌, Bool, List, ◌++◌, ap, map, ℕ}
use Rattle.std.proofs.lemmas.List.{map-append}
use Rattle.std.proofs.lemmas.Result.{IfOk-weaker}
use Rattle.clap.specs.Adds.{AddsShortAliases}
use Rattle.clap.specs.Walk.{rule_of}
use Rattle.clap.specs.declared.builder.arg.Arg.{Arg}
use Rattle.arguments.proofs.serve_options.with_short_alias.Goals as goal

abbrev names_of : List (ℕ × Bool) → List ℕ
names_of aliases = map (λ alias. alias.0) aliases

-- one more short name is all that a parse reads of it
named_too : (old new : Arg) (more : List (ℕ × Bool)) → AddsShortAliases old new more
    → rule_of new ≡ record (rule_of old) { short_aliases = (rule_of old).short_aliases ++ names_of more }
named_too old new more (kept, added) =
    ap rule_of kept ∙ ap (λ aliases. record (rule_of old) { short_aliases = aliases }) (ap names_of added ∙ map-append _ old.short_aliases.items more)

pub returns-clause-rule : goal.returns-clause-rule
returns-clause-rule c =
    IfOk-weaker c.short_alias.result _ _ (λ made added. named_too c.args.option made _ added) c.short_alias.ensures
