use Rattle.std.proofs.Common.{◌≡◌, List, [], Option, ap, sym, ◌∙◌, arith}
use Rattle.std.specs.Option.{unwrap_or}
use Rattle.acl_binding.specs.declared.binding.Numbered.{Numbered}
use Rattle.authorizer.specs.Index.{rows}
use Rattle.authorizer.specs.Longest.{greatest, longest_name}
use Rattle.authorizer.proofs.LongestNames.{key_lengths, none_held}
use Rattle.authorizer.proofs.Tables.{found_rows}
use Rattle.authorizer.proofs.index.names.Names.shelf.Goals as goal

pub returns : goal.returns
returns c = rw (← c.self.view_is) (ap (λ (o : Option (List Numbered)). unwrap_or o []) (c.get.ensures.value ∙ found_rows c.self.inside.shelves.entries c.args.name.now))

pub returns-then-name-self : goal.returns-then-name-self
returns-then-name-self c =
    let same : c.self.inside.longest.bytes ≡ longest_name (rows c.self.inside.shelves.entries) = c.self.invariant.bytes ∙ ap greatest (sym (key_lengths c.self.inside.shelves.entries)) in
    rw (← c.self.view_is) (sym (none_held (rows c.self.inside.shelves.entries) c.args.name.now (omega arith)))
