use Rattle.std.proofs.Common.{sym, ap, ◌∙◌}
use Rattle.authorizer.specs.Longest.{greatest}
use Rattle.authorizer.proofs.LongestNames.{key_lengths}
use Rattle.authorizer.proofs.index.names.Names.longest.Goals as goal

pub returns : goal.returns
returns c = rw (← c.self.view_is) (c.self.invariant.bytes ∙ ap greatest (sym (key_lengths c.self.inside.shelves.entries)))
