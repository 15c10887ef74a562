use Rattle.std.proofs.Common.{sym, ap, ◌∙◌, List, filter, rules}
use Rattle.std.specs.Option.{option_and_then}
use Rattle.acl_binding.specs.declared.binding.Numbered.{Numbered}
use Rattle.acl_binding.specs.Filter.{is_not_matched}
use Rattle.authorizer.specs.Index.{nonempty}
use Rattle.authorizer.proofs.Tables.{found_rows, lookup_retained}
use Rattle.authorizer.proofs.index.names.Names.clean.Goals as goal

pub returns : goal.returns
returns c = rw (← c.self.view_is) (λ other.
    sym (found_rows c.retain.new.self.entries other)
    ∙ lookup_retained _ (is_not_matched c.args.filter.now) _ (λ k v b w f' t. search rules) other _ _ c.len.ensures.unique c.retain.ensures.filtered
    ∙ ap (option_and_then (λ (held : List Numbered). nonempty (filter (is_not_matched c.args.filter.now) held))) (found_rows c.self.inside.shelves.entries other))
