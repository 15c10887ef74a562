use Rattle.std.proofs.Common.{ℕ, List, Some, cond, ap, ◌∙◌}
use Rattle.std.specs.Str.{bytes_eq}
use Rattle.std.specs.HashMap.{get_by_text}
use Rattle.std.specs.String.{string_bytes}
use Rattle.std.proofs.lemmas.Map.Text.{hash_map_updates_text}
use Rattle.acl_binding.specs.declared.binding.Numbered.{Numbered}
use Rattle.authorizer.proofs.LongestNames.{pushed_name}
use Rattle.authorizer.proofs.index.names.add_name.Goals as goal

pub returns-clause-ok : goal.returns-clause-ok
returns-clause-ok c = λ other.
    let e = hash_map_updates_text (string_bytes c.in_ok-name.name) c.args.shelves.now c.insert.new.self _ c.in_ok-insert.ensures.updates other in
    e ∙ ap (λ (b : List ℕ). cond (bytes_eq b other) (Some c.in_ok-shelf.shelf) (get_by_text c.args.shelves.now other)) c.in_ok-name.ensures.ok
    ∙ ap (λ (h : List Numbered). cond (bytes_eq c.args.name.now other) (Some h) (get_by_text c.args.shelves.now other)) c.in_ok-shelf.ensures

pub returns-clause-last : goal.returns-clause-last
returns-clause-last c = λ none. pushed_name c.args.shelves.now.entries c.insert.new.self.entries c.in_ok-name.name c.in_ok-shelf.shelf c.args.name.now c.in_ok-name.ensures.ok none c.in_ok-insert.ensures.entries
