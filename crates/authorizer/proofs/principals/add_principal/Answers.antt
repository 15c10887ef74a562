use Rattle.std.proofs.Common.{ℕ, List, Some, cond, ap, ◌∙◌}
use Rattle.std.specs.Str.{bytes_eq}
use Rattle.std.specs.HashMap.{get_by_text}
use Rattle.std.specs.String.{string_bytes}
use Rattle.std.proofs.lemmas.Map.Text.{hash_map_updates_text}
use Rattle.acl_binding.specs.declared.binding.Numbered.{Numbered}
use Rattle.authorizer.proofs.principals.add_principal.Goals as goal

pub returns : goal.returns
returns c = λ other.
    hash_map_updates_text (string_bytes c.in_ok-principal.principal) c.args.buckets.now c.insert.new.self _ c.in_ok-insert.ensures.updates other
    ∙ ap (λ (b : List ℕ). cond (bytes_eq b other) (Some c.in_ok-bucket.bucket) (get_by_text c.args.buckets.now other)) (c.in_ok-principal.ensures ∙ ap (λ (e : Numbered). e.binding.principal) c.value.ensures)
    ∙ ap (λ (h : List Numbered). cond (bytes_eq c.args.entry.binding.principal other) (Some h) (get_by_text c.args.buckets.now other)) c.in_ok-bucket.ensures
