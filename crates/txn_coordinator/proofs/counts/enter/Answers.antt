use Rattle.std.proofs.Common.{◌≡◌, ℕ, List, Some, None, false, cond, is_some, sym, ap, ◌∙◌, rules}
use Rattle.std.specs.Str.{bytes_eq}
use Rattle.std.specs.String.{string_bytes}
use Rattle.std.specs.HashMap.{get_by_text}
use Rattle.std.proofs.lemmas.Map.Text.{hash_map_updates_text}
use Rattle.txn_coordinator.proofs.Counting.{none_is, entered_by, kept_by}
use Rattle.txn_coordinator.proofs.counts.enter.Goals as goal

pub returns-in_ok-insert-clause-same : goal.returns-in_ok-insert-clause-same
returns-in_ok-insert-clause-same c =
    let absent : is_some (get_by_text c.args.counts.now c.as_str.result.now) ≡ false = search rules in
    let none : get_by_text c.args.counts.now c.args.id.now ≡ None = ap (λ (n : List ℕ). get_by_text c.args.counts.now n) (sym c.as_str.ensures) ∙ none_is _ absent in
    let key_is : string_bytes c.in_ok-to_owned.field-0 ≡ c.args.id.now = search rules in
    entered_by (get_by_text c.args.counts.now) (get_by_text c.insert.new.self) c.args.id.now none
    (λ other. hash_map_updates_text (string_bytes c.in_ok-to_owned.field-0) c.args.counts.now c.insert.new.self _ c.in_ok-insert.ensures.updates other
    ∙ ap (λ (n : List ℕ). cond (bytes_eq n other) (Some 0) (get_by_text c.args.counts.now other)) key_is)

pub returns-in_ok-insert-clause-kept : goal.returns-in_ok-insert-clause-kept
returns-in_ok-insert-clause-kept c =
    kept_by (get_by_text c.args.counts.now) (get_by_text c.insert.new.self) (string_bytes c.in_ok-to_owned.field-0) 0
    (hash_map_updates_text (string_bytes c.in_ok-to_owned.field-0) c.args.counts.now c.insert.new.self _ c.in_ok-insert.ensures.updates)
