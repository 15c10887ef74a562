use Rattle.std.proofs.Common.{◌≡◌, ℕ, ◌+◌, ◌-◌, List, Option, Some, cond, sym, ap, ◌∙◌, arith, rules}
use Rattle.std.specs.Prelude.{unwrap_or}
use Rattle.std.specs.Str.{bytes_eq}
use Rattle.std.specs.HashMap.{get_by_text}
use Rattle.std.proofs.lemmas.Map.Text.{hash_map_updates_text}
use Rattle.txn_coordinator.proofs.Counting.{lowered_by}
use Rattle.txn_coordinator.proofs.counts.lower.Goals as goal

pub overflow_sub-count : goal.overflow_sub-count
overflow_sub-count c =
    let is : get_by_text c.args.counts.now c.args.id.now ≡ Some c.in-Some.count.now = ap (λ (n : List ℕ). get_by_text c.args.counts.now n) (sym c.as_str.ensures) ∙ sym c.in-Some.ensures.value in
    omega (arith, c.requires, ap (λ (o : Option ℕ). unwrap_or o 0) is)

pub returns-in-Some : goal.returns-in-Some
returns-in-Some c =
    let is : get_by_text c.args.counts.now c.args.id.now ≡ Some c.in-Some.count.now = ap (λ (n : List ℕ). get_by_text c.args.counts.now n) (sym c.as_str.ensures) ∙ sym c.in-Some.ensures.value in
    let one : c.in-Some.count.now ≡ c.in-Some.count.now - 1 + 1 = omega (arith, c.requires, ap (λ (o : Option ℕ). unwrap_or o 0) is) in
    let writes = (c.get_mut.follows.holds (c.in-Some.count.now - 1)).3 (search rules) in
    lowered_by (get_by_text c.args.counts.now) (get_by_text (c.get_mut.follows.lender (c.in-Some.count.now - 1))) c.args.id.now (c.in-Some.count.now - 1) (is ∙ ap (λ (n : ℕ). Some n) one)
    (λ other. hash_map_updates_text c.as_str.result.now c.args.counts.now (c.get_mut.follows.lender (c.in-Some.count.now - 1)) _ writes other
    ∙ ap (λ (n : List ℕ). cond (bytes_eq n other) (Some (c.in-Some.count.now - 1)) (get_by_text c.args.counts.now other)) c.as_str.ensures)
