use Rattle.std.proofs.Common.{◌≡◌, ℕ, ◌+◌, List, Option, Some, cond, sym, ap, ◌∙◌, arith, rules}
use Rattle.std.specs.Prelude.{unwrap_or}
use Rattle.std.specs.Str.{bytes_eq}
use Rattle.std.specs.HashMap.{get_by_text}
use Rattle.std.proofs.lemmas.Map.Text.{hash_map_updates_text}
use Rattle.txn_coordinator.proofs.Counting.{raised_by, kept_by}
use Rattle.txn_coordinator.proofs.counts.raise.Goals as goal

pub overflow_add-count : goal.overflow_add-count
overflow_add-count c =
    let is : get_by_text c.args.counts.now c.args.id.now ≡ Some c.in-Some.count.now = ap (λ (n : List ℕ). get_by_text c.args.counts.now n) (sym c.as_str.ensures) ∙ sym c.in-Some.ensures.value in
    omega (arith, c.requires.fits, ap (λ (o : Option ℕ). unwrap_or o 0) is)

pub returns-in-Some-clause-raised : goal.returns-in-Some-clause-raised
returns-in-Some-clause-raised c =
    let is : get_by_text c.args.counts.now c.args.id.now ≡ Some c.in-Some.count.now = ap (λ (n : List ℕ). get_by_text c.args.counts.now n) (sym c.as_str.ensures) ∙ sym c.in-Some.ensures.value in
    let writes = (c.get_mut.follows.holds (c.in-Some.count.now + 1)).3 (search rules) in
    raised_by (get_by_text c.args.counts.now) (get_by_text (c.get_mut.follows.lender (c.in-Some.count.now + 1))) c.args.id.now c.in-Some.count.now is
    (λ other. hash_map_updates_text c.as_str.result.now c.args.counts.now (c.get_mut.follows.lender (c.in-Some.count.now + 1)) _ writes other
    ∙ ap (λ (n : List ℕ). cond (bytes_eq n other) (Some (c.in-Some.count.now + 1)) (get_by_text c.args.counts.now other)) c.as_str.ensures)

pub returns-in-Some-clause-kept : goal.returns-in-Some-clause-kept
returns-in-Some-clause-kept c =
    let writes = (c.get_mut.follows.holds (c.in-Some.count.now + 1)).3 (search rules) in
    kept_by (get_by_text c.args.counts.now) (get_by_text (c.get_mut.follows.lender (c.in-Some.count.now + 1))) c.as_str.result.now (c.in-Some.count.now + 1)
    (hash_map_updates_text c.as_str.result.now c.args.counts.now (c.get_mut.follows.lender (c.in-Some.count.now + 1)) _ writes)
