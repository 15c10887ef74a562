-- What is served is the longest beginning that fits, or the first batch alone.
use Rattle.std.proofs.Common.{◌≡◌, ℕ, ◌<◌, ◌≤◌, ◌-◌, ℤ, Bool, true, false, cond, List, [], ◌∷◌, length, refl, sym, ap, ◌∙◌, arith}
use Rattle.std.specs.Prelude.{nat_le}
use Rattle.std.proofs.lemmas.Bool.{leb-false}
use Rattle.record_batch.specs.Batch.{BatchData}
use Rattle.partition_log.specs.Log.{end_of, last_stable_offset}
use Rattle.partition_log.specs.Fetch.{batches_below, batches_from, fitting_batches, at_least_one, served_batches, served_of}
use Rattle.partition_log.proofs.Longest.{fitting_longest}
use Rattle.api_laws.specs.Longest.{IsLongest, ServesWhatFits}
use Rattle.api_laws.proofs.DataFetches.{fitting_first, fitting_small, least_first, least_small}

-- one that is forced makes what fits no shorter
as_long : (forced : Bool) (candidates run : List BatchData) → length run ≤ length (at_least_one forced candidates run)
as_long forced candidates [] = omega arith
as_long forced candidates (b ∷ run) = omega arith

nothing : (forced : Bool) (budget : ℕ) (b : BatchData) (rest : List BatchData) → at_least_one forced (b ∷ rest) (fitting_batches budget (b ∷ rest)) ≡ [] → (forced ≡ false) × (budget < length b.bytes)
nothing forced budget b rest h = by_size (nat_le (length b.bytes) budget) refl h where
  unforced : (f : Bool) → cond f (b ∷ []) [] ≡ [] → f ≡ false
  unforced false h = refl
  unforced true h = absurd (let clash : b ∷ [] ≡ [] = h in cc)

  by_size : (t : Bool) → nat_le (length b.bytes) budget ≡ t → at_least_one forced (b ∷ rest) (cond t (b ∷ fitting_batches (budget - length b.bytes) rest) []) ≡ [] → (forced ≡ false) × (budget < length b.bytes)
  by_size true small h = absurd (let clash : b ∷ fitting_batches (budget - length b.bytes) rest ≡ [] = h in cc)
  by_size false large h = (unforced forced h, leb-false (length b.bytes) budget large)

longest : (log : List BatchData) (offset limit : ℤ) (budget : ℕ) (forced : Bool) → IsLongest log offset limit budget forced (served_batches log offset limit budget forced)
longest log offset limit budget forced =
    let candidates : List BatchData = batches_below limit (batches_from offset log) in
    let run : List BatchData = fitting_batches budget candidates in
    let parts = least_first forced candidates run (fitting_first budget candidates) in
    record {
      rest = parts.0;
      first = parts.1;
      fits = least_small forced budget candidates run (fitting_small budget candidates);
      most = λ longer rest parts fits. omega (arith, (fitting_longest budget candidates).1 longer rest parts fits, as_long forced candidates (fitting_batches budget candidates));
      none = λ empty b rest are. nothing forced budget b rest (ap (λ (l : List BatchData). at_least_one forced l (fitting_batches budget l)) (sym are) ∙ empty);
    }

pub serves : ServesWhatFits served_of
serves log offset budget forced = record {
  uncommitted = longest log offset (end_of log) budget forced;
  committed = longest log offset (last_stable_offset log) budget forced;
}
