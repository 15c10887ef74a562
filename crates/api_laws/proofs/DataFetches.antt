-- What a Fetch serves of a log.
use Rattle.std.proofs.Common.{◌≡◌, ◌⊎◌, inl, inr, ℕ, ℤ, ◌-◌, ◌≤◌, Bool, true, false, not, cond, List, [], ◌∷◌, ◌++◌, length, take, append_assoc, Some, None, Result, Ok, Err, refl, sym, ap, subst, ◌∙◌, arith}
use Rattle.std.specs.Prelude.{int_le, nat_le}
use Rattle.std.specs.List.{AllByRecursion}
use Rattle.std.proofs.lemmas.Bool.{leb-true}
use Rattle.wire_types.specs.declared.error_code.ErrorCode.{ErrorCode}
use Rattle.wire_types.specs.declared.error_code.ErrorCode.TheVariants as codes
use Rattle.record_batch.specs.Batch.{BatchData, next_offset}
use Rattle.partition_log.specs.declared.served.Served.{Served}
use Rattle.partition_log.specs.Fetch.{batches_from, batches_below, fitting_batches, at_least_one, limit_of, served_of, run_of}
use Rattle.partition_log.specs.Laws.{total_bytes}
use Rattle.msg_data.specs.declared.isolation.Isolation.{Isolation}
use Rattle.msg_data.specs.declared.isolation.Isolation.TheVariants.{ReadUncommitted, ReadCommitted}
use Rattle.msg_data.specs.declared.fetch.AbortedTransaction.{AbortedTransaction}
use Rattle.msg_data.specs.declared.fetch.FetchPartition.{FetchPartition}
use Rattle.data_handlers.specs.declared.fetch_budget.FetchBudget.{FetchBudget}
use Rattle.broker_world.specs.World.{TopicValue, LogValue}
use Rattle.broker_world.specs.Logs.{log_at}
use Rattle.data_handlers.specs.Fetch.{budget_for, is_outside, served_by, served_at, aborted_list, fetched_partition, budget_after}
use Rattle.api_laws.specs.DataLaws.{IsServed, IsFetched, IsUnserved, FetchesRuns}

-- ---- beginnings and ends of a log

-- the batches before the one that holds the offset
record After (offset : ℤ) (log : List BatchData) : Type 0 where
  before : List BatchData
  whole : log ≡ before ++ batches_from offset log
  all : AllByRecursion (λ (b : BatchData). int_le (next_offset b) offset ≡ true) before

after_offset : (offset : ℤ) (log : List BatchData) → After offset log
after_offset offset [] = record { before = []; whole = refl; all = tt }
after_offset offset (b ∷ rest) = by_test (int_le (next_offset b) offset) refl (after_offset offset rest) where
  by_test : (t : Bool) → int_le (next_offset b) offset ≡ t → After offset rest → After offset (b ∷ rest)
  by_test true e r = record { before = b ∷ r.before; whole = ap (λ l. b ∷ l) r.whole ∙ ap (λ x. b ∷ (r.before ++ cond x (batches_from offset rest) (b ∷ rest))) (sym e); all = (e, r.all) }
  by_test false e r = record { before = []; whole = ap (λ x. cond x (batches_from offset rest) (b ∷ rest)) (sym e); all = tt }

below_first : (limit : ℤ) (l : List BatchData) → (after : List BatchData) × (l ≡ batches_below limit l ++ after)
below_first limit [] = ([], refl)
below_first limit (b ∷ rest) = by_test (int_le (next_offset b) limit) (below_first limit rest) where
  by_test : (t : Bool) → (after : List BatchData) × (rest ≡ batches_below limit rest ++ after) → (after : List BatchData) × (b ∷ rest ≡ cond t (b ∷ batches_below limit rest) [] ++ after)
  by_test true r = (r.0, ap (λ l. b ∷ l) r.1)
  by_test false r = (b ∷ rest, refl)

pub fitting_first : (budget : ℕ) (l : List BatchData) → (after : List BatchData) × (l ≡ fitting_batches budget l ++ after)
fitting_first budget [] = ([], refl)
fitting_first budget (b ∷ rest) = by_test (nat_le (length b.bytes) budget) (fitting_first (budget - length b.bytes) rest) where
  by_test : (t : Bool) → (after : List BatchData) × (rest ≡ fitting_batches (budget - length b.bytes) rest ++ after) → (after : List BatchData) × (b ∷ rest ≡ cond t (b ∷ fitting_batches (budget - length b.bytes) rest) [] ++ after)
  by_test true r = (r.0, ap (λ l. b ∷ l) r.1)
  by_test false r = (b ∷ rest, refl)

pub fitting_small : (budget : ℕ) (l : List BatchData) → total_bytes (fitting_batches budget l) ≤ budget
fitting_small budget [] = omega arith
fitting_small budget (b ∷ rest) = by_test (nat_le (length b.bytes) budget) refl (fitting_small (budget - length b.bytes) rest) where
  by_test : (t : Bool) → nat_le (length b.bytes) budget ≡ t → total_bytes (fitting_batches (budget - length b.bytes) rest) ≤ budget - length b.bytes → total_bytes (cond t (b ∷ fitting_batches (budget - length b.bytes) rest) []) ≤ budget
  by_test true e more = omega (arith, leb-true (length b.bytes) budget e)
  by_test false e more = omega arith

one_first : (l : List BatchData) → (after : List BatchData) × (l ≡ take 1 l ++ after)
one_first [] = ([], refl)
one_first (x ∷ xs) = (xs, refl)

-- ---- the run that is served

pub least_first : (forced : Bool) (candidates run : List BatchData) → (after : List BatchData) × (candidates ≡ run ++ after) → (after : List BatchData) × (candidates ≡ at_least_one forced candidates run ++ after)
least_first true candidates [] first = one_first candidates
least_first false candidates [] first = first
least_first forced candidates (b ∷ run) first = first

pub least_small : (forced : Bool) (budget : ℕ) (candidates run : List BatchData) → total_bytes run ≤ budget
    → (total_bytes (at_least_one forced candidates run) ≤ budget) ⊎ ((forced ≡ true) × (length (at_least_one forced candidates run) ≡ 1))
least_small false budget candidates [] small = inl (omega arith)
least_small true budget [] [] small = inl (omega arith)
least_small true budget (x ∷ xs) [] small = inr (refl, refl)
least_small forced budget candidates (b ∷ run) small = inl small

-- one is forced where nothing was given before
by_given : {X Y : Type 0} (given : Bool) → X ⊎ ((not given ≡ true) × Y) → X ⊎ ((given ≡ false) × Y)
by_given given (inl fits) = inl fits
by_given true (inr one) = absurd (let clash : false ≡ true = one.0 in cc)
by_given false (inr one) = inr (refl, one.1)

three_parts : (log before reach bel run more later : List BatchData) → log ≡ before ++ reach → reach ≡ bel ++ later → bel ≡ run ++ more → log ≡ before ++ (run ++ (more ++ later))
three_parts log before reach bel run more later p q r = p ∙ ap (λ l. before ++ l) (q ∙ ap (λ l. l ++ later) r ∙ append_assoc run more later)

run_served : (level : Isolation) (log : List BatchData) (offset : ℤ) (budget : ℕ) (given : Bool) → IsServed log offset budget given (run_of log offset level budget (not given))
run_served level log offset budget given =
    let candidates : List BatchData = batches_below (limit_of level log) (batches_from offset log) in
    let run : List BatchData = fitting_batches budget candidates in
    let b = after_offset offset log in
    let later = below_first (limit_of level log) (batches_from offset log) in
    let more = least_first (not given) candidates run (fitting_first budget candidates) in
    record {
      before = b.before;
      after = more.0 ++ later.0;
      in_order = three_parts log b.before (batches_from offset log) candidates (at_least_one (not given) candidates run) more.0 later.0 b.whole later.1 more.1;
      from = b.all;
      small = by_given given (least_small (not given) budget candidates run (fitting_small budget candidates));
    }

-- ---- what is answered

inside_served : (level : Isolation) (topics : List TopicValue) (budget : FetchBudget) (name : List ℕ) (p : FetchPartition) (log : LogValue) → log_at topics name p.index ≡ Some log → is_outside log p.offset ≡ false
    → served_at level topics budget name p ≡ Ok (served_of log p.offset level (budget_for budget p) (not budget.given))
inside_served level topics budget name p log there inside =
    ap (served_by level budget p) there ∙ ap (λ x. cond x (Err codes.OffsetOutOfRange) (Ok (served_of log p.offset level (budget_for budget p) (not budget.given)))) inside

outside_served : (level : Isolation) (topics : List TopicValue) (budget : FetchBudget) (name : List ℕ) (p : FetchPartition) (log : LogValue) → log_at topics name p.index ≡ Some log → is_outside log p.offset ≡ true → served_at level topics budget name p ≡ Err codes.OffsetOutOfRange
outside_served level topics budget name p log there outside =
    ap (served_by level budget p) there ∙ ap (λ x. cond x (Err codes.OffsetOutOfRange) (Ok (served_of log p.offset level (budget_for budget p) (not budget.given)))) outside

-- read_uncommitted is told no list
no_list : (level : Isolation) (list : List AbortedTransaction) → level ≡ ReadUncommitted → aborted_list level list ≡ None
no_list ReadUncommitted list is = refl
no_list ReadCommitted list is = absurd (let clash : ReadCommitted ≡ ReadUncommitted = is in cc)

within : (level : Isolation) (log : LogValue) (budget : FetchBudget) (p : FetchPartition) → IsFetched level log budget p (fetched_partition level p (Ok (served_of log p.offset level (budget_for budget p) (not budget.given)))) (budget_after budget (Ok (served_of log p.offset level (budget_for budget p) (not budget.given))))
within level log budget p = record {
  batches = run_of log p.offset level (budget_for budget p) (not budget.given);
  served = run_served level log p.offset (budget_for budget p) budget.given;
  index = refl;
  error = refl;
  records = refl;
  high = refl;
  stable = refl;
  uncommitted = no_list level _;
  left = refl;
}

unserved : (level : Isolation) (budget : FetchBudget) (p : FetchPartition) (code : ErrorCode) (s : Result Served ErrorCode) → s ≡ Err code → ((fetched_partition level p s).error ≡ code) × IsUnserved budget p (fetched_partition level p s) (budget_after budget s)
unserved level budget p code s is = subst (λ (x : Result Served ErrorCode). ((fetched_partition level p x).error ≡ code) × IsUnserved budget p (fetched_partition level p x) (budget_after budget x)) (sym is) (refl, record { index = refl; records = refl; high = refl; stable = refl; aborted = refl; left = refl })

pub fetches_runs : FetchesRuns served_at
fetches_runs = record {
  within = λ level topics budget name p log there inside. subst (λ (x : Result Served ErrorCode). IsFetched level log budget p (fetched_partition level p x) (budget_after budget x)) (sym (inside_served level topics budget name p log there inside)) (within level log budget p);
  outside = λ level topics budget name p log there outside. unserved level budget p codes.OffsetOutOfRange (served_at level topics budget name p) (outside_served level topics budget name p log there outside);
  missing = λ level topics budget name p none. unserved level budget p codes.UnknownTopicOrPartition (served_at level topics budget name p) (ap (served_by level budget p) none);
}
