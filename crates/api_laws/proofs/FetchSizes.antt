-- How much one answer of a Fetch holds.
use Rattle.std.proofs.Common.{◌≡◌, ◌⊎◌, inl, inr, ℕ, ℤ, ◌+◌, ◌-◌, ◌≤◌, min, Bool, true, false, ◌||◌, List, [], ◌∷◌, ◌++◌, length, length-append, append-nil, Option, Some, None, refl, sym, ap, subst, ◌∙◌, arith}
use Rattle.std.specs.Prelude.{nat_le}
use Rattle.std.specs.List.{flat_map}
use Rattle.std.proofs.Math.Nat.{min-le_left, min-le_right}
use Rattle.std.proofs.lemmas.Bool.{leb-true, leb-false}
use Rattle.acl_binding.specs.declared.question.Caller.{Caller}
use Rattle.authorizer.specs.declared.answer.Refusal.{Refusal}
use Rattle.authorizer.specs.Asking.{Rules}
use Rattle.wire_types.specs.declared.topic.Topic.{Topic}
use Rattle.record_batch.specs.Batch.{BatchData}
use Rattle.partition_log.specs.Laws.{total_bytes}
use Rattle.msg_data.specs.declared.isolation.Isolation.{Isolation}
use Rattle.msg_data.specs.declared.fetch.FetchRequest.{FetchRequest}
use Rattle.msg_data.specs.declared.fetch.FetchPartition.{FetchPartition}
use Rattle.msg_data.specs.declared.fetch.FetchedRecords.{FetchedRecords}
use Rattle.msg_data.specs.declared.fetch.FetchReply.{FetchReply}
use Rattle.msg_admin.specs.declared.reply.Reply.TheVariants as replies
use Rattle.walk.specs.Rule.{refusal_of}
use Rattle.walk.specs.Walk.{answers}
use Rattle.walk.specs.Steps.{answer_by, world_by, parts_world, parts_answers, topics_world, topics_answers}
use Rattle.walk.specs.Headline.{element_at}
use Rattle.walk.proofs.Weaving.{woven}
use Rattle.walk.proofs.Headlines.{answers_each_part}
use Rattle.data_handlers.specs.declared.fetch_budget.FetchBudget.{FetchBudget}
use Rattle.broker_world.specs.World.{World, LogValue, rules_of}
use Rattle.broker_world.specs.First.{non_negative}
use Rattle.broker_world.specs.Logs.{log_at}
use Rattle.data_handlers.specs.Fetch.{budget_for, budget_after_batches, is_outside, served_at, fetched_partition, budget_after, batch_bytes, fetch_rule, whole_budget, fetch_outcome}
use Rattle.api_laws.specs.DataLaws.{IsFetched}
use Rattle.api_laws.specs.FetchSizes.{bytes_of, IsOneBatch, IsWithin, FetchIsWithin}
use Rattle.api_laws.proofs.DataFetches.{fetches_runs}

-- ---- what a part of an answer does with the budget

-- nothing was served
record Same (budget next : FetchBudget) (bytes : List ℕ) : Type 0 where
  empty : bytes ≡ []
  still : next ≡ budget

-- what was served was taken off
record Fits (budget next : FetchBudget) (bytes : List ℕ) : Type 0 where
  given : next.given ≡ true
  small : length bytes + next.left ≤ budget.left

-- it is one batch, larger than the budget, and nothing of that is left
record Forced (w : World) (budget next : FetchBudget) (bytes : List ℕ) : Type 0 where
  fresh : budget.given ≡ false
  given : next.given ≡ true
  none : next.left ≡ 0
  one : IsOneBatch w bytes

abbrev Goes : World → FetchBudget → FetchBudget → List ℕ → Type 0
Goes w budget next bytes = Same budget next bytes ⊎ (Fits budget next bytes ⊎ Forced w budget next bytes)

-- ---- one part after the other

nothing_more : (x y : List ℕ) → y ≡ [] → x ≡ x ++ y
nothing_more x y none = sym (ap (λ (l : List ℕ). x ++ l) none ∙ append-nil x)

no_bytes : (bytes : List ℕ) → length bytes ≤ 0 → bytes ≡ []
no_bytes [] small = refl
no_bytes (b ∷ bs) small = absurd (omega (arith, small))

then_same : (w : World) (a b c : FetchBudget) (x y : List ℕ) → Goes w a b x → Same b c y → Goes w a c (x ++ y)
then_same w a b c x y g s = subst (λ (r : FetchBudget). Goes w a r (x ++ y)) (sym s.still) (subst (Goes w a b) (nothing_more x y s.empty) g)

clash : (b : Bool) → b ≡ true → b ≡ false → ⊥
clash b is isnt = absurd (let wrong : true ≡ false = sym is ∙ isnt in cc)

join : (w : World) (a b c : FetchBudget) (x y : List ℕ) → Goes w a b x → Goes w b c y → Goes w a c (x ++ y)
join w a b c x y (inl s) g = subst (λ (r : FetchBudget). Goes w r c (x ++ y)) s.still (subst (λ (l : List ℕ). Goes w b c (l ++ y)) (sym s.empty) g)
join w a b c x y (inr f) (inl s) = then_same w a b c x y (inr f) s
join w a b c x y (inr (inl f)) (inr (inl g)) = inr (inl (record { given = g.given; small = omega (arith, f.small, g.small, length-append x y) }))
join w a b c x y (inr (inl f)) (inr (inr h)) = absurd (clash b.given f.given h.fresh)
join w a b c x y (inr (inr h)) (inr (inl g)) =
    inr (inr (record { fresh = h.fresh; given = g.given; none = omega (arith, g.small, h.none); one = subst (IsOneBatch w) (nothing_more x y (no_bytes y (omega (arith, g.small, h.none)))) h.one }))
join w a b c x y (inr (inr h)) (inr (inr k)) = absurd (clash b.given h.given k.fresh)

-- ---- the batches of one partition

or_true : (b : Bool) → (b || true) ≡ true
or_true true = refl
or_true false = refl

or_false : (b : Bool) → (b || false) ≡ b
or_false true = refl
or_false false = refl

bytes_long : (batches : List BatchData) → length (batch_bytes batches) ≡ total_bytes batches
bytes_long [] = refl
bytes_long (b ∷ rest) = length-append b.bytes (batch_bytes rest) ∙ ap (λ (n : ℕ). length b.bytes + n) (bytes_long rest)

min_left : (a b n : ℕ) → n ≤ min a b → n ≤ a
min_left a b n small = omega (arith, small, min-le_left a b)

min_right : (a b n : ℕ) → n ≤ min a b → n ≤ b
min_right a b n small = omega (arith, small, min-le_right a b)

only_one : (w : World) (name : List ℕ) (index : ℤ) (log : LogValue) (before batches after : List BatchData) → log_at w.topics name index ≡ Some log → log ≡ before ++ (batches ++ after) → length batches ≡ 1 → IsOneBatch w (batch_bytes batches)
only_one w name index log before [] after there stands one = absurd (omega (arith, one))
only_one w name index log before (b ∷ []) after there stands one = record { name = name; index = index; log = log; before = before; batch = b; after = after; there = there; stands = stands; whole = append-nil b.bytes }
only_one w name index log before (b ∷ next ∷ rest) after there stands one = absurd (omega (arith, one))

run_goes : (w : World) (budget : FetchBudget) (batches : List BatchData) → (total_bytes batches ≤ budget.left) ⊎ ((budget.given ≡ false) × IsOneBatch w (batch_bytes batches)) → Goes w budget (budget_after_batches budget batches) (batch_bytes batches)
run_goes w budget [] small =
    let left : budget.left - 0 ≡ budget.left = omega arith in
    inl (record { empty = refl; still = λ i. record { left = left i; given = or_false budget.given i } })
run_goes w budget (b ∷ rest) (inl small) = inr (inl (record { given = or_true budget.given; small = omega (arith, small, bytes_long (b ∷ rest)) }))
run_goes w budget (b ∷ rest) (inr (fresh, one)) = by_test (nat_le (total_bytes (b ∷ rest)) budget.left) refl where
  by_test : (t : Bool) → nat_le (total_bytes (b ∷ rest)) budget.left ≡ t → Goes w budget (budget_after_batches budget (b ∷ rest)) (batch_bytes (b ∷ rest))
  by_test true e = inr (inl (record { given = or_true budget.given; small = omega (arith, leb-true (total_bytes (b ∷ rest)) budget.left e, bytes_long (b ∷ rest)) }))
  by_test false e = inr (inr (record { fresh = fresh; given = or_true budget.given; none = omega (arith, leb-false (total_bytes (b ∷ rest)) budget.left e); one = one }))

-- ---- a part

small_by : {level : Isolation} (w : World) (name : List ℕ) (budget : FetchBudget) (p : FetchPartition) (log : LogValue) (answer : FetchedRecords) (next : FetchBudget) (f : IsFetched level log budget p answer next) → log_at w.topics name p.index ≡ Some log
    → (total_bytes f.batches ≤ budget_for budget p) ⊎ ((budget.given ≡ false) × IsOneBatch w (batch_bytes f.batches))
small_by w name budget p log answer next f there = by_size f.served.small where
  by_size : (total_bytes f.batches ≤ budget_for budget p) ⊎ ((budget.given ≡ false) × (length f.batches ≡ 1)) → (total_bytes f.batches ≤ budget_for budget p) ⊎ ((budget.given ≡ false) × IsOneBatch w (batch_bytes f.batches))
  by_size (inl small) = inl small
  by_size (inr (fresh, one)) = inr (fresh, only_one w name p.index log f.served.before f.batches f.served.after there f.served.in_order one)

fetched_goes : {level : Isolation} (w : World) (name : List ℕ) (budget : FetchBudget) (p : FetchPartition) (log : LogValue) (answer : FetchedRecords) (next : FetchBudget) → IsFetched level log budget p answer next → log_at w.topics name p.index ≡ Some log → Goes w budget next answer.records
fetched_goes w name budget p log answer next f there =
    let small = by_size (small_by w name budget p log answer next f there) in
    subst (λ (r : FetchBudget). Goes w budget r answer.records) (sym f.left) (subst (Goes w budget (budget_after_batches budget f.batches)) (sym f.records) (run_goes w budget f.batches small)) where
      by_size : (total_bytes f.batches ≤ budget_for budget p) ⊎ ((budget.given ≡ false) × IsOneBatch w (batch_bytes f.batches)) → (total_bytes f.batches ≤ budget.left) ⊎ ((budget.given ≡ false) × IsOneBatch w (batch_bytes f.batches))
      by_size (inl small) = inl (min_right (non_negative p.max_bytes) budget.left (total_bytes f.batches) small)
      by_size (inr one) = inr one

fetched_within : {level : Isolation} (w : World) (name : List ℕ) (budget : FetchBudget) (p : FetchPartition) (log : LogValue) (answer : FetchedRecords) (next : FetchBudget) → IsFetched level log budget p answer next → log_at w.topics name p.index ≡ Some log → IsWithin w p.max_bytes answer.records
fetched_within w name budget p log answer next f there = subst (IsWithin w p.max_bytes) (sym f.records) (by_size (small_by w name budget p log answer next f there)) where
  by_size : (total_bytes f.batches ≤ budget_for budget p) ⊎ ((budget.given ≡ false) × IsOneBatch w (batch_bytes f.batches)) → IsWithin w p.max_bytes (batch_bytes f.batches)
  by_size (inl small) = inl (omega (arith, min_left (non_negative p.max_bytes) budget.left (total_bytes f.batches) small, bytes_long f.batches))
  by_size (inr (fresh, one)) = inr one

-- what holds of each part, refused or not, with whatever budget
record IsPart (w : World) (budget next : FetchBudget) (p : FetchPartition) (answer : FetchedRecords) : Type 0 where
  goes : Goes w budget next answer.records
  within : IsWithin w p.max_bytes answer.records

empty_part : (w : World) (budget next : FetchBudget) (p : FetchPartition) (answer : FetchedRecords) → answer.records ≡ [] → next ≡ budget → IsPart w budget next p answer
empty_part w budget next p answer none still = record { goes = inl (record { empty = none; still = still }); within = inl (let no : length answer.records ≡ 0 = ap length none in omega (arith, no)) }

plain_part : (w : World) (level : Isolation) (budget : FetchBudget) (name : List ℕ) (p : FetchPartition) → IsPart w budget (budget_after budget (served_at level w.topics budget name p)) p (fetched_partition level p (served_at level w.topics budget name p))
plain_part w level budget name p = by_log (log_at w.topics name p.index) refl where
  by_log : (o : Option LogValue) → log_at w.topics name p.index ≡ o → IsPart w budget (budget_after budget (served_at level w.topics budget name p)) p (fetched_partition level p (served_at level w.topics budget name p))
  by_log None there = let u = (fetches_runs.missing level w.topics budget name p there).1 in empty_part w budget _ p _ u.records u.left
  by_log (Some log) there = by_place (is_outside log p.offset) refl where
    by_place : (t : Bool) → is_outside log p.offset ≡ t → IsPart w budget (budget_after budget (served_at level w.topics budget name p)) p (fetched_partition level p (served_at level w.topics budget name p))
    by_place true e = let u = (fetches_runs.outside level w.topics budget name p log there e).1 in empty_part w budget _ p _ u.records u.left
    by_place false e = let f = fetches_runs.within level w.topics budget name p log there e in record { goes = fetched_goes w name budget p log _ _ f there; within = fetched_within w name budget p log _ _ f there }

part : (w : World) (caller : Caller) (level : Isolation) (budget : FetchBudget) (name : List ℕ) (p : FetchPartition) (refusal : Option Refusal)
    → IsPart w budget (world_by (fetch_rule caller level w.topics) refusal budget name p) p (answer_by (fetch_rule caller level w.topics) refusal budget name p)
part w caller level budget name p (Some r) = empty_part w budget budget p _ refl refl
part w caller level budget name p None = plain_part w level budget name p

-- ---- the whole answer

parts_go : (w : World) (caller : Caller) (level : Isolation) (rules : Rules) (budget : FetchBudget) (name : List ℕ) (ps : List FetchPartition)
    → Goes w budget (parts_world (fetch_rule caller level w.topics) rules budget name ps) (flat_map (λ (p : FetchedRecords). p.records) (parts_answers (fetch_rule caller level w.topics) rules budget name ps))
parts_go w caller level rules budget name [] = inl (record { empty = refl; still = refl })
parts_go w caller level rules budget name (p ∷ ps) =
    let api = fetch_rule caller level w.topics in
    let refusal = refusal_of api rules name p in
    let next : FetchBudget = world_by api refusal budget name p in
    join w budget next _ _ _ (part w caller level budget name p refusal).goes (parts_go w caller level rules next name ps)

topics_go : (w : World) (caller : Caller) (level : Isolation) (rules : Rules) (budget : FetchBudget) (ts : List (Topic FetchPartition))
    → Goes w budget (topics_world (fetch_rule caller level w.topics) rules budget ts) (bytes_of (topics_answers (fetch_rule caller level w.topics) rules budget ts))
topics_go w caller level rules budget [] = inl (record { empty = refl; still = refl })
topics_go w caller level rules budget (t ∷ ts) =
    let next : FetchBudget = parts_world (fetch_rule caller level w.topics) rules budget t.name t.partitions in
    join w budget next _ _ _ (parts_go w caller level rules budget t.name t.partitions) (topics_go w caller level rules next ts)

within_budget : (w : World) (r : FetchRequest) (next : FetchBudget) (bytes : List ℕ) → Goes w (whole_budget r) next bytes → IsWithin w r.max_bytes bytes
within_budget w r next bytes (inl s) = inl (let none : length bytes ≡ 0 = ap length s.empty in omega (arith, none))
within_budget w r next bytes (inr (inl f)) = inl (omega (arith, f.small))
within_budget w r next bytes (inr (inr h)) = inr h.one

same_reply : (x y : FetchReply) → replies.Fetch x ≡ replies.Fetch y → x ≡ y
same_reply x y h = cc

same_element : {X : Type 0} (x y : X) → Some x ≡ Some y → x ≡ y
same_element x y h = cc

told_topics : (w : World) (caller : Caller) (r : FetchRequest) (reply : FetchReply) → (fetch_outcome w caller r).reply ≡ replies.Fetch reply → answers (fetch_rule caller r.isolation w.topics) (rules_of w) (whole_budget r) r.topics ≡ reply.topics
told_topics w caller r reply is = ap (λ (x : FetchReply). x.topics) (same_reply _ reply is)

whole : (w : World) (caller : Caller) (r : FetchRequest) (reply : FetchReply) → (fetch_outcome w caller r).reply ≡ replies.Fetch reply → IsWithin w r.max_bytes (bytes_of reply.topics)
whole w caller r reply is =
    let api = fetch_rule caller r.isolation w.topics in
    let told = (woven api (rules_of w) (whole_budget r) r.topics).answers ∙ told_topics w caller r reply is in
    subst (λ (ts : List (Topic FetchedRecords)). IsWithin w r.max_bytes (bytes_of ts)) told (within_budget w r _ _ (topics_go w caller r.isolation (rules_of w) (whole_budget r) r.topics))

each : (w : World) (caller : Caller) (r : FetchRequest) (reply : FetchReply) → (fetch_outcome w caller r).reply ≡ replies.Fetch reply
    → (i j : ℕ) (t : Topic FetchPartition) (a : Topic FetchedRecords) (p : FetchPartition) (answer : FetchedRecords)
    → element_at r.topics i ≡ Some t → element_at t.partitions j ≡ Some p → element_at reply.topics i ≡ Some a → element_at a.partitions j ≡ Some answer → IsWithin w p.max_bytes answer.records
each w caller r reply is i j t a p answer asks names tells answers_it =
    let api = fetch_rule caller r.isolation w.topics in
    let placed = answers_each_part.places api (rules_of w) (whole_budget r) r.topics i t asks in
    let same_topic : a ≡ placed.0 = same_element a placed.0 (sym tells ∙ ap (λ (l : List (Topic FetchedRecords)). element_at l i) (sym (told_topics w caller r reply is)) ∙ placed.1.0) in
    let there = placed.1.1.places j p names in
    let same_answer = same_element answer _ (sym answers_it ∙ ap (λ (x : Topic FetchedRecords). element_at x.partitions j) same_topic ∙ there) in
    subst (λ (x : FetchedRecords). IsWithin w p.max_bytes x.records) (sym same_answer) (part w caller r.isolation _ t.name p (refusal_of api (rules_of w) t.name p)).within

pub fetch_is_within : FetchIsWithin fetch_outcome
fetch_is_within = record { whole = whole; each = each }
