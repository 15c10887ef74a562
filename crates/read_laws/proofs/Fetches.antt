-- A Fetch that may succeed does.
use Rattle.std.proofs.Common.{◌≡◌, ◌⊎◌, inl, inr, ℕ, zero, suc, ℤ, pos, negsuc, ◌+◌, ◌-◌, ◌≤◌, ◌<◌, min, Bool, true, false, not, cond, ◌||◌, List, [], ◌∷◌, ◌++◌, length, take, length-append, append-nil, append_assoc, Option, Some, None, Result, Ok, Err, refl, sym, ap, subst, ◌∙◌, arith}
use Rattle.std.specs.Prelude.{int_le, int_lt, nat_le, ◌≤ℤ◌, ◌<ℤ◌, slice_get}
use Rattle.std.specs.Option.{option_and_then}
use Rattle.std.specs.Str.{bytes_eq}
use Rattle.std.specs.List.{AllByRecursion}
use Rattle.std.proofs.Math.Nat.{le-min, min-le_left, min-le_right}
use Rattle.std.proofs.lemmas.Bool.{leb-false, leb-true}
use Rattle.std.proofs.lemmas.Int.{ints}
use Rattle.acl_binding.specs.declared.question.Caller.{Caller}
use Rattle.acl_binding.specs.declared.question.Verdict.{Verdict}
use Rattle.acl_binding.specs.declared.words.Kind.TheVariants as kinds
use Rattle.acl_binding.specs.declared.words.Operation.TheVariants as operations
use Rattle.acl_binding.specs.Verdict.{question_of}
use Rattle.authorizer.specs.declared.answer.Refusal.{Refusal}
use Rattle.authorizer.specs.Asking.{Rules, refusal_by, first_of}
use Rattle.wire_types.specs.declared.error_code.ErrorCode.{ErrorCode}
use Rattle.wire_types.specs.declared.error_code.ErrorCode.TheVariants as codes
use Rattle.wire_types.specs.declared.topic.Topic.{Topic}
use Rattle.wire_types.specs.ErrorCode.{number_of}
use Rattle.record_batch.specs.Batch.{BatchData, next_offset}
use Rattle.record_batch.proofs.Kept.{batch_long}
use Rattle.partition_log.specs.declared.served.Served.{Served}
use Rattle.partition_log.specs.Log.{IsGapless, end_of}
use Rattle.partition_log.specs.Fetch.{batches_from, batches_below, fitting_batches, at_least_one, limit_of, run_of, served_of}
use Rattle.partition_log.specs.Laws.{total_bytes}
use Rattle.partition_log.proofs.Numbers.{le_true, le_false, lt_true, lt_false, le_is, le_is_not, or_false}
use Rattle.msg_data.specs.declared.isolation.Isolation.{Isolation}
use Rattle.msg_data.specs.declared.isolation.Isolation.TheVariants.{ReadUncommitted, ReadCommitted}
use Rattle.msg_data.specs.declared.fetch.FetchRequest.{FetchRequest}
use Rattle.msg_data.specs.declared.fetch.FetchPartition.{FetchPartition}
use Rattle.msg_data.specs.declared.fetch.FetchedRecords.{FetchedRecords}
use Rattle.walk.specs.Rule.{PartRule, refusal_of}
use Rattle.walk.specs.Walk.{answers}
use Rattle.walk.specs.Woven.{has_any}
use Rattle.walk.specs.Steps.{answer_by, world_by, parts_world, parts_answers, topics_answers}
use Rattle.walk.specs.Headline.{element_at, world_before}
use Rattle.walk.proofs.Weaving.{woven}
use Rattle.walk.proofs.Headlines.{answers_each_part}
use Rattle.data_handlers.specs.declared.fetch_budget.FetchBudget.{FetchBudget}
use Rattle.broker_world.specs.World.{World, TopicValue, LogValue, find_topic, rules_of}
use Rattle.broker_world.specs.HandlerResult.{HandlerResult}
use Rattle.broker_world.specs.First.{non_negative}
use Rattle.broker_world.specs.Partitions.{AreLogs}
use Rattle.broker_world.specs.Logs.{log_in, log_of, log_at, HoldLogs}
use Rattle.data_handlers.specs.Fetch.{budget_for, budget_after_batches, is_outside, served_by, served_at, batch_bytes, fetched_partition, budget_after, fetch_rule, whole_budget, fetch_outcome}
use Rattle.read_laws.specs.Fetches.{at_place, partition_in, records_of, records_before, BeginsWith, MayRead, IsReadable, level_end, IsNextBatch, bytes_of, FirstReaches, IsRunFrom, IsWithinLimits, ServesWithinLimits, IsAllowed, IsToldError, AnswersEachTopic, TellsTheHighWatermark, TellsOutOfRange, TellsMissing, HasFetchLaws, IsOnlyFetch, FetchRule, topics_fetched, IsFetched, HasRoom, HaveBytes, LogsHaveBytes, TellsNoError, ServesTheNextBatch, ServesNothingElse, ServesWholeBatches, ServesAllThatFit}

same_element : {X : Type 0} (x y : X) → Some x ≡ Some y → x ≡ y
same_element x y h = cc

-- ---- batches have bytes

from_have : (offset : ℤ) (log : LogValue) → HaveBytes log → HaveBytes (batches_from offset log)
from_have offset [] have = tt
from_have offset (b ∷ rest) have = by_test (int_le (next_offset b) offset) (from_have offset rest have.1) where
  by_test : (t : Bool) → HaveBytes (batches_from offset rest) → HaveBytes (cond t (batches_from offset rest) (b ∷ rest))
  by_test true more = more
  by_test false more = have

below_have : (limit : ℤ) (log : LogValue) → HaveBytes log → HaveBytes (batches_below limit log)
below_have limit [] have = tt
below_have limit (b ∷ rest) have = by_test (int_le (next_offset b) limit) (below_have limit rest have.1) where
  by_test : (t : Bool) → HaveBytes (batches_below limit rest) → HaveBytes (cond t (b ∷ batches_below limit rest) [])
  by_test true more = (have.0, more)
  by_test false more = tt

fitting_have : (budget : ℕ) (log : LogValue) → HaveBytes log → HaveBytes (fitting_batches budget log)
fitting_have budget [] have = tt
fitting_have budget (b ∷ rest) have = by_test (nat_le (length b.bytes) budget) (fitting_have (budget - length b.bytes) rest have.1) where
  by_test : (t : Bool) → HaveBytes (fitting_batches (budget - length b.bytes) rest) → HaveBytes (cond t (b ∷ fitting_batches (budget - length b.bytes) rest) [])
  by_test true more = (have.0, more)
  by_test false more = tt

one_has : (log : LogValue) → HaveBytes log → HaveBytes (take 1 log)
one_has [] have = tt
one_has (b ∷ rest) have = (have.0, tt)

least_have : (forced : Bool) (candidates run : LogValue) → HaveBytes candidates → HaveBytes run → HaveBytes (at_least_one forced candidates run)
least_have true candidates [] have more = one_has candidates have
least_have false candidates [] have more = tt
least_have forced candidates (b ∷ run) have more = more

run_has : (level : Isolation) (log : LogValue) (offset : ℤ) (budget : ℕ) (forced : Bool) → HaveBytes log → HaveBytes (run_of log offset level budget forced)
run_has level log offset budget forced have =
    let candidates : LogValue = batches_below (limit_of level log) (batches_from offset log) in
    let good = below_have (limit_of level log) (batches_from offset log) (from_have offset log have) in
    least_have forced candidates (fitting_batches budget candidates) good (fitting_have budget candidates good)

-- in a log that is found
all_at : {A : Type 0} (Is : A → Type 0) (xs : List A) (n : ℕ) (x : A) → AllByRecursion Is xs → slice_get xs n ≡ Some x → Is x
all_at Is [] n x all h = absurd (let clash : None ≡ Some x = h in cc)
all_at Is (y ∷ ys) zero x all h = subst Is (same_element y x h) all.0
all_at Is (y ∷ ys) (suc n) x all h = all_at Is ys n x all.1 h

at_index : (logs : List LogValue) (index : ℤ) (log : LogValue) → AllByRecursion HaveBytes logs → log_in index logs ≡ Some log → HaveBytes log
at_index logs (pos n) log all h = all_at HaveBytes logs n log all h
at_index logs (negsuc n) log all h = absurd (let clash : None ≡ Some log = h in cc)

abbrev pub EachHas : List TopicValue → Type 0
EachHas topics = AllByRecursion (λ (t : TopicValue). AllByRecursion HaveBytes t.partitions) topics

pub log_has : (topics : List TopicValue) → EachHas topics → LogsHaveBytes topics
log_has [] all name index log h = absurd (let clash : None ≡ Some log = h in cc)
log_has (t ∷ ts) all name index log h = by_test (bytes_eq t.name name) (log_has ts all.1 name index log) h where
  by_test : (b : Bool) → (log_at ts name index ≡ Some log → HaveBytes log) → option_and_then (log_of index) (cond b (Some t) (find_topic ts name)) ≡ Some log → HaveBytes log
  by_test true rest there = at_index t.partitions index log all.0 there
  by_test false rest there = rest there

-- the logs of a broker's world have
gapless_have : (first : ℤ) (log : LogValue) → IsGapless first log → HaveBytes log
gapless_have first [] is = tt
gapless_have first (b ∷ rest) is = (omega (arith, batch_long b is.0), gapless_have (next_offset b) rest is.2)

logs_have : (logs : List LogValue) → AreLogs logs → AllByRecursion HaveBytes logs
logs_have [] are = tt
logs_have (log ∷ logs) are = (gapless_have (pos 0) log are.0.gapless, logs_have logs are.1)

topics_have : (topics : List TopicValue) → HoldLogs topics → EachHas topics
topics_have [] hold = tt
topics_have (t ∷ ts) hold = (logs_have t.partitions hold.0, topics_have ts hold.1)

pub worlds_have : (w : World) → HoldLogs w.topics → LogsHaveBytes w.topics
worlds_have w hold = log_has w.topics (topics_have w.topics hold)

-- ---- batches and their bytes

bytes_long : (batches : List BatchData) → length (batch_bytes batches) ≡ total_bytes batches
bytes_long [] = refl
bytes_long (b ∷ rest) = length-append b.bytes (batch_bytes rest) ∙ ap (λ (n : ℕ). length b.bytes + n) (bytes_long rest)

any_first : (x y : List ℕ) → 0 < length x → has_any (x ++ y) ≡ true
any_first [] y some = absurd (omega (arith, some))
any_first (n ∷ x) y some = refl

any_bytes : (batches : List BatchData) → HaveBytes batches → has_any (batch_bytes batches) ≡ has_any batches
any_bytes [] have = refl
any_bytes (b ∷ rest) have = any_first b.bytes (batch_bytes rest) have.0

any_joined : (x y : List ℕ) → has_any (x ++ y) ≡ (has_any x || has_any y)
any_joined [] y = refl
any_joined (n ∷ x) y = refl

-- ---- the budget goes by the records that were told

abbrev left_after : FetchRequest → List ℕ → FetchBudget
left_after r taken = record { left = non_negative r.max_bytes - length taken; given = has_any taken }

same_budget : (a b : FetchBudget) → a.left ≡ b.left → a.given ≡ b.given → a ≡ b
same_budget a b left given = λ i. record { left = left i; given = given i }

first_left : (r : FetchRequest) → whole_budget r ≡ left_after r []
first_left r = same_budget (whole_budget r) (left_after r []) (omega arith) refl

nothing_more : (r : FetchRequest) (taken : List ℕ) → left_after r taken ≡ left_after r (taken ++ [])
nothing_more r taken = ap (left_after r) (sym (append-nil taken))

run_left : (r : FetchRequest) (taken : List ℕ) (batches : List BatchData) → HaveBytes batches → budget_after_batches (left_after r taken) batches ≡ left_after r (taken ++ batch_bytes batches)
run_left r taken batches have =
    same_budget (budget_after_batches (left_after r taken) batches) (left_after r (taken ++ batch_bytes batches))
    (omega (arith, bytes_long batches, length-append taken (batch_bytes batches)))
    (ap (λ (b : Bool). has_any taken || b) (sym (any_bytes batches have)) ∙ sym (any_joined taken (batch_bytes batches)))

abbrev HaveServed : Result Served ErrorCode → Type 0
HaveServed (Err code) = Unit {0}
HaveServed (Ok s) = HaveBytes s.batches

served_have : (level : Isolation) (topics : List TopicValue) (budget : FetchBudget) (name : List ℕ) (p : FetchPartition) → LogsHaveBytes topics → HaveServed (served_at level topics budget name p)
served_have level topics budget name p have = by_log (log_at topics name p.index) refl where
  by_log : (o : Option LogValue) → log_at topics name p.index ≡ o → HaveServed (served_by level budget p o)
  by_log None there = tt
  by_log (Some log) there = by_place (is_outside log p.offset) where
    by_place : (t : Bool) → HaveServed (cond t (Err codes.OffsetOutOfRange) (Ok (served_of log p.offset level (budget_for budget p) (not budget.given))))
    by_place true = tt
    by_place false = run_has level log p.offset (budget_for budget p) (not budget.given) (have name p.index log there)

served_left : (r : FetchRequest) (taken : List ℕ) (budget : FetchBudget) (level : Isolation) (p : FetchPartition) (s : Result Served ErrorCode) → budget ≡ left_after r taken → HaveServed s
    → budget_after budget s ≡ left_after r (taken ++ (fetched_partition level p s).records)
served_left r taken budget level p (Err code) is have = is ∙ nothing_more r taken
served_left r taken budget level p (Ok s) is have = ap (λ (b : FetchBudget). budget_after_batches b s.batches) is ∙ run_left r taken s.batches have

module _ (w : World) (caller : Caller) (r : FetchRequest) where
  abbrev api : PartRule FetchPartition FetchedRecords FetchBudget
  api = fetch_rule caller r.isolation w.topics

  abbrev rules : Rules
  rules = rules_of w

  part_left : (taken : List ℕ) (budget : FetchBudget) (name : List ℕ) (p : FetchPartition) (refusal : Option Refusal) → LogsHaveBytes w.topics → budget ≡ left_after r taken
      → world_by api refusal budget name p ≡ left_after r (taken ++ (answer_by api refusal budget name p).records)
  part_left taken budget name p (Some refusal) have is = is ∙ nothing_more r taken
  part_left taken budget name p None have is = served_left r taken budget r.isolation p (served_at r.isolation w.topics budget name p) is (served_have r.isolation w.topics budget name p have)

  -- ---- one part after the other

  -- it is answered by the budget that these records leave
  record IsAnsweredAfter (taken : List ℕ) (name : List ℕ) (p : FetchPartition) (answer : Option FetchedRecords) : Type 0 where
    budget : FetchBudget
    left : budget ≡ left_after r taken
    is : answer ≡ Some (answer_by api (refusal_of api rules name p) budget name p)

  parts_left : (taken : List ℕ) (budget : FetchBudget) (name : List ℕ) (ps : List FetchPartition) → LogsHaveBytes w.topics → budget ≡ left_after r taken
      → parts_world api rules budget name ps ≡ left_after r (taken ++ records_of (parts_answers api rules budget name ps))
  parts_left taken budget name [] have is = is ∙ nothing_more r taken
  parts_left taken budget name (x ∷ xs) have is =
      let refusal : Option Refusal = refusal_of api rules name x in
      let told : FetchedRecords = answer_by api refusal budget name x in
      let next : FetchBudget = world_by api refusal budget name x in
      parts_left (taken ++ told.records) next name xs have (part_left taken budget name x refusal have is)
      ∙ ap (left_after r) (append_assoc taken told.records (records_of (parts_answers api rules next name xs)))

  part_told : (taken : List ℕ) (budget : FetchBudget) (name : List ℕ) (ps : List FetchPartition) (j : ℕ) (p : FetchPartition) → LogsHaveBytes w.topics → budget ≡ left_after r taken → element_at ps j ≡ Some p
      → IsAnsweredAfter (taken ++ records_of (take j (parts_answers api rules budget name ps))) name p (element_at (parts_answers api rules budget name ps) j)
  part_told taken budget name [] j p have is h = absurd (let clash : None ≡ Some p = h in cc)
  part_told taken budget name (x ∷ xs) zero p have is h = record {
    budget = budget;
    left = is ∙ nothing_more r taken;
    is = ap (λ (y : FetchPartition). Some (answer_by api (refusal_of api rules name y) budget name y)) (same_element x p h);
  }
  part_told taken budget name (x ∷ xs) (suc j) p have is h =
      let refusal : Option Refusal = refusal_of api rules name x in
      let told : FetchedRecords = answer_by api refusal budget name x in
      let next : FetchBudget = world_by api refusal budget name x in
      subst (λ (l : List ℕ). IsAnsweredAfter l name p (element_at (parts_answers api rules next name xs) j)) (append_assoc taken told.records (records_of (take j (parts_answers api rules next name xs))))
      (part_told (taken ++ told.records) next name xs j p have (part_left taken budget name x refusal have is) h)

  topic_told : (taken : List ℕ) (budget : FetchBudget) (ts : List (Topic FetchPartition)) (i j : ℕ) (t : Topic FetchPartition) (p : FetchPartition) → LogsHaveBytes w.topics → budget ≡ left_after r taken → element_at ts i ≡ Some t → element_at t.partitions j ≡ Some p
      → IsAnsweredAfter (taken ++ records_before (topics_answers api rules budget ts) i j) t.name p (at_place (topics_answers api rules budget ts) i j)
  topic_told taken budget [] i j t p have is h k = absurd (let clash : None ≡ Some t = h in cc)
  topic_told taken budget (x ∷ xs) zero j t p have is h k =
      subst (λ (y : Topic FetchPartition). IsAnsweredAfter (taken ++ records_of (take j (parts_answers api rules budget y.name y.partitions))) t.name p (element_at (parts_answers api rules budget y.name y.partitions) j)) (sym (same_element x t h))
      (part_told taken budget t.name t.partitions j p have is k)
  topic_told taken budget (x ∷ xs) (suc i) j t p have is h k =
      let told : List FetchedRecords = parts_answers api rules budget x.name x.partitions in
      let next : FetchBudget = parts_world api rules budget x.name x.partitions in
      subst (λ (l : List ℕ). IsAnsweredAfter l t.name p (at_place (topics_answers api rules next xs) i j)) (append_assoc taken (records_of told) (records_before (topics_answers api rules next xs) i j))
      (topic_told (taken ++ records_of told) next xs i j t p have (parts_left taken budget x.name x.partitions have is) h k)

  abbrev all_told : List (Topic FetchedRecords)
  all_told = answers api rules (whole_budget r) r.topics

  told_after : (i j : ℕ) (t : Topic FetchPartition) (p : FetchPartition) → LogsHaveBytes w.topics → element_at r.topics i ≡ Some t → element_at t.partitions j ≡ Some p → IsAnsweredAfter (records_before all_told i j) t.name p (at_place all_told i j)
  told_after i j t p have h k =
      subst (λ (l : List (Topic FetchedRecords)). IsAnsweredAfter (records_before l i j) t.name p (at_place l i j)) (woven api rules (whole_budget r) r.topics).answers
      (topic_told [] (whole_budget r) r.topics i j t p have (first_left r) h k)

  -- ---- a partition that may be read

  granted : (name : List ℕ) (p : FetchPartition) → MayRead w caller name → refusal_of api rules name p ≡ None
  granted name p may = ap (λ (v : Verdict). first_of (refusal_by v (question_of caller operations.Read kinds.Topic name)) None) may

  abbrev served : LogValue → FetchPartition → FetchBudget → Served
  served log p budget = served_of log p.offset r.isolation (budget_for budget p) (not budget.given)

  inside_served : (budget : FetchBudget) (name : List ℕ) (p : FetchPartition) (log : LogValue) → log_at w.topics name p.index ≡ Some log → pos 0 ≤ℤ p.offset → p.offset ≤ℤ end_of log → served_at r.isolation w.topics budget name p ≡ Ok (served log p budget)
  inside_served budget name p log there low high =
      ap (served_by r.isolation budget p) there
      ∙ ap (λ (x : Bool). cond x (Err codes.OffsetOutOfRange) (Ok (served log p budget))) (or_false (int_lt p.offset (pos 0)) (int_lt (end_of log) p.offset) (lt_false p.offset (pos 0) low) (lt_false (end_of log) p.offset high))

  readable_told : (i j : ℕ) (p : FetchPartition) (log : LogValue) (budget : FetchBudget) (is : IsReadable w caller r i j p log) → answer_by api (refusal_of api rules is.topic.name p) budget is.topic.name p ≡ fetched_partition r.isolation p (Ok (served log p budget))
  readable_told i j p log budget is =
      ap (λ (o : Option Refusal). answer_by api o budget is.topic.name p) (granted is.topic.name p is.may_read)
      ∙ ap (fetched_partition r.isolation p) (inside_served budget is.topic.name p log is.there is.from_start is.to_end)

pub zero_is : number_of codes.None ≡ pos 0
unfolding number_of
zero_is = refl

-- ---- no error

-- it is answered, by whatever budget was left
record IsServedSomehow (w : World) (caller : Caller) (r : FetchRequest) (i j : ℕ) (p : FetchPartition) (log : LogValue) : Type 0 where
  budget : FetchBudget
  is : at_place (all_told w caller r) i j ≡ Some (fetched_partition r.isolation p (Ok (served w caller r log p budget)))

somehow : (w : World) (caller : Caller) (r : FetchRequest) (i j : ℕ) (p : FetchPartition) (log : LogValue) → IsReadable w caller r i j p log → IsServedSomehow w caller r i j p log
somehow w caller r i j p log is =
    let placed = answers_each_part.places (api w caller r) (rules_of w) (whole_budget r) r.topics i is.topic is.named in
    record {
      budget = _;
      is = ap (partition_in j) placed.1.0 ∙ placed.1.1.places j p is.asked ∙ ap (λ (x : FetchedRecords). Some x) (readable_told w caller r i j p log _ is);
    }

pub tells_no_error : TellsNoError fetch_outcome
tells_no_error w caller r i j p log is =
    let told = somehow w caller r i j p log is in
    record { answer = fetched_partition r.isolation p (Ok (served w caller r log p told.budget)); told = told.is; error = zero_is; records = tt }

pub answers_each_topic : AnswersEachTopic fetch_outcome
answers_each_topic = record {
  number = λ w caller r. answers_each_part.number (api w caller r) (rules_of w) (whole_budget r) r.topics;
  places = λ w caller r i topic named.
      let placed = answers_each_part.places (api w caller r) (rules_of w) (whole_budget r) r.topics i topic named in
      record { answer = placed.0; is = placed.1.0; name = placed.1.1.name; number = placed.1.1.number };
}

pub tells_the_high_watermark : TellsTheHighWatermark fetch_outcome
tells_the_high_watermark w caller r i j p log is =
    let told = somehow w caller r i j p log is in
    record { answer = fetched_partition r.isolation p (Ok (served w caller r log p told.budget)); told = told.is; index = refl; high_watermark = refl; stable = refl }

-- ---- the next batch

passed_from : (offset : ℤ) (before : LogValue) (batch : BatchData) (after : LogValue) → AllByRecursion (λ (b : BatchData). next_offset b ≤ℤ offset) before → offset <ℤ next_offset batch → batches_from offset (before ++ batch ∷ after) ≡ batch ∷ after
passed_from offset [] batch after all reaches = ap (λ (t : Bool). cond t (batches_from offset after) (batch ∷ after)) (le_false (next_offset batch) offset reaches)
passed_from offset (x ∷ xs) batch after all reaches =
    ap (λ (t : Bool). cond t (batches_from offset (xs ++ batch ∷ after)) (x ∷ (xs ++ batch ∷ after))) (le_true (next_offset x) offset all.0)
    ∙ passed_from offset xs batch after all.1 reaches

pub same_end : (level : Isolation) (log : LogValue) → level_end level log ≡ limit_of level log
same_end ReadUncommitted log = refl
same_end ReadCommitted log = refl

next_is : (level : Isolation) (log : LogValue) (offset : ℤ) (batch : BatchData) → IsNextBatch level log offset batch → (more : LogValue) × (batches_below (limit_of level log) (batches_from offset log) ≡ batch ∷ more)
next_is level log offset batch is =
    let from = ap (batches_from offset) is.parts ∙ passed_from offset is.before batch is.after is.passed is.reaches in
    let below = le_true (next_offset batch) (limit_of level log) (subst (λ (limit : ℤ). next_offset batch ≤ℤ limit) (same_end level log) is.whole) in (
      batches_below (limit_of level log) is.after,
      ap (batches_below (limit_of level log)) from ∙ ap (λ (t : Bool). cond t (batch ∷ batches_below (limit_of level log) is.after) []) below,
    )

first_served : (forced : Bool) (budget : ℕ) (batch : BatchData) (more : LogValue) → (forced ≡ true) ⊎ (length batch.bytes ≤ budget) → (rest : LogValue) × (at_least_one forced (batch ∷ more) (fitting_batches budget (batch ∷ more)) ≡ batch ∷ rest)
first_served forced budget batch more room = by_size (nat_le (length batch.bytes) budget) refl room where
  by_size : (t : Bool) → nat_le (length batch.bytes) budget ≡ t → (forced ≡ true) ⊎ (length batch.bytes ≤ budget) → (rest : LogValue) × (at_least_one forced (batch ∷ more) (cond t (batch ∷ fitting_batches (budget - length batch.bytes) more) []) ≡ batch ∷ rest)
  by_size true e room = (fitting_batches (budget - length batch.bytes) more, refl)
  by_size false e (inl one) = ([], ap (λ (t : Bool). cond t (batch ∷ []) []) one)
  by_size false e (inr small) = absurd (omega (arith, small, leb-false (length batch.bytes) budget e))

none_given : (taken : List ℕ) → length taken ≡ 0 → not (has_any taken) ≡ true
none_given [] none = refl
none_given (b ∷ bs) none = absurd (omega (arith, none))

as_count : (n : ℕ) (z : ℤ) → pos n ≤ℤ z → n ≤ non_negative z
as_count n (pos m) h = omega (arith, ints)
as_count n (negsuc m) h = omega (arith, ints)

room_for : (r : FetchRequest) (p : FetchPartition) (taken : List ℕ) (size : ℕ) → HasRoom r p (length taken) size → (not (has_any taken) ≡ true) ⊎ (size ≤ min (non_negative p.max_bytes) (non_negative r.max_bytes - length taken))
room_for r p taken size (inl none) = inl (none_given taken none)
room_for r p taken size (inr (own, whole)) = inr (le-min (as_count size p.max_bytes own) (omega (arith, as_count (length taken + size) r.max_bytes whole)))

run_begins : (level : Isolation) (log : LogValue) (offset : ℤ) (batch : BatchData) (budget : ℕ) (forced : Bool) → IsNextBatch level log offset batch → (forced ≡ true) ⊎ (length batch.bytes ≤ budget) → BeginsWith batch.bytes (batch_bytes (run_of log offset level budget forced))
run_begins level log offset batch budget forced is room =
    let next = next_is level log offset batch is in
    let first = first_served forced budget batch next.0 room in
    (batch_bytes first.0, ap (λ (l : LogValue). batch_bytes (at_least_one forced l (fitting_batches budget l))) next.1 ∙ ap batch_bytes first.1)

pub serves_the_next_batch : ServesTheNextBatch fetch_outcome
serves_the_next_batch w caller r i j p log batch have is next room =
    let told = told_after w caller r i j is.topic p have is.named is.asked in
    let taken : List ℕ = records_before (all_told w caller r) i j in
    let begins = run_begins r.isolation log p.offset batch (budget_for (left_after r taken) p) (not (left_after r taken).given) next (room_for r p taken (length batch.bytes) room) in
    record {
      answer = fetched_partition r.isolation p (Ok (served w caller r log p told.budget));
      told = told.is ∙ ap (λ (x : FetchedRecords). Some x) (readable_told w caller r i j p log told.budget is);
      error = zero_is;
      records = subst (λ (b : FetchBudget). BeginsWith batch.bytes (batch_bytes (run_of log p.offset r.isolation (budget_for b p) (not b.given)))) (sym told.left) begins;
    }

-- ---- nothing else

abbrev IsFree : ℤ → ℤ → LogValue → Type 0
IsFree offset limit log =
    (batch : BatchData) (before after : LogValue) → log ≡ before ++ batch ∷ after → AllByRecursion (λ (b : BatchData). next_offset b ≤ℤ offset) before → offset <ℤ next_offset batch → next_offset batch ≤ℤ limit → ⊥

none_there : (offset limit : ℤ) (log : LogValue) → IsFree offset limit log → batches_below limit (batches_from offset log) ≡ []
none_there offset limit [] free = refl
none_there offset limit (b ∷ rest) free = by_offset (int_le (next_offset b) offset) refl (none_there offset limit rest) where
  by_limit : offset <ℤ next_offset b → (t : Bool) → int_le (next_offset b) limit ≡ t → cond t (b ∷ batches_below limit rest) [] ≡ []
  by_limit reaches true e = absurd (free b [] rest refl tt reaches (le_is (next_offset b) limit e))
  by_limit reaches false e = refl

  by_offset : (t : Bool) → int_le (next_offset b) offset ≡ t → (IsFree offset limit rest → batches_below limit (batches_from offset rest) ≡ []) → batches_below limit (cond t (batches_from offset rest) (b ∷ rest)) ≡ []
  by_offset true e more = more (λ batch before after parts passed. free batch (b ∷ before) after (ap (λ (l : LogValue). b ∷ l) parts) (le_is (next_offset b) offset e, passed))
  by_offset false e more = by_limit (le_is_not (next_offset b) offset e) (int_le (next_offset b) limit) refl

none_served : (forced : Bool) → at_least_one forced [] [] ≡ []
none_served true = refl
none_served false = refl

pub serves_nothing_else : ServesNothingElse fetch_outcome
serves_nothing_else w caller r i j p log is none =
    let told = somehow w caller r i j p log is in
    let free = none_there p.offset (limit_of r.isolation log) log
    (λ batch before after parts passed reaches whole. none batch (record { before = before; after = after; parts = parts; passed = passed; reaches = reaches; whole = subst (λ (limit : ℤ). next_offset batch ≤ℤ limit) (sym (same_end r.isolation log)) whole }))
    in
    record {
      answer = fetched_partition r.isolation p (Ok (served w caller r log p told.budget));
      told = told.is;
      error = zero_is;
      records = ap (λ (l : LogValue). batch_bytes (at_least_one (not told.budget.given) l (fitting_batches (budget_for told.budget p) l))) free ∙ ap batch_bytes (none_served (not told.budget.given));
    }

-- ---- whole batches

-- the batches from the one on that holds the offset, and those before
record IsFrom (offset : ℤ) (log : LogValue) : Type 0 where
  before : LogValue
  parts : log ≡ before ++ batches_from offset log
  passed : AllByRecursion (λ (b : BatchData). next_offset b ≤ℤ offset) before
  reaches : FirstReaches offset (batches_from offset log)

from_here : (offset : ℤ) (log : LogValue) → IsFrom offset log
from_here offset [] = record { before = []; parts = refl; passed = tt; reaches = tt }
from_here offset (b ∷ rest) = by_test (int_le (next_offset b) offset) refl (from_here offset rest) where
  by_test : (t : Bool) → int_le (next_offset b) offset ≡ t → IsFrom offset rest → IsFrom offset (b ∷ rest)
  by_test true e f =
      let here : batches_from offset (b ∷ rest) ≡ batches_from offset rest = ap (λ (x : Bool). cond x (batches_from offset rest) (b ∷ rest)) e in
      record { before = b ∷ f.before; parts = ap (λ (l : LogValue). b ∷ l) f.parts ∙ ap (λ (l : LogValue). b ∷ (f.before ++ l)) (sym here); passed = (le_is (next_offset b) offset e, f.passed); reaches = subst (FirstReaches offset) (sym here) f.reaches }
  by_test false e f =
      let here : batches_from offset (b ∷ rest) ≡ b ∷ rest = ap (λ (x : Bool). cond x (batches_from offset rest) (b ∷ rest)) e in
      record { before = []; parts = sym here; passed = tt; reaches = subst (FirstReaches offset) (sym here) (le_is_not (next_offset b) offset e) }

-- a list begins with another
abbrev Begins : LogValue → LogValue → Type 0
Begins front list = (after : LogValue) × (list ≡ front ++ after)

abbrev AllBelow : ℤ → LogValue → Type 0
AllBelow limit log = AllByRecursion (λ (b : BatchData). next_offset b ≤ℤ limit) log

below_begins : (limit : ℤ) (log : LogValue) → Begins (batches_below limit log) log × AllBelow limit (batches_below limit log)
below_begins limit [] = (([], refl), tt)
below_begins limit (b ∷ rest) = by_test (int_le (next_offset b) limit) refl (below_begins limit rest) where
  by_test : (t : Bool) → int_le (next_offset b) limit ≡ t → Begins (batches_below limit rest) rest × AllBelow limit (batches_below limit rest)
      → Begins (cond t (b ∷ batches_below limit rest) []) (b ∷ rest) × AllBelow limit (cond t (b ∷ batches_below limit rest) [])
  by_test true e more = ((more.0.0, ap (λ (l : LogValue). b ∷ l) more.0.1), (le_is (next_offset b) limit e, more.1))
  by_test false e more = ((b ∷ rest, refl), tt)

fitting_begins : (budget : ℕ) (log : LogValue) → Begins (fitting_batches budget log) log
fitting_begins budget [] = ([], refl)
fitting_begins budget (b ∷ rest) = by_test (nat_le (length b.bytes) budget) (fitting_begins (budget - length b.bytes) rest) where
  by_test : (t : Bool) → Begins (fitting_batches (budget - length b.bytes) rest) rest → Begins (cond t (b ∷ fitting_batches (budget - length b.bytes) rest) []) (b ∷ rest)
  by_test true more = (more.0, ap (λ (l : LogValue). b ∷ l) more.1)
  by_test false more = (b ∷ rest, refl)

one_begins : (log : LogValue) → Begins (take 1 log) log
one_begins [] = ([], refl)
one_begins (b ∷ rest) = (rest, refl)

least_begins : (forced : Bool) (candidates run : LogValue) → Begins run candidates → Begins (at_least_one forced candidates run) candidates
least_begins true candidates [] begins = one_begins candidates
least_begins false candidates [] begins = begins
least_begins forced candidates (b ∷ run) begins = begins

front_reaches : (offset : ℤ) (front after : LogValue) → FirstReaches offset (front ++ after) → FirstReaches offset front
front_reaches offset [] after reaches = tt
front_reaches offset (b ∷ front) after reaches = reaches

front_below : (limit : ℤ) (front after : LogValue) → AllBelow limit (front ++ after) → AllBelow limit front
front_below limit [] after all = tt
front_below limit (b ∷ front) after all = (all.0, front_below limit front after all.1)

run_is : (level : Isolation) (log : LogValue) (offset : ℤ) (budget : ℕ) (forced : Bool) → IsRunFrom level log offset (run_of log offset level budget forced)
run_is level log offset budget forced =
    let limit : ℤ = limit_of level log in
    let candidates : LogValue = batches_below limit (batches_from offset log) in
    let run : LogValue = at_least_one forced candidates (fitting_batches budget candidates) in
    let from = from_here offset log in
    let below = below_begins limit (batches_from offset log) in
    let begins = least_begins forced candidates (fitting_batches budget candidates) (fitting_begins budget candidates) in
    let rest : batches_from offset log ≡ run ++ (begins.0 ++ below.0.0) = below.0.1 ∙ ap (λ (l : LogValue). l ++ below.0.0) begins.1 ∙ append_assoc run begins.0 below.0.0 in
    record {
      before = from.before;
      after = begins.0 ++ below.0.0;
      parts = from.parts ∙ ap (λ (l : LogValue). from.before ++ l) rest;
      passed = from.passed;
      reaches = front_reaches offset run (begins.0 ++ below.0.0) (subst (FirstReaches offset) rest from.reaches);
      whole = subst (λ (n : ℤ). AllBelow n run) (sym (same_end level log)) (front_below limit run begins.0 (subst (AllBelow limit) begins.1 below.1));
    }

pub serves_whole_batches : ServesWholeBatches fetch_outcome
serves_whole_batches w caller r i j p log is =
    let told = somehow w caller r i j p log is in
    record {
      answer = fetched_partition r.isolation p (Ok (served w caller r log p told.budget));
      told = told.is;
      error = zero_is;
      records = (run_of log p.offset r.isolation (budget_for told.budget p) (not told.budget.given), run_is r.isolation log p.offset (budget_for told.budget p) (not told.budget.given), refl);
    }

-- ---- all that fit

below_run : (limit : ℤ) (run after : LogValue) → AllBelow limit run → batches_below limit (run ++ after) ≡ run ++ batches_below limit after
below_run limit [] after all = refl
below_run limit (b ∷ run) after all =
    ap (λ (t : Bool). cond t (b ∷ batches_below limit (run ++ after)) []) (le_true (next_offset b) limit all.0)
    ∙ ap (λ (l : LogValue). b ∷ l) (below_run limit run after all.1)

fitting_run : (budget : ℕ) (run more : LogValue) → total_bytes run ≤ budget → (rest : LogValue) × (fitting_batches budget (run ++ more) ≡ run ++ rest)
fitting_run budget [] more small = (fitting_batches budget more, refl)
fitting_run budget (b ∷ run) more small = by_size (nat_le (length b.bytes) budget) refl (fitting_run (budget - length b.bytes) run more (omega (arith, small))) where
  by_size : (t : Bool) → nat_le (length b.bytes) budget ≡ t → (rest : LogValue) × (fitting_batches (budget - length b.bytes) (run ++ more) ≡ run ++ rest)
      → (rest : LogValue) × (cond t (b ∷ fitting_batches (budget - length b.bytes) (run ++ more)) [] ≡ b ∷ (run ++ rest))
  by_size true e more = (more.0, ap (λ (l : LogValue). b ∷ l) more.1)
  by_size false e more = absurd (omega (arith, small, leb-false (length b.bytes) budget e))

-- the run that is served begins with each run that fits
run_fits : (level : Isolation) (log : LogValue) (offset : ℤ) (run : LogValue) (budget : ℕ) (forced : Bool) → IsRunFrom level log offset run → total_bytes run ≤ budget → (rest : LogValue) × (run_of log offset level budget forced ≡ run ++ rest)
run_fits level log offset [] budget forced is small = (run_of log offset level budget forced, refl)
run_fits level log offset (b ∷ run) budget forced is small =
    let limit : ℤ = limit_of level log in
    let from = ap (batches_from offset) is.parts ∙ passed_from offset is.before b (run ++ is.after) is.passed is.reaches in
    let below = ap (batches_below limit) from ∙ below_run limit (b ∷ run) is.after (subst (λ (n : ℤ). AllBelow n (b ∷ run)) (same_end level log) is.whole) in
    let fits = fitting_run budget (b ∷ run) (batches_below limit is.after) small in (
      fits.0,
      ap (λ (l : LogValue). at_least_one forced l (fitting_batches budget l)) below
          ∙ ap (at_least_one forced ((b ∷ run) ++ batches_below limit is.after)) fits.1,
    )

bytes_joined : (xs ys : LogValue) → batch_bytes (xs ++ ys) ≡ batch_bytes xs ++ batch_bytes ys
bytes_joined [] ys = refl
bytes_joined (x ∷ xs) ys = ap (λ (l : List ℕ). x.bytes ++ l) (bytes_joined xs ys) ∙ sym (append_assoc x.bytes (batch_bytes xs) (batch_bytes ys))

pub serves_all_that_fit : ServesAllThatFit fetch_outcome
serves_all_that_fit w caller r i j p log run have is from own whole =
    let told = told_after w caller r i j is.topic p have is.named is.asked in
    let taken : List ℕ = records_before (all_told w caller r) i j in
    let size : total_bytes run ≡ length (batch_bytes run) = sym (bytes_long run) in
    let small : total_bytes run ≤ min (non_negative p.max_bytes) (non_negative r.max_bytes - length taken) =
    le-min (omega (arith, size, as_count (length (batch_bytes run)) p.max_bytes own)) (omega (arith, size, as_count (length taken + length (batch_bytes run)) r.max_bytes whole))
    in
    let fits = run_fits r.isolation log p.offset run (budget_for (left_after r taken) p) (not (left_after r taken).given) from small in
    record {
      answer = fetched_partition r.isolation p (Ok (served w caller r log p told.budget));
      told = told.is ∙ ap (λ (x : FetchedRecords). Some x) (readable_told w caller r i j p log told.budget is);
      error = zero_is;
      records = subst (λ (b : FetchBudget). BeginsWith (bytes_of run) (batch_bytes (run_of log p.offset r.isolation (budget_for b p) (not b.given)))) (sym told.left)
          (batch_bytes fits.0, ap batch_bytes fits.1 ∙ bytes_joined run fits.0);
    }

-- ---- no more than the limits allow

fitting_small : (budget : ℕ) (log : LogValue) → total_bytes (fitting_batches budget log) ≤ budget
fitting_small budget [] = omega arith
fitting_small budget (b ∷ rest) = by_test (nat_le (length b.bytes) budget) refl (fitting_small (budget - length b.bytes) rest) where
  by_test : (t : Bool) → nat_le (length b.bytes) budget ≡ t → total_bytes (fitting_batches (budget - length b.bytes) rest) ≤ budget - length b.bytes → total_bytes (cond t (b ∷ fitting_batches (budget - length b.bytes) rest) []) ≤ budget
  by_test true e more = omega (arith, more, leb-true (length b.bytes) budget e)
  by_test false e more = omega arith

-- they fit, or are one that was forced
abbrev FitsOrForced : Bool → ℕ → LogValue → Type 0
FitsOrForced forced budget run = (total_bytes run ≤ budget) ⊎ ((forced ≡ true) × ((b : BatchData) × (run ≡ b ∷ [])))

least_fits : (forced : Bool) (budget : ℕ) (candidates run : LogValue) → total_bytes run ≤ budget → FitsOrForced forced budget (at_least_one forced candidates run)
least_fits true budget [] [] small = inl (omega arith)
least_fits true budget (c ∷ candidates) [] small = inr (refl, (c, refl))
least_fits false budget candidates [] small = inl (omega arith)
least_fits forced budget candidates (b ∷ run) small = inl small

none_taken : (taken : List ℕ) → not (has_any taken) ≡ true → length taken ≡ 0
none_taken [] none = refl
none_taken (b ∷ bs) none = absurd (let clash : false ≡ true = none in cc)

as_limit : (n : ℕ) (z : ℤ) → n ≤ non_negative z → 0 < n → pos n ≤ℤ z
as_limit n (pos m) small some = omega (arith, ints, small)
as_limit n (negsuc m) small some = absurd (omega (arith, small, some))

no_bytes : (bytes : List ℕ) → length bytes ≡ 0 → bytes ≡ []
no_bytes [] none = refl
no_bytes (b ∷ bs) none = absurd (omega (arith, none))

one_run : (level : Isolation) (log : LogValue) (offset : ℤ) (b : BatchData) → IsRunFrom level log offset (b ∷ []) → IsNextBatch level log offset b
one_run level log offset b is = record { before = is.before; after = is.after; parts = is.parts; passed = is.passed; reaches = is.reaches; whole = is.whole.0 }

run_within : (r : FetchRequest) (p : FetchPartition) (log : LogValue) (taken : List ℕ) (run : LogValue) → IsRunFrom r.isolation log p.offset run → FitsOrForced (not (has_any taken)) (min (non_negative p.max_bytes) (non_negative r.max_bytes - length taken)) run
    → IsWithinLimits r p log (length taken) (batch_bytes run)
run_within r p log taken run is (inr (forced, (b, one))) = inr (inl (none_taken taken forced, (b, one_run r.isolation log p.offset b (subst (IsRunFrom r.isolation log p.offset) one is), ap batch_bytes one ∙ append-nil b.bytes)))
run_within r p log taken run is (inl small) = by_size (length (batch_bytes run)) refl where
  limits : (n : ℕ) → length (batch_bytes run) ≡ n → 0 < n → (pos n ≤ℤ p.max_bytes) × (pos (length taken + n) ≤ℤ r.max_bytes)
  limits n same some =
      let size = bytes_long run in
      let own : n ≤ non_negative p.max_bytes = omega (arith, small, size, same, min-le_left (non_negative p.max_bytes) (non_negative r.max_bytes - length taken)) in
      let whole : n ≤ non_negative r.max_bytes - length taken = omega (arith, small, size, same, min-le_right (non_negative p.max_bytes) (non_negative r.max_bytes - length taken)) in
      (as_limit n p.max_bytes own some, as_limit (length taken + n) r.max_bytes (omega (arith, whole, some)) (omega (arith, some)))

  by_size : (n : ℕ) → length (batch_bytes run) ≡ n → IsWithinLimits r p log (length taken) (batch_bytes run)
  by_size zero none = inr (inr (no_bytes (batch_bytes run) none))
  by_size (suc n) same = inl (subst (λ (m : ℕ). (pos m ≤ℤ p.max_bytes) × (pos (length taken + m) ≤ℤ r.max_bytes)) (sym same) (limits (suc n) same (omega arith)))

pub serves_within_limits : ServesWithinLimits fetch_outcome
serves_within_limits w caller r i j p log have is =
    let told = told_after w caller r i j is.topic p have is.named is.asked in
    let taken : List ℕ = records_before (all_told w caller r) i j in
    let budget : ℕ = budget_for (left_after r taken) p in
    let forced : Bool = not (has_any taken) in
    let candidates : LogValue = batches_below (limit_of r.isolation log) (batches_from p.offset log) in
    let within = run_within r p log taken (run_of log p.offset r.isolation budget forced) (run_is r.isolation log p.offset budget forced) (least_fits forced budget candidates (fitting_batches budget candidates) (fitting_small budget candidates)) in
    record {
      answer = fetched_partition r.isolation p (Ok (served w caller r log p told.budget));
      told = told.is ∙ ap (λ (x : FetchedRecords). Some x) (readable_told w caller r i j p log told.budget is);
      error = zero_is;
      records = subst (λ (b : FetchBudget). IsWithinLimits r p log (length taken) (batch_bytes (run_of log p.offset r.isolation (budget_for b p) (not b.given)))) (sym told.left) within;
    }

pub has_fetch_laws : HasFetchLaws fetch_outcome
has_fetch_laws = record { next = serves_the_next_batch; whole = serves_whole_batches; fitting = serves_all_that_fit; within = serves_within_limits }

-- ---- errors

-- it is answered by what is served of it, by whatever budget was left
record IsServedBy (w : World) (caller : Caller) (r : FetchRequest) (i j : ℕ) (name : List ℕ) (p : FetchPartition) : Type 0 where
  budget : FetchBudget
  is : at_place (all_told w caller r) i j ≡ Some (fetched_partition r.isolation p (served_by r.isolation budget p (log_at w.topics name p.index)))

allowed : (w : World) (caller : Caller) (r : FetchRequest) (i j : ℕ) (topic : Topic FetchPartition) (p : FetchPartition) → IsAllowed w caller r i j topic p → IsServedBy w caller r i j topic.name p
allowed w caller r i j topic p is =
    let placed = answers_each_part.places (api w caller r) (rules_of w) (whole_budget r) r.topics i topic is.named in
    let budget : FetchBudget = world_before (api w caller r) (rules_of w) (whole_budget r) r.topics i topic j in
    record {
      budget = budget;
      is = ap (partition_in j) placed.1.0 ∙ placed.1.1.places j p is.asked ∙ ap (λ (o : Option Refusal). Some (answer_by (api w caller r) o budget topic.name p)) (granted w caller r topic.name p is.may_read);
    }

error_told : (number : ℕ) (code : ErrorCode) (w : World) (caller : Caller) (r : FetchRequest) (i j : ℕ) (name : List ℕ) (p : FetchPartition) (by : IsServedBy w caller r i j name p) → served_by r.isolation by.budget p (log_at w.topics name p.index) ≡ Err code → number_of code ≡ pos number → IsToldError number (fetch_outcome w caller r) i j
error_told number code w caller r i j name p by is numbered = record {
  answer = fetched_partition r.isolation p (Err code);
  told = by.is ∙ ap (λ (s : Result Served ErrorCode). Some (fetched_partition r.isolation p s)) is;
  error = numbered;
  none = refl;
}

outside_is : (log : LogValue) (offset : ℤ) → (offset <ℤ pos 0) ⊎ (end_of log <ℤ offset) → is_outside log offset ≡ true
outside_is log offset (inl low) = ap (λ (t : Bool). t || int_lt (end_of log) offset) (lt_true offset (pos 0) low)
outside_is log offset (inr high) = by_low (int_lt offset (pos 0)) (lt_true (end_of log) offset high) where
  by_low : (t : Bool) → int_lt (end_of log) offset ≡ true → (t || int_lt (end_of log) offset) ≡ true
  by_low true e = refl
  by_low false e = e

one_is : number_of codes.OffsetOutOfRange ≡ pos 1
unfolding number_of
one_is = refl

three_is : number_of codes.UnknownTopicOrPartition ≡ pos 3
unfolding number_of
three_is = refl

pub tells_out_of_range : TellsOutOfRange fetch_outcome
tells_out_of_range w caller r i j topic p log is there outside =
    let by = allowed w caller r i j topic p is in
    error_told 1 codes.OffsetOutOfRange w caller r i j topic.name p by
    (ap (served_by r.isolation by.budget p) there ∙ ap (λ (t : Bool). cond t (Err codes.OffsetOutOfRange) (Ok (served w caller r log p by.budget))) (outside_is log p.offset outside)) one_is

pub tells_missing : TellsMissing fetch_outcome
tells_missing w caller r i j topic p is none =
    let by = allowed w caller r i j topic p is in
    error_told 3 codes.UnknownTopicOrPartition w caller r i j topic.name p by (ap (served_by r.isolation by.budget p) none) three_is

-- ---- nothing is left open

-- what one place tells is one answer
same_told : (o : HandlerResult) (i j : ℕ) (First Second : List ℕ → Type 0) (a : IsFetched o i j First) (b : IsFetched o i j Second) → b.answer.records ≡ a.answer.records
same_told o i j First Second a b = ap (λ (x : FetchedRecords). x.records) (same_element b.answer a.answer (sym b.told ∙ a.told))

begins_also : (front whole records : List ℕ) → whole ≡ front → BeginsWith front records → BeginsWith whole records
begins_also front whole records same (rest, is) = (rest, is ∙ ap (λ (l : List ℕ). l ++ rest) (sym same))

-- what the one serves begins with what the other does
module _ (fetch other : FetchRule) (has : HasFetchLaws fetch) (more : HasFetchLaws other) (w : World) (caller : Caller) (r : FetchRequest) (i j : ℕ) (p : FetchPartition) (log : LogValue) (have : LogsHaveBytes w.topics) (is : IsReadable w caller r i j p log) where
  abbrev taken : FetchRule → ℕ
  taken rule = length (records_before (topics_fetched (rule w caller r).reply) i j)

  abbrev IsRun : List ℕ → Type 0
  IsRun records = (run : LogValue) × IsRunFrom r.isolation log p.offset run × (records ≡ bytes_of run)

  served_also : (Front : List ℕ → Type 0) (own : IsFetched (fetch w caller r) i j IsRun) → IsFetched (fetch w caller r) i j Front → Front own.answer.records
  served_also Front own served = subst Front (same_told (fetch w caller r) i j IsRun Front own served) served.records

  begins_by : (own : IsFetched (fetch w caller r) i j IsRun) (records : List ℕ) (run : LogValue) → taken fetch ≡ taken other → IsRunFrom r.isolation log p.offset run → records ≡ bytes_of run → IsWithinLimits r p log (taken other) records → BeginsWith records own.answer.records
  begins_by own records run same from told (inl fits) =
      let size : length records ≡ length (bytes_of run) = ap length told in
      let here = subst (λ (n : ℕ). pos n ≤ℤ p.max_bytes) size fits.0 in
      let whole = subst (λ (n : ℕ). pos (n + length (bytes_of run)) ≤ℤ r.max_bytes) (sym same) (subst (λ (n : ℕ). pos (taken other + n) ≤ℤ r.max_bytes) size fits.1) in
      begins_also (bytes_of run) records own.answer.records told (served_also (BeginsWith (bytes_of run)) own (has.fitting w caller r i j p log run have is from here whole))
  begins_by own records run same from told (inr (inl (none, (b, next, one)))) =
      begins_also b.bytes records own.answer.records one (served_also (BeginsWith b.bytes) own (has.next w caller r i j p log b have is next (inl (same ∙ none))))
  begins_by own records run same from told (inr (inr none)) = begins_also [] records own.answer.records none (own.answer.records, refl)

  begins_with : taken fetch ≡ taken other → BeginsWith (more.whole w caller r i j p log is).answer.records (has.whole w caller r i j p log is).answer.records
  begins_with same =
      let whole = more.whole w caller r i j p log is in
      let within = more.within w caller r i j p log have is in
      begins_by (has.whole w caller r i j p log is) whole.answer.records whole.records.0 same whole.records.1 whole.records.2
      (subst (IsWithinLimits r p log (taken other)) (same_told (other w caller r) i j IsRun (IsWithinLimits r p log (taken other)) whole within) within.records)

-- two lists that begin with each other are the same
same_lists : (x y : List ℕ) → BeginsWith x y → BeginsWith y x → y ≡ x
same_lists x y (rest, is) (more, also) =
    let none : length rest ≡ 0 = omega (arith, ap length is, ap length also, length-append x rest, length-append y more) in
    is ∙ ap (λ (l : List ℕ). x ++ l) (no_bytes rest none) ∙ append-nil x

pub is_only_fetch : IsOnlyFetch fetch_outcome
is_only_fetch other more w caller r i j p log have is same =
    let first = has_fetch_laws.whole w caller r i j p log is in
    let second = more.whole w caller r i j p log is in
    let one : first.answer.records ≡ second.answer.records =
    same_lists second.answer.records first.answer.records
    (begins_with fetch_outcome other has_fetch_laws more w caller r i j p log have is same)
    (begins_with other fetch_outcome more has_fetch_laws w caller r i j p log have is (sym same))
    in
    record {
      records = second.answer.records;
      first = record { answer = first.answer; told = first.told; error = first.error; records = one };
      second = record { answer = second.answer; told = second.told; error = second.error; records = refl };
    }
