-- What a consumer with read_committed is shown.
use Rattle.std.proofs.Common.{◌≡◌, ℕ, ℤ, pos, ◌-◌, ◌<◌, ◌≤◌, le_trans, Bool, true, false, not, cond, List, [], ◌∷◌, length, take, Option, Some, None, Result, Ok, Err, refl, sym, ap, subst, ◌∙◌, arith}
use Rattle.std.specs.Prelude.{nat_le, int_le, ◌≤ℤ◌}
use Rattle.std.specs.List.{AllByRecursion}
use Rattle.std.proofs.lemmas.Bool.Decides.{nat_tests}
use Rattle.record_batch.specs.Batch.{BatchData, next_offset}
use Rattle.acl_binding.specs.declared.question.Caller.{Caller}
use Rattle.acl_binding.specs.declared.words.Kind.{Kind}
use Rattle.acl_binding.specs.declared.words.Kind.TheVariants as kinds
use Rattle.authorizer.specs.declared.answer.Refusal.{Refusal}
use Rattle.wire_types.specs.declared.error_code.ErrorCode.{ErrorCode}
use Rattle.wire_types.specs.declared.error_code.ErrorCode.TheVariants as codes
use Rattle.wire_types.specs.declared.topic.Topic.{Topic}
use Rattle.partition_log.specs.declared.served.Served.{Served}
use Rattle.partition_log.specs.Log.{IsLog, last_stable_offset}
use Rattle.partition_log.specs.Fetch.{batches_from, batches_below, fitting_batches, at_least_one, served_of, run_of, list_of}
use Rattle.partition_log.proofs.Longest.{fitting_longest}
use Rattle.partition_log.proofs.Numbers.{le_is}
use Rattle.partition_log.proofs.Fetched.{filtered_committed}
use Rattle.msg_data.specs.declared.isolation.Isolation.{Isolation}
use Rattle.msg_data.specs.declared.isolation.Isolation.TheVariants.{ReadCommitted}
use Rattle.msg_data.specs.declared.fetch.FetchRequest.{FetchRequest}
use Rattle.msg_data.specs.declared.fetch.FetchPartition.{FetchPartition}
use Rattle.msg_data.specs.declared.fetch.FetchReply.{FetchReply}
use Rattle.msg_data.specs.declared.fetch.FetchedRecords.{FetchedRecords}
use Rattle.msg_admin.specs.declared.request.Request.TheVariants.{Fetch}
use Rattle.msg_admin.specs.declared.reply.Reply.TheVariants as replies
use Rattle.audit_trail.specs.declared.event.Event.TheVariants.{Ask}
use Rattle.api_dispatch.specs.Step.{reply_to}
use Rattle.walk.specs.Codes.{permission_code}
use Rattle.walk.specs.Rule.{refusal_of}
use Rattle.walk.specs.Walk.{answers}
use Rattle.walk.specs.Steps.{answer_by}
use Rattle.walk.specs.Headline.{element_at, world_before}
use Rattle.walk.proofs.Headlines.{answers_each_part}
use Rattle.data_handlers.specs.declared.fetch_budget.FetchBudget.{FetchBudget}
use Rattle.broker_world.specs.World.{World, TopicValue, LogValue, rules_of}
use Rattle.broker_world.specs.Logs.{log_at, HoldLogs}
use Rattle.data_handlers.specs.Fetch.{budget_for, is_outside, served_by, fetched_partition, fetch_rule, whole_budget}
use Rattle.plain_broker.specs.ReadCommitted.{ShowsCommitted, ReadsCommitted, budget_at, FetchesShowCommitted}
use Rattle.broker_world.proofs.Held.{log_is}

-- ---- the served run

module _ (limit : ℤ) where
  abbrev Ends : List BatchData → Type 0
  Ends bs = AllByRecursion (λ (b : BatchData). next_offset b ≤ℤ limit) bs

  below_ends : (bs : List BatchData) → Ends (batches_below limit bs)
  below_ends [] = tt
  below_ends (b ∷ rest) = by_test (int_le (next_offset b) limit) refl (below_ends rest) where
    by_test : (t : Bool) → int_le (next_offset b) limit ≡ t → Ends (batches_below limit rest) → Ends (cond t (b ∷ batches_below limit rest) [])
    by_test true is all = (le_is (next_offset b) limit is, all)
    by_test false is all = tt

  fitting_ends : (budget : ℕ) (bs : List BatchData) → Ends bs → Ends (fitting_batches budget bs)
  fitting_ends budget [] all = tt
  fitting_ends budget (b ∷ rest) all = by_test (nat_le (length b.bytes) budget) (fitting_ends (budget - length b.bytes) rest all.1) where
    by_test : (t : Bool) → Ends (fitting_batches (budget - length b.bytes) rest) → Ends (cond t (b ∷ fitting_batches (budget - length b.bytes) rest) [])
    by_test true more = (all.0, more)
    by_test false more = tt

  forced_ends : (forced : Bool) (candidates : List BatchData) → Ends candidates → Ends (cond forced (take 1 candidates) [])
  forced_ends false candidates all = tt
  forced_ends true [] all = tt
  forced_ends true (b ∷ rest) all = (all.0, tt)

  served_ends : (forced : Bool) (candidates run : List BatchData) → Ends candidates → Ends run → Ends (at_least_one forced candidates run)
  served_ends forced candidates [] all fit = forced_ends forced candidates all
  served_ends forced candidates (b ∷ run) all fit = fit

exceeds_budget : (size budget : ℕ) → nat_le size budget ≡ false → budget < size
exceeds_budget size budget h = grind (arith, nat_tests)

-- nothing fits, and none is forced
none_fits : (given : Bool) (budget : ℕ) (b : BatchData) (rest : List BatchData) → at_least_one (not given) (b ∷ rest) (fitting_batches budget (b ∷ rest)) ≡ [] → (given ≡ true) × (budget < length b.bytes)
none_fits given budget b rest h = by_test (nat_le (length b.bytes) budget) refl h where
  by_given : (given : Bool) → cond (not given) (b ∷ []) [] ≡ [] → given ≡ true
  by_given true h = refl
  by_given false h = absurd (let clash : b ∷ [] ≡ [] = h in cc)

  by_test : (t : Bool) → nat_le (length b.bytes) budget ≡ t → at_least_one (not given) (b ∷ rest) (cond t (b ∷ fitting_batches (budget - length b.bytes) rest) []) ≡ [] → (given ≡ true) × (budget < length b.bytes)
  by_test true is h = absurd (let clash : b ∷ fitting_batches (budget - length b.bytes) rest ≡ [] = h in cc)
  by_test false is h = (by_given given h, exceeds_budget (length b.bytes) budget is)

-- what is served is no shorter than what fits
no_shorter : (forced : Bool) (candidates run : List BatchData) → length run ≤ length (at_least_one forced candidates run)
no_shorter forced candidates [] = omega arith
no_shorter forced candidates (b ∷ run) = omega arith

-- ---- a partition

module _ (topics : List TopicValue) (name : List ℕ) (p : FetchPartition) (budget : FetchBudget) where
  abbrev told : Result Served ErrorCode → FetchedRecords
  told s = fetched_partition ReadCommitted p s

  shown : (log : LogValue) → log_at topics name p.index ≡ Some log → IsLog log → ShowsCommitted topics name p budget (told (Ok (served_of log p.offset ReadCommitted (budget_for budget p) (not budget.given))))
  shown log there is = record {
    log = log;
    there = there;
    batches = run_of log p.offset ReadCommitted (budget_for budget p) (not budget.given);
    list = list_of ReadCommitted log p.offset (run_of log p.offset ReadCommitted (budget_for budget p) (not budget.given));
    run = refl;
    ends = served_ends (last_stable_offset log) (not budget.given) (batches_below (last_stable_offset log) (batches_from p.offset log)) (fitting_batches (budget_for budget p) (batches_below (last_stable_offset log) (batches_from p.offset log))) (below_ends (last_stable_offset log) (batches_from p.offset log))
        (fitting_ends (last_stable_offset log) (budget_for budget p) (batches_below (last_stable_offset log) (batches_from p.offset log)) (below_ends (last_stable_offset log) (batches_from p.offset log)));
    none = λ empty b rest are. none_fits budget.given (budget_for budget p) b rest (ap (λ (l : List BatchData). at_least_one (not budget.given) l (fitting_batches (budget_for budget p) l)) (sym are) ∙ empty);
    most = λ longer rest parts fits.
        let candidates = batches_below (last_stable_offset log) (batches_from p.offset log) in
        le_trans ((fitting_longest (budget_for budget p) candidates).1 longer rest parts fits) (no_shorter (not budget.given) candidates (fitting_batches (budget_for budget p) candidates));
    records = refl;
    aborted = refl;
    high = refl;
    last_stable = refl;
    shown = filtered_committed log p.offset (budget_for budget p) (not budget.given) is;
  }

  by_place : (log : LogValue) → log_at topics name p.index ≡ Some log → IsLog log → (outside : Bool)
      → (told (cond outside (Err codes.OffsetOutOfRange) (Ok (served_of log p.offset ReadCommitted (budget_for budget p) (not budget.given))))).error ≡ codes.None
      → ShowsCommitted topics name p budget (told (cond outside (Err codes.OffsetOutOfRange) (Ok (served_of log p.offset ReadCommitted (budget_for budget p) (not budget.given)))))
  by_place log there is true none = absurd (let clash : codes.OffsetOutOfRange ≡ codes.None = none in cc)
  by_place log there is false none = shown log there is

  by_log : (o : Option LogValue) → log_at topics name p.index ≡ o → HoldLogs topics → (told (served_by ReadCommitted budget p o)).error ≡ codes.None → ShowsCommitted topics name p budget (told (served_by ReadCommitted budget p o))
  by_log None there hold none = absurd (let clash : codes.UnknownTopicOrPartition ≡ codes.None = none in cc)
  by_log (Some log) there hold none = by_place log there (log_is topics name p.index log hold there) (is_outside log p.offset) none

pub reads_committed : ReadsCommitted
reads_committed topics budget name p hold none = by_log topics name p budget (log_at topics name p.index) refl hold none

-- ---- a request

named_code : (kind : Kind) → permission_code kind ≡ codes.None → ⊥
named_code kinds.Topic h = let clash : codes.TopicAuthorizationFailed ≡ codes.None = h in cc
named_code kinds.Group h = let clash : codes.GroupAuthorizationFailed ≡ codes.None = h in cc
named_code kinds.Cluster h = let clash : codes.ClusterAuthorizationFailed ≡ codes.None = h in cc
named_code kinds.TransactionalId h = let clash : codes.TransactionalIdAuthorizationFailed ≡ codes.None = h in cc

same_some : {A : Type 0} (x y : A) → Some x ≡ Some y → x ≡ y
same_some x y h = cc

same_topics : (xs ys : List (Topic FetchedRecords)) → replies.Fetch (record { throttle = pos 0; topics = xs }) ≡ replies.Fetch (record { throttle = pos 0; topics = ys }) → xs ≡ ys
same_topics xs ys h = let same : record { throttle = pos 0; topics = xs } ≡ record { throttle = pos 0; topics = ys } = cc in ap (λ (r : FetchReply). r.topics) same

module _ (w : World) (caller : Caller) (hold : HoldLogs w.topics) where
  by_refusal : (o : Option Refusal) (budget : FetchBudget) (name : List ℕ) (p : FetchPartition) → (answer_by (fetch_rule caller ReadCommitted w.topics) o budget name p).error ≡ codes.None → ShowsCommitted w.topics name p budget (answer_by (fetch_rule caller ReadCommitted w.topics) o budget name p)
  by_refusal (Some r) budget name p none = absurd (named_code r.question.kind none)
  by_refusal None budget name p none = reads_committed w.topics budget name p hold none

  part_shows : (o : Option Refusal) (budget : FetchBudget) (name : List ℕ) (p : FetchPartition) (a : FetchedRecords) → a ≡ answer_by (fetch_rule caller ReadCommitted w.topics) o budget name p → a.error ≡ codes.None → ShowsCommitted w.topics name p budget a
  part_shows o budget name p a is none =
      subst (ShowsCommitted w.topics name p budget) (sym is) (by_refusal o budget name p (ap (λ (x : FetchedRecords). x.error) (sym is) ∙ none))

  request_shows : (r : FetchRequest) (level : Isolation) → level ≡ ReadCommitted → (answered : List (Topic FetchedRecords)) → answers (fetch_rule caller level w.topics) (rules_of w) (whole_budget r) r.topics ≡ answered
      → (i j : ℕ) (t : Topic FetchPartition) (p : FetchPartition) (told : Topic FetchedRecords) (a : FetchedRecords) → element_at r.topics i ≡ Some t → element_at t.partitions j ≡ Some p → element_at answered i ≡ Some told → element_at told.partitions j ≡ Some a
      → a.error ≡ codes.None → ShowsCommitted w.topics t.name p (budget_at w caller r i t j) a
  request_shows r level only answered is i j t p told a here there answer part none =
      let whole : answers (fetch_rule caller ReadCommitted w.topics) (rules_of w) (whole_budget r) r.topics ≡ answered = ap (λ (l : Isolation). answers (fetch_rule caller l w.topics) (rules_of w) (whole_budget r) r.topics) (sym only) ∙ is in
      let place = answers_each_part.places (fetch_rule caller ReadCommitted w.topics) (rules_of w) (whole_budget r) r.topics i t here in
      let same : told ≡ place.0 = same_some told place.0 (sym answer ∙ ap (λ (l : List (Topic FetchedRecords)). element_at l i) (sym whole) ∙ place.1.0) in
      let budget : FetchBudget = world_before (fetch_rule caller ReadCommitted w.topics) (rules_of w) (whole_budget r) r.topics i t j in
      let refusal = refusal_of (fetch_rule caller ReadCommitted w.topics) (rules_of w) t.name p in
      let at_part : element_at told.partitions j ≡ Some (answer_by (fetch_rule caller ReadCommitted w.topics) refusal budget t.name p) = ap (λ (x : Topic FetchedRecords). element_at x.partitions j) same ∙ place.1.1.places j p there in
      part_shows refusal budget t.name p a (same_some a _ (sym part ∙ at_part)) none

pub fetches_committed : FetchesShowCommitted
fetches_committed w e hold caller client r answered asked only reply i j t p told a here there answer part none =
    let whole : reply_to w (Ask caller client (Fetch r)) ≡ replies.Fetch (record { throttle = pos 0; topics = answered }) = ap (reply_to w) (sym asked) ∙ reply in
    request_shows w caller hold r r.isolation only answered (same_topics _ answered whole) i j t p told a here there answer part none
