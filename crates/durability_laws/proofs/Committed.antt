-- What is committed can be read for good.
use Rattle.std.proofs.Common.{◌≡◌, ℕ, ℤ, pos, ◌<◌, Bool, true, false, ◌&&◌, not, cond, List, [], ◌∷◌, ◌++◌, length, length-append, append-nil, append_assoc, Option, Some, None, refl, sym, ap, subst, ◌∙◌, arith}
use Rattle.std.specs.Prelude.{◌≤ℤ◌, ◌<ℤ◌, is_some, drop, slice_range}
use Rattle.std.specs.List.{AllByRecursion}
use Rattle.std.specs.Ordering.{int_eq}
use Rattle.std.proofs.lemmas.Int.{ints, clamps}
use Rattle.acl_binding.specs.declared.question.Caller.{Caller}
use Rattle.wire_types.specs.Schema.{int32, int64}
use Rattle.settings.specs.declared.settings.Settings.{Settings}
use Rattle.record_batch.specs.Batch.{BatchData, next_offset, bytes_with_offset}
use Rattle.record_batch.proofs.Moved.{eight_bytes}
use Rattle.partition_log.specs.Log.{end_from, end_of, at_end, is_open, open_bases, least_of, lesser_of, or_else, last_stable_offset}
use Rattle.partition_log.proofs.Numbers.{AllFrom, AllBelow, least_from, least_below, lesser_first}
use Rattle.partition_log.proofs.Order.{IsPlaced, IsOrdered, placed_batch, end_above}
use Rattle.partition_log.proofs.OngoingTxns.{open_push}
use Rattle.msg_data.specs.declared.isolation.Isolation.{Isolation}
use Rattle.msg_data.specs.declared.isolation.Isolation.TheVariants.{ReadUncommitted, ReadCommitted}
use Rattle.msg_data.specs.declared.fetch.FetchRequest.{FetchRequest}
use Rattle.msg_data.specs.declared.fetch.FetchPartition.{FetchPartition}
use Rattle.audit_trail.specs.declared.event.Event.{Event}
use Rattle.audit_trail.specs.declared.event.Event.TheVariants.{Ask}
use Rattle.broker_world.specs.World.{World, LogValue}
use Rattle.broker_world.specs.First.{non_negative, first_world}
use Rattle.broker_world.specs.Logs.{log_at}
use Rattle.broker_world.specs.Markers.{marker_batch}
use Rattle.api_dispatch.specs.Step.{outcome, step, world_after_events}
use Rattle.msg_admin.specs.declared.request.Request.TheVariants.{Produce, Fetch}
use Rattle.read_laws.specs.Fetches.{topics_fetched, records_before, IsFetched, BeginsWith, HasRoom, MayRead, IsReadable, IsNextBatch, level_end, HaveBytes, LogsHaveBytes}
use Rattle.read_laws.proofs.Fetches.{serves_the_next_batch}
use Rattle.api_laws.proofs.EachLog.{Stays, each_log}
use Rattle.broker_laws.proofs.LogsGrow.{reached_grows}
use Rattle.durability_laws.specs.Steps.{world_later}
use Rattle.durability_laws.specs.Acknowledged.{IsStored}
use Rattle.durability_laws.specs.Committed.{IsStable, AsksFor, KeepsWhatIsStable, ServesWhatIsStable}
use Rattle.durability_laws.specs.ReadBack.{AsksFrom, IsVisible, IsReadBack, ReadsWhatIsAcknowledged}
use Rattle.durability_laws.proofs.Acknowledged.{later_is, keeps_what_is_acknowledged}

-- ---- offsets rise in the logs that events reach, and batches have bytes

ordered_push : (low : ℤ) (log : LogValue) (b : BatchData) → IsOrdered low log → IsPlaced (end_from low log) b → IsOrdered low (log ++ b ∷ [])
ordered_push low [] b h is = (is, tt)
ordered_push low (x ∷ rest) b h is = (h.0, ordered_push (next_offset x) rest b h.1 is)

ordered_front : (low : ℤ) (xs ys : LogValue) → IsOrdered low (xs ++ ys) → IsOrdered low xs
ordered_front low [] ys h = tt
ordered_front low (x ∷ xs) ys h = (h.0, ordered_front (next_offset x) xs ys h.1)

ordered_at : (low : ℤ) (before after : LogValue) (b : BatchData) → IsOrdered low (before ++ b ∷ after) → end_from low before ≤ℤ b.header.base_offset
ordered_at low [] after b h = h.0.0
ordered_at low (x ∷ before) after b h = ordered_at (next_offset x) before after b h.1

le_refl : (z : ℤ) → z ≤ℤ z
le_refl z = omega (arith, ints)

rising : (most : ℕ) → Stays most (IsOrdered (pos 0))
rising most = record {
  empty = tt;
  next = λ log b is good next.
      let placed = placed_batch b.header.base_offset b good.batch refl in
      ordered_push (pos 0) log (at_end log b) is (le_refl (end_of log), placed.1, placed.2, placed.3);
  marked = λ log m moment is. ordered_push (pos 0) log (at_end log (marker_batch m moment)) is (le_refl (end_of log), le_refl (pos 0), le_refl (pos 1), λ some. refl);
}

some_bytes : (offset : ℤ) (bytes : List ℕ) → 0 < length (bytes_with_offset offset bytes)
some_bytes offset bytes = omega (arith, eight_bytes offset, length-append (int64.written offset) (slice_range bytes 8 12 ++ (int32.written (pos 0) ++ drop 16 bytes)))

have_push : (log : LogValue) (b : BatchData) → HaveBytes log → 0 < length b.bytes → HaveBytes (log ++ b ∷ [])
have_push [] b have some = (some, tt)
have_push (x ∷ rest) b have some = (have.0, have_push rest b have.1 some)

having : (most : ℕ) → Stays most HaveBytes
having most = record {
  empty = tt;
  next = λ log b is good next. have_push log (at_end log b) is (some_bytes (end_of log) b.bytes);
  marked = λ log m moment is. have_push log (at_end log (marker_batch m moment)) is (some_bytes (end_of log) (marker_batch m moment).bytes);
}

-- ---- the last stable offset never falls

least_all : (low : ℤ) (ns : List ℤ) → ((m : ℤ) → least_of ns ≡ Some m → low ≤ℤ m) → AllFrom low ns
least_all low [] h = tt
least_all low (n ∷ ns) h = (first, least_all low ns later) where
  whole : low ≤ℤ lesser_of n (least_of ns)
  whole = h (lesser_of n (least_of ns)) refl

  first : low ≤ℤ n
  first = let more = whole in let le = lesser_first n (least_of ns) in omega (arith, ints)

  later : (m : ℤ) → least_of ns ≡ Some m → low ≤ℤ m
  later m is = let more : low ≤ℤ lesser_of n (Some m) = subst (λ (o : Option ℤ). low ≤ℤ lesser_of n o) is whole in omega (arith, ints, clamps)

or_else_some : (o : Option ℤ) (other m : ℤ) → o ≡ Some m → or_else o other ≤ℤ m
or_else_some o other m is = subst (λ (p : Option ℤ). or_else p other ≤ℤ m) (sym is) (le_refl m)

stable_open : (log : LogValue) → AllFrom (last_stable_offset log) (open_bases log)
stable_open log = least_all (last_stable_offset log) (open_bases log) (λ m is. or_else_some (least_of (open_bases log)) (end_of log) m is)

open_below_end : (low : ℤ) (log : LogValue) → IsOrdered low log → AllBelow (end_from low log) (open_bases log)
open_below_end low [] h = tt
open_below_end low (b ∷ rest) h = by_test (is_open b rest) (open_below_end (next_offset b) rest h.1) where
  here : b.header.base_offset <ℤ end_from (next_offset b) rest
  here = let more = end_above (next_offset b) rest h.1 in let long = h.0.1 in omega (arith, ints)

  by_test : (t : Bool) → AllBelow (end_from (next_offset b) rest) (open_bases rest) → AllBelow (end_from (next_offset b) rest) (cond t (b.header.base_offset ∷ open_bases rest) (open_bases rest))
  by_test true more = (here, more)
  by_test false more = more

stable_below_end : (log : LogValue) → IsOrdered (pos 0) log → last_stable_offset log ≤ℤ end_of log
stable_below_end log h = by_least (least_of (open_bases log)) refl where
  by_least : (o : Option ℤ) → least_of (open_bases log) ≡ o → or_else o (end_of log) ≤ℤ end_of log
  by_least None is = le_refl (end_of log)
  by_least (Some m) is = let below = least_below (end_of log) (open_bases log) m (open_below_end (pos 0) log h) is in omega (arith, ints)

open_from_push : (low : ℤ) (log : LogValue) (b : BatchData) → AllFrom low (open_bases log) → low ≤ℤ b.header.base_offset → AllFrom low (open_bases (log ++ b ∷ []))
open_from_push low [] b h le = by_test (is_open b []) where
  by_test : (t : Bool) → AllFrom low (cond t (b.header.base_offset ∷ []) [])
  by_test true = (le, tt)
  by_test false = tt
open_from_push low (a ∷ rest) b h le =
    subst (λ (t : Bool). AllFrom low (cond t (a.header.base_offset ∷ open_bases (rest ++ b ∷ [])) (open_bases (rest ++ b ∷ [])))) (sym (open_push a rest b))
    (by_tests (is_open a rest) (not (is_some b.marker && int_eq b.header.producer_id a.header.producer_id)) h (λ k. open_from_push low rest b k le)) where
      by_tests : (t stays : Bool) → AllFrom low (cond t (a.header.base_offset ∷ open_bases rest) (open_bases rest)) → (AllFrom low (open_bases rest) → AllFrom low (open_bases (rest ++ b ∷ [])))
          → AllFrom low (cond (t && stays) (a.header.base_offset ∷ open_bases (rest ++ b ∷ [])) (open_bases (rest ++ b ∷ [])))
      by_tests true true h more = (h.0, more h.1)
      by_tests true false h more = more h.1
      by_tests false stays h more = more h

stable_push : (log : LogValue) (b : BatchData) → IsOrdered (pos 0) (log ++ b ∷ []) → last_stable_offset log ≤ℤ last_stable_offset (log ++ b ∷ [])
stable_push log b h = by_least (least_of (open_bases (log ++ b ∷ []))) refl where
  low : last_stable_offset log ≤ℤ end_of log
  low = stable_below_end log (ordered_front (pos 0) log (b ∷ []) h)

  at : end_of log ≤ℤ b.header.base_offset
  at = ordered_at (pos 0) log [] b h

  rises : end_of log ≤ℤ end_of (log ++ b ∷ [])
  rises = end_rises (pos 0) log (b ∷ []) h where
    end_rises : (first : ℤ) (xs ys : LogValue) → IsOrdered first (xs ++ ys) → end_from first xs ≤ℤ end_from first (xs ++ ys)
    end_rises first [] ys h = end_above first ys h
    end_rises first (x ∷ xs) ys h = end_rises (next_offset x) xs ys h.1

  by_least : (o : Option ℤ) → least_of (open_bases (log ++ b ∷ [])) ≡ o → last_stable_offset log ≤ℤ or_else o (end_of (log ++ b ∷ []))
  by_least None none = let first = low in let second = rises in omega (arith, ints)
  by_least (Some m) found = least_from (last_stable_offset log) (open_bases (log ++ b ∷ [])) m (open_from_push (last_stable_offset log) log b (stable_open log) (let first = low in let second = at in omega (arith, ints))) found

stable_longer : (log more : LogValue) → IsOrdered (pos 0) (log ++ more) → last_stable_offset log ≤ℤ last_stable_offset (log ++ more)
stable_longer log [] h = subst (λ (l : LogValue). last_stable_offset log ≤ℤ last_stable_offset l) (sym (append-nil log)) (le_refl (last_stable_offset log))
stable_longer log (b ∷ more) h =
    let whole : (log ++ b ∷ []) ++ more ≡ log ++ b ∷ more = append_assoc log (b ∷ []) more in
    let longer : IsOrdered (pos 0) ((log ++ b ∷ []) ++ more) = subst (IsOrdered (pos 0)) (sym whole) h in
    let first = stable_push log b (ordered_front (pos 0) (log ++ b ∷ []) more longer) in
    let second = subst (λ (l : LogValue). last_stable_offset (log ++ b ∷ []) ≤ℤ last_stable_offset l) whole (stable_longer (log ++ b ∷ []) more longer) in
    omega (arith, ints)

-- ---- over events

pub reached_append : (w : World) (xs ys : List Event) → world_after_events w (xs ++ ys) ≡ world_after_events (world_after_events w xs) ys
reached_append w [] ys = refl
reached_append w (x ∷ xs) ys = reached_append (step w x) xs ys

-- such a world is reached
later_reached : (s : Settings) (events later : List Event) → world_later outcome (world_later outcome (first_world s) events) later ≡ world_after_events (first_world s) (events ++ later)
later_reached s events later = later_is (world_later outcome (first_world s) events) later ∙ ap (λ (w : World). world_after_events w later) (later_is (first_world s) events) ∙ sym (reached_append (first_world s) events later)

stable_later : (s : Settings) (events later : List Event) (name : List ℕ) (index : ℤ) (b : BatchData) → IsStable (world_after_events (first_world s) events) name index b → IsStable (world_after_events (first_world s) (events ++ later)) name index b
stable_later s events later name index b is =
    let w = world_after_events (first_world s) events in
    let log : LogValue = is.before ++ b ∷ is.after in
    let longer = reached_grows w later (record { topic = name; index = index }) log is.log in
    let there : log_at (world_after_events (first_world s) (events ++ later)).topics name index ≡ Some (log ++ longer.more) = ap (λ (v : World). log_at v.topics name index) (reached_append (first_world s) events later) ∙ longer.log in
    let whole : log ++ longer.more ≡ is.before ++ b ∷ (is.after ++ longer.more) = append_assoc is.before (b ∷ is.after) longer.more in
    let ordered = each_log s (IsOrdered (pos 0)) (rising (non_negative s.max_batch)) (events ++ later) name index (log ++ longer.more) there in
    let below = is.below in
    let rises = subst (λ (l : LogValue). last_stable_offset log ≤ℤ last_stable_offset l) whole (stable_longer log longer.more ordered) in
    record { before = is.before; after = is.after ++ longer.more; log = there ∙ ap (λ (l : LogValue). Some l) whole; below = omega (arith, ints) }

pub keeps_what_is_stable : KeepsWhatIsStable outcome
keeps_what_is_stable s events later name index b is =
    subst (λ (v : World). IsStable v name index b) (sym (later_reached s events later))
    (stable_later s events later name index b (subst (λ (v : World). IsStable v name index b) (later_is (first_world s) events) is))

-- ---- what is stable is served

all_before : (low at : ℤ) (before after : LogValue) (b : BatchData) → IsOrdered low (before ++ b ∷ after) → b.header.base_offset ≤ℤ at → AllByRecursion (λ (x : BatchData). next_offset x ≤ℤ at) before
all_before low at [] after b h le = tt
all_before low at (x ∷ before) after b h le = (first, all_before (next_offset x) at before after b h.1 le) where
  first : next_offset x ≤ℤ at
  first = let rises = end_above (next_offset x) before (ordered_front (next_offset x) before (b ∷ after) h.1) in let there = ordered_at (next_offset x) before after b h.1 in omega (arith, ints)

below_level : (level : Isolation) (n : ℤ) (log : LogValue) → IsOrdered (pos 0) log → n ≤ℤ last_stable_offset log → n ≤ℤ level_end level log
below_level ReadUncommitted n log h le = let end = stable_below_end log h in omega (arith, ints)
below_level ReadCommitted n log h le = le

end_after : (low : ℤ) (before after : LogValue) (b : BatchData) → IsOrdered low (before ++ b ∷ after) → next_offset b ≤ℤ end_from low (before ++ b ∷ after)
end_after low [] after b h = end_above (next_offset b) after h.1
end_after low (x ∷ before) after b h = end_after (next_offset x) before after b h.1

-- it has at least one offset
pub one_offset : (low : ℤ) (before after : LogValue) (b : BatchData) → IsOrdered low (before ++ b ∷ after) → b.header.base_offset <ℤ next_offset b
one_offset low [] after b h = let long = h.0.1 in omega (arith, ints)
one_offset low (x ∷ before) after b h = one_offset (next_offset x) before after b h.1

pub rises_in : (s : Settings) (es : List Event) (name : List ℕ) (index : ℤ) (log : LogValue) → log_at (world_after_events (first_world s) es).topics name index ≡ Some log → IsOrdered (pos 0) log
rises_in s es name index log there = each_log s (IsOrdered (pos 0)) (rising (non_negative s.max_batch)) es name index log there

module _ (s : Settings) (es : List Event) (caller : Caller) (client : Option (List ℕ)) (r : FetchRequest) (i j : ℕ) (name : List ℕ) (index : ℤ) (b : BatchData) (p : FetchPartition) where
  abbrev w : World
  w = world_after_events (first_world s) es

  module _ (before after : LogValue) (there : log_at w.topics name index ≡ Some (before ++ b ∷ after)) (asks : AsksFor w caller r i j name index b p) where
    abbrev log : LogValue
    log = before ++ b ∷ after

    rises : IsOrdered (pos 0) log
    rises = rises_in s es name index log there

    have : LogsHaveBytes w.topics
    have n k l found = each_log s HaveBytes (having (non_negative s.max_batch)) es n k l found

    from_zero : pos 0 ≤ℤ p.offset
    from_zero =
        let start = end_above (pos 0) before (ordered_front (pos 0) before (b ∷ after) rises) in
        let at = ordered_at (pos 0) before after b rises in
        let from = asks.from in
        omega (arith, ints)

    to_end : p.offset ≤ℤ end_of log
    to_end = let to = asks.to in let end = end_after (pos 0) before after b rises in omega (arith, ints)

    readable : IsReadable w caller r i j p log
    readable = record {
      topic = asks.topic;
      named = asks.named;
      asked = asks.asked;
      may_read = subst (MayRead w caller) (sym asks.same_name) asks.may_read;
      there = ap (λ (n : List ℕ). log_at w.topics n p.index) asks.same_name ∙ ap (log_at w.topics name) asks.same_index ∙ there;
      from_start = from_zero;
      to_end = to_end;
    }

    next : next_offset b ≤ℤ level_end r.isolation log → IsNextBatch r.isolation log p.offset b
    next whole = record {
      before = before;
      after = after;
      parts = refl;
      passed = all_before (pos 0) p.offset before after b rises asks.from;
      reaches = asks.to;
      whole = whole;
    }

    pub served : next_offset b ≤ℤ level_end r.isolation log → HasRoom r p (length (records_before (topics_fetched (outcome w (Ask caller client (Fetch r))).reply) i j)) (length b.bytes) → IsFetched (outcome w (Ask caller client (Fetch r))) i j (BeginsWith b.bytes)
    served whole room = serves_the_next_batch w caller r i j p log b have readable (next whole) room

-- so each Fetch that asks for it is answered in a world
abbrev Serves : List ℕ → ℤ → BatchData → Caller → Option (List ℕ) → FetchRequest → ℕ → ℕ → FetchPartition → World → Type 0
Serves name index b caller client r i j p v =
    AsksFor v caller r i j name index b p → HasRoom r p (length (records_before (topics_fetched (outcome v (Ask caller client (Fetch r))).reply) i j)) (length b.bytes) → IsFetched (outcome v (Ask caller client (Fetch r))) i j (BeginsWith b.bytes)

pub serves_stable : (s : Settings) (es : List Event) (name : List ℕ) (index : ℤ) (b : BatchData) → IsStable (world_after_events (first_world s) es) name index b
    → (caller : Caller) (client : Option (List ℕ)) (r : FetchRequest) (i j : ℕ) (p : FetchPartition) → Serves name index b caller client r i j p (world_after_events (first_world s) es)
serves_stable s es name index b is caller client r i j p asks room =
    let log : LogValue = is.before ++ b ∷ is.after in
    served s es caller client r i j name index b p is.before is.after is.log asks (below_level r.isolation (next_offset b) log (rises_in s es name index log is.log) is.below) room

pub serves_what_is_stable : ServesWhatIsStable outcome
serves_what_is_stable s events later name index b is v leads caller client r i j p =
    let now = stable_later s events later name index b (subst (λ (x : World). IsStable x name index b) (later_is (first_world s) events) is) in
    subst (Serves name index b caller client r i j p) (sym (leads ∙ later_reached s events later)) (serves_stable s (events ++ later) name index b now caller client r i j p)

-- ---- what was acknowledged is read back

module _ (s : Settings) (es : List Event) (name : List ℕ) (index offset : ℤ) (records : Option (List ℕ)) (stored : IsStored (world_after_events (first_world s) es) name index offset records) where
  abbrev v : World
  v = world_after_events (first_world s) es

  abbrev batch : BatchData
  batch = stored.batch

  from_it : (caller : Caller) (r : FetchRequest) (i j : ℕ) (p : FetchPartition) → AsksFrom v caller r i j name index offset p → AsksFor v caller r i j name index batch p
  from_it caller r i j p asks =
      let base : batch.header.base_offset ≡ p.offset = stored.stands.at ∙ sym asks.from in
      let long = one_offset (pos 0) stored.stands.before stored.stands.after batch (rises_in s es name index (stored.stands.before ++ batch ∷ stored.stands.after) stored.stands.log) in
      record {
        topic = asks.topic;
        named = asks.named;
        asked = asks.asked;
        same_name = asks.same_name;
        same_index = asks.same_index;
        may_read = asks.may_read;
        from = subst (λ (n : ℤ). batch.header.base_offset ≤ℤ n) base (le_refl batch.header.base_offset);
        to = subst (λ (n : ℤ). n <ℤ next_offset batch) base long;
      }

  by_level : (caller : Caller) (client : Option (List ℕ)) (r : FetchRequest) (i j : ℕ) (p : FetchPartition) (level : Isolation) → r.isolation ≡ level → IsVisible level v name index batch → Serves name index batch caller client r i j p v
  by_level caller client r i j p ReadCommitted is visible = serves_stable s es name index batch visible caller client r i j p
  by_level caller client r i j p ReadUncommitted is visible = λ asks room.
      let log : LogValue = stored.stands.before ++ batch ∷ stored.stands.after in
      let end = end_after (pos 0) stored.stands.before stored.stands.after batch (rises_in s es name index log stored.stands.log) in
      served s es caller client r i j name index batch p stored.stands.before stored.stands.after stored.stands.log asks (subst (λ (level : Isolation). next_offset batch ≤ℤ level_end level log) (sym is) end) room

  pub read_back : IsReadBack outcome v name index offset records
  read_back = record {
    stored = stored;
    read = λ caller client r i j p asks visible. by_level caller client r i j p r.isolation refl visible (from_it caller r i j p asks);
  }

pub reads_what_is_acknowledged : ReadsWhatIsAcknowledged outcome
reads_what_is_acknowledged s events writer client r i j t p answer later h k told code v leads =
    let w = world_later outcome (first_world s) events in
    let e = Ask writer client (Produce r) in
    let es : List Event = events ++ (e ∷ later) in
    let reached : v ≡ world_after_events (first_world s) es = leads ∙ later_reached s events (e ∷ later) in
    let stored = subst (λ (x : World). IsStored x t.name p.index answer.base_offset p.records) (sym leads ∙ reached) (keeps_what_is_acknowledged w writer client r i j t p answer later h k told code) in
    subst (λ (x : World). IsReadBack outcome x t.name p.index answer.base_offset p.records) (sym reached) (read_back s es t.name p.index answer.base_offset p.records stored)
