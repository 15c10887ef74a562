-- What is told where all of a group's offsets are wanted.
use Rattle.std.proofs.Common.{◌≡◌, ◌≢◌, ◌⊎◌, inl, inr, ℕ, zero, suc, ◌+◌, ◌<◌, ◌≤◌, ℤ, pos, List, [], ◌∷◌, ◌++◌, length, map, Option, Some, None, Result, Ok, Err, Bool, true, false, cond, refl, sym, ap, subst, ◌∙◌, arith}
use Rattle.std.specs.Prelude.{◌&&◌, ◌||◌, is_none, is_some, nat_lt}
use Rattle.std.specs.List.{cons_option, filter_map}
use Rattle.std.proofs.lemmas.Bool.{true≢false, ltb-true, ltb-false}
use Rattle.acl_binding.specs.declared.question.Caller.{Caller}
use Rattle.authorizer.specs.declared.answer.Refusal.{Refusal}
use Rattle.authorizer.specs.Asking.{Rules, part_refusal}
use Rattle.wire_types.specs.declared.error_code.ErrorCode.{ErrorCode}
use Rattle.wire_types.specs.declared.error_code.ErrorCode.TheVariants as errors
use Rattle.wire_types.specs.declared.topic.Topic.{Topic}
use Rattle.wire_types.specs.ErrorCode.{number_of}
use Rattle.msg_group.specs.declared.offset_fetch.OffsetFetchRequest.{OffsetFetchRequest}
use Rattle.msg_group.specs.declared.offset_fetch.OffsetFetchReply.{OffsetFetchReply}
use Rattle.msg_group.specs.declared.offset_fetch.FetchedOffset.{FetchedOffset}
use Rattle.msg_admin.specs.declared.reply.Reply.TheVariants as replies
use Rattle.group_offsets.specs.declared.event.PartitionOffset.{PartitionOffset}
use Rattle.group_offsets.specs.declared.event.OffsetEvent.{OffsetEvent}
use Rattle.group_offsets.specs.Offsets.{offset_of, is_staged, fetch_result, is_listed}
use Rattle.broker_world.specs.World.{World, TopicValue, rules_of, topic_names}
use Rattle.broker_world.specs.Questions.{topic_refusal}
use Rattle.group_handlers.specs.OffsetFetch.{group_question, fetched_offset, listed_offset_at, listed_offsets_from, listed_topic_of, listed_topic, listed_topics, offsets_of, fetched_outcome, offset_fetch_by}
use Rattle.broker_laws.specs.Commits.{IsAmong}
use Rattle.api_dispatch.specs.Step.{reply_to}
use Rattle.broker_laws.specs.Fetches.{IsTold, IsSubsequence, AreRising, HasTold, IsToldIn, FetchesAll, FetchesUnnamed}
use Rattle.broker_laws.proofs.Turning.{none_zero}
use Rattle.broker_laws.proofs.Fetched.{place_as, told_as_it, fetch_same, fetch_refused}

-- ---- lists

among_left : {X : Type 0} (x : X) (xs ys : List X) → IsAmong x xs → IsAmong x (xs ++ ys)
among_left x (y ∷ xs) ys (inl h) = inl h
among_left x (y ∷ xs) ys (inr h) = inr (among_left x xs ys h)
among_left x [] ys h = absurd h

among_right : {X : Type 0} (x : X) (xs ys : List X) → IsAmong x ys → IsAmong x (xs ++ ys)
among_right x [] ys h = h
among_right x (y ∷ xs) ys h = inr (among_right x xs ys h)

among_either : {X : Type 0} (x : X) (xs ys : List X) → IsAmong x (xs ++ ys) → IsAmong x xs ⊎ IsAmong x ys
among_either x [] ys h = inr h
among_either x (y ∷ xs) ys (inl h) = inl (inl h)
among_either x (y ∷ xs) ys (inr h) = after (among_either x xs ys h) where
  after : IsAmong x xs ⊎ IsAmong x ys → IsAmong x (y ∷ xs) ⊎ IsAmong x ys
  after (inl k) = inl (inr k)
  after (inr k) = inr k

among_option : {X : Type 0} (x : X) (o : Option X) (xs : List X) → IsAmong x (cons_option o xs) → (o ≡ Some x) ⊎ IsAmong x xs
among_option x None xs h = inr h
among_option x (Some y) xs (inl h) = inl (ap (λ z. Some z) h)
among_option x (Some y) xs (inr h) = inr h

option_among : {X : Type 0} (x : X) (o : Option X) (xs : List X) → o ≡ Some x → IsAmong x (cons_option o xs)
option_among x o xs e = subst (λ p. IsAmong x (cons_option p xs)) (sym e) (inl refl)

option_after : {X : Type 0} (x : X) (o : Option X) (xs : List X) → IsAmong x xs → IsAmong x (cons_option o xs)
option_after x None xs h = h
option_after x (Some y) xs h = inr h

-- ---- a partition

not_err : (told : Result (Option PartitionOffset) ErrorCode) (code : ErrorCode) → told ≡ Err code → told ≡ Ok None → ⊥
not_err told code h k = cc

not_none : (told : Result (Option PartitionOffset) ErrorCode) (o : PartitionOffset) → told ≡ Ok (Some o) → told ≡ Ok None → ⊥
not_none told o h k = cc

-- something is told exactly where what is fetched isn't nothing
told_some : (a : Option PartitionOffset) (b : Bool) → (is_some a || b) ≡ true → cond b (Err errors.UnstableOffsetCommit) (Ok a) ≢ Ok None
told_some a true h e = not_err (Err errors.UnstableOffsetCommit) errors.UnstableOffsetCommit refl e
told_some None false h e = true≢false (sym h)
told_some (Some o) false h e = not_none (Ok (Some o)) o refl e

some_told : (a : Option PartitionOffset) (b : Bool) → cond b (Err errors.UnstableOffsetCommit) (Ok a) ≢ Ok None → (is_some a || b) ≡ true
some_told (Some o) b h = refl
some_told None true h = refl
some_told None false h = absurd (h refl)

-- what is told of it
abbrev it : List OffsetEvent → Bool → List ℕ → ℕ → FetchedOffset
it es stable name i = fetched_offset (fetch_result es stable name (pos i)) (pos i)

-- one of so many partitions from this one on, of which something is told
record IsFrom (es : List OffsetEvent) (stable : Bool) (name : List ℕ) (index count : ℕ) (p : FetchedOffset) : Type 0 where
  i : ℕ
  least : index ≤ i
  most : i < index + count
  is : it es stable name i ≡ p
  some : fetch_result es stable name (pos i) ≢ Ok None

module _ (es : List OffsetEvent) (stable : Bool) (name : List ℕ) where
  -- the partition is told of
  at_told : (i : ℕ) → fetch_result es stable name (pos i) ≢ Ok None → IsAmong (it es stable name i) (listed_offset_at es stable name (pos i))
  at_told i some =
      subst (λ (b : Bool). IsAmong (it es stable name i) (cond b (it es stable name i ∷ []) [])) (sym (some_told (offset_of es name (pos i)) (stable && is_staged es name (pos i)) some)) (inl refl)

  from_all : (index count i : ℕ) → index ≤ i → i < index + count → fetch_result es stable name (pos i) ≢ Ok None → IsAmong (it es stable name i) (listed_offsets_from es stable name index count)
  from_all index zero i least most some = absurd (omega (arith, least, most))
  from_all index (suc count) i least most some = by_test (nat_lt index i) refl (from_all (index + 1) count i) where
    by_test : (b : Bool) → nat_lt index i ≡ b → (index + 1 ≤ i → i < index + 1 + count → fetch_result es stable name (pos i) ≢ Ok None → IsAmong (it es stable name i) (listed_offsets_from es stable name (index + 1) count)) → IsAmong (it es stable name i) (listed_offsets_from es stable name index (suc count))
    by_test true e rest =
        let above : index < i = ltb-true index i e in
        among_right (it es stable name i) (listed_offset_at es stable name (pos index)) (listed_offsets_from es stable name (index + 1) count) (rest (omega (arith, above)) (omega (arith, most)) some)
    by_test false e rest =
        let low : i ≤ index = ltb-false index i e in
        let same : i ≡ index = omega (arith, low, least) in
        among_left (it es stable name i) (listed_offset_at es stable name (pos index)) (listed_offsets_from es stable name (index + 1) count) (subst (λ (k : ℕ). IsAmong (it es stable name i) (listed_offset_at es stable name (pos k))) same (at_told i some))

  told_if : (i : ℕ) (b : Bool) (p : FetchedOffset) → b ≡ is_listed es stable name (pos i) → IsAmong p (cond b (it es stable name i ∷ []) []) → (it es stable name i ≡ p) × (fetch_result es stable name (pos i) ≢ Ok None)
  told_if i true p e (inl same) = (same, told_some (offset_of es name (pos i)) (stable && is_staged es name (pos i)) (sym e))
  told_if i true p e (inr none) = absurd none
  told_if i false p e h = absurd h

  from_alone : (index count : ℕ) (p : FetchedOffset) → IsAmong p (listed_offsets_from es stable name index count) → IsFrom es stable name index count p
  from_alone index zero p h = absurd h
  from_alone index (suc count) p h = by_place (among_either p (listed_offset_at es stable name (pos index)) (listed_offsets_from es stable name (index + 1) count) h) (from_alone (index + 1) count p) where
    by_place : IsAmong p (listed_offset_at es stable name (pos index)) ⊎ IsAmong p (listed_offsets_from es stable name (index + 1) count) → (IsAmong p (listed_offsets_from es stable name (index + 1) count) → IsFrom es stable name (index + 1) count p) → IsFrom es stable name index (suc count) p
    by_place (inl here) rest =
        let found = told_if index (is_listed es stable name (pos index)) p refl here in
        record { i = index; least = omega arith; most = omega arith; is = found.0; some = found.1 }
    by_place (inr there) rest =
        let found = rest there in
        record { i = found.i; least = omega (arith, found.least); most = omega (arith, found.most); is = found.is; some = found.some }

  -- their indices rise
  rising_later : (n m : ℕ) (ps : List FetchedOffset) → n ≤ m → AreRising m ps → AreRising n ps
  rising_later n m [] less h = tt
  rising_later n m (p ∷ ps) less h = (h.0, omega (arith, less, h.1), h.2, h.3)

  from_rising : (index count : ℕ) → AreRising index (listed_offsets_from es stable name index count)
  from_rising index zero = tt
  from_rising index (suc count) = by_told (is_listed es stable name (pos index)) (from_rising (index + 1) count) where
    by_told : (b : Bool) → AreRising (index + 1) (listed_offsets_from es stable name (index + 1) count) → AreRising index (cond b (it es stable name index ∷ []) [] ++ listed_offsets_from es stable name (index + 1) count)
    by_told true rest = (index, omega arith, place_as (fetch_result es stable name (pos index)) (pos index), rest)
    by_told false rest = rising_later index (index + 1) (listed_offsets_from es stable name (index + 1) count) (omega arith) rest

-- ---- a topic

-- the topic's answer
record IsAnswer (es : List OffsetEvent) (stable : Bool) (t : TopicValue) (a : Topic FetchedOffset) : Type 0 where
  named : a.name ≡ t.name
  parts : a.partitions ≡ listed_offsets_from es stable t.name 0 (length t.partitions)

answer_of : (es : List OffsetEvent) (stable : Bool) (t : TopicValue) (l : List FetchedOffset) (a : Topic FetchedOffset) → listed_offsets_from es stable t.name 0 (length t.partitions) ≡ l → listed_topic_of t.name l ≡ Some a → IsAnswer es stable t a
answer_of es stable t [] a e h = absurd (let clash : None ≡ Some a = h in cc)
answer_of es stable t (p ∷ ps) a e h =
    let same : record { name = t.name; partitions = p ∷ ps } ≡ a = cc in
    record { named = ap (λ (x : Topic FetchedOffset). x.name) (sym same); parts = ap (λ (x : Topic FetchedOffset). x.partitions) (sym same) ∙ sym e }

-- where some partition is told of, there is one
some_answer : (t : TopicValue) (l : List FetchedOffset) (p : FetchedOffset) → IsAmong p l → (a : Topic FetchedOffset) × (listed_topic_of t.name l ≡ Some a)
some_answer t [] p h = absurd h
some_answer t (x ∷ xs) p h = (record { name = t.name; partitions = x ∷ xs }, refl)

module _ (rules : Rules) (caller : Caller) (es : List OffsetEvent) (stable : Bool) where
  abbrev answered_as : TopicValue → Option Refusal → Option (Topic FetchedOffset)
  answered_as t o = cond (is_none o) (listed_topic_of t.name (listed_offsets_from es stable t.name 0 (length t.partitions))) None

  may_be_told : (t : TopicValue) (a : Topic FetchedOffset) (o : Option Refusal) → topic_refusal rules caller t.name ≡ o → answered_as t o ≡ Some a → (topic_refusal rules caller t.name ≡ None) × IsAnswer es stable t a
  may_be_told t a (Some x) e h = absurd (let clash : None ≡ Some a = h in cc)
  may_be_told t a None e h = (e, answer_of es stable t (listed_offsets_from es stable t.name 0 (length t.partitions)) a refl h)

  -- an answer is a topic's
  record_alone : (topics : List TopicValue) (a : Topic FetchedOffset) → IsAmong a (filter_map (listed_topic rules caller es stable) topics) → (t : TopicValue) × IsAmong t topics × (listed_topic rules caller es stable t ≡ Some a)
  record_alone [] a h = absurd h
  record_alone (t ∷ ts) a h = by_place (among_option a (listed_topic rules caller es stable t) (filter_map (listed_topic rules caller es stable) ts) h) (record_alone ts a) where
    by_place : (listed_topic rules caller es stable t ≡ Some a) ⊎ IsAmong a (filter_map (listed_topic rules caller es stable) ts)
        → (IsAmong a (filter_map (listed_topic rules caller es stable) ts) → (u : TopicValue) × IsAmong u ts × (listed_topic rules caller es stable u ≡ Some a))
        → (u : TopicValue) × IsAmong u (t ∷ ts) × (listed_topic rules caller es stable u ≡ Some a)
    by_place (inl here) rest = (t, inl refl, here)
    by_place (inr there) rest = let found = rest there in (found.0, inr found.1, found.2)

  record_all : (topics : List TopicValue) (t : TopicValue) (a : Topic FetchedOffset) → IsAmong t topics → listed_topic rules caller es stable t ≡ Some a → IsAmong a (filter_map (listed_topic rules caller es stable) topics)
  record_all [] t a h e = absurd h
  record_all (u ∷ us) t a (inl same) e = option_among a (listed_topic rules caller es stable u) (filter_map (listed_topic rules caller es stable) us) (ap (listed_topic rules caller es stable) same ∙ e)
  record_all (u ∷ us) t a (inr h) e = option_after a (listed_topic rules caller es stable u) (filter_map (listed_topic rules caller es stable) us) (record_all us t a h e)

  abbrev name_in : Topic FetchedOffset → List ℕ
  name_in a = a.name

  subsequence_of_more : (xs : List (List ℕ)) (y : List ℕ) (ys : List (List ℕ)) → IsSubsequence xs ys → IsSubsequence xs (y ∷ ys)
  subsequence_of_more [] y ys h = tt
  subsequence_of_more (x ∷ xs) y ys h = inr h

  named_as : (t : TopicValue) (o : Option (Topic FetchedOffset)) → listed_topic rules caller es stable t ≡ o → (xs : List (Topic FetchedOffset)) (ys : List (List ℕ)) → IsSubsequence (map name_in xs) ys → IsSubsequence (map name_in (cons_option o xs)) (t.name ∷ ys)
  named_as t None e xs ys h = subsequence_of_more (map name_in xs) t.name ys h
  named_as t (Some a) e xs ys h = inl ((may_be_told t a (topic_refusal rules caller t.name) refl e).1.named, h)

  in_order : (topics : List TopicValue) → IsSubsequence (map name_in (filter_map (listed_topic rules caller es stable) topics)) (topic_names topics)
  in_order [] = tt
  in_order (t ∷ ts) = named_as t (listed_topic rules caller es stable t) refl (filter_map (listed_topic rules caller es stable) ts) (topic_names ts) (in_order ts)

-- ---- the request

module _ (w : World) (caller : Caller) (r : OffsetFetchRequest) where
  abbrev told_list : List (Topic FetchedOffset)
  told_list = listed_topics (rules_of w) caller (offsets_of w r.group) r.require_stable w.topics

  all_told : (t : TopicValue) (i : ℕ) → HasTold w caller r t i → (a : Topic FetchedOffset) × (p : FetchedOffset) × IsToldIn w r t i told_list a p
  all_told t i h =
      let es = offsets_of w r.group in
      let stable = r.require_stable in
      let among = from_all es stable t.name 0 (length t.partitions) i (omega arith) (omega (arith, h.partition)) h.some in
      let answer = some_answer t (listed_offsets_from es stable t.name 0 (length t.partitions)) (it es stable t.name i) among in
      let is : listed_topic (rules_of w) caller es stable t ≡ Some answer.0 = ap (answered_as (rules_of w) caller es stable t) h.may ∙ answer.1 in
      let parts = answer_of es stable t (listed_offsets_from es stable t.name 0 (length t.partitions)) answer.0 refl answer.1 in (
        answer.0,
        it es stable t.name i,
        record {
          topic = record_all (rules_of w) caller es stable w.topics t answer.0 h.topic is;
          partition = subst (IsAmong (it es stable t.name i)) (sym parts.parts) among;
          named = parts.named;
          place = place_as (fetch_result es stable t.name (pos i)) (pos i);
          told = told_as_it (fetch_result es stable t.name (pos i)) (pos i);
        },
      )

  alone_told : (a : Topic FetchedOffset) (p : FetchedOffset) → IsAmong a told_list → IsAmong p a.partitions → (t : TopicValue) × (i : ℕ) × HasTold w caller r t i × IsToldIn w r t i told_list a p
  alone_told a p topic partition =
      let es = offsets_of w r.group in
      let stable = r.require_stable in
      let found = record_alone (rules_of w) caller es stable w.topics a topic in
      let t = found.0 in
      let may = may_be_told (rules_of w) caller es stable t a (topic_refusal (rules_of w) caller t.name) refl found.2 in
      let from = from_alone es stable t.name 0 (length t.partitions) p (subst (IsAmong p) may.1.parts partition) in (
        t,
        from.i,
        record { topic = found.1; may = may.0; partition = omega (arith, from.most); some = from.some },
        record {
          topic = topic;
          partition = partition;
          named = may.1.named;
          place = ap (λ (x : FetchedOffset). x.index) (sym from.is) ∙ place_as (fetch_result es stable t.name (pos from.i)) (pos from.i);
          told = subst (IsTold (fetch_result es stable t.name (pos from.i))) from.is (told_as_it (fetch_result es stable t.name (pos from.i)) (pos from.i));
        },
      )

  told_all : FetchesAll w caller r (record { throttle = pos 0; topics = listed_topics (rules_of w) caller (offsets_of w r.group) r.require_stable w.topics; error = errors.None })
  told_all = record {
    all = all_told;
    alone = alone_told;
    in_order = in_order (rules_of w) caller (offsets_of w r.group) r.require_stable w.topics;
    rising = λ a h.
        let es = offsets_of w r.group in
        let found = record_alone (rules_of w) caller es r.require_stable w.topics a h in
        let answer = may_be_told (rules_of w) caller es r.require_stable found.0 a (topic_refusal (rules_of w) caller found.0.name) refl found.2 in
        subst (AreRising 0) (sym answer.1.parts) (from_rising es r.require_stable found.0.name 0 (length found.0.partitions));
  }

all_granted : (w : World) (caller : Caller) (r : OffsetFetchRequest) (reply : OffsetFetchReply) → (offset_fetch_by (part_refusal (rules_of w) (group_question caller r.group ∷ [])) w caller r).reply ≡ replies.OffsetFetch reply → r.topics ≡ None
    → part_refusal (rules_of w) (group_question caller r.group ∷ []) ≡ None → (number_of reply.error ≡ pos 0) × FetchesAll w caller r reply
all_granted w caller r reply told null granted =
    let es = offsets_of w r.group in
    let served = ap (λ (o : Option Refusal). (offset_fetch_by o w caller r).reply) (sym granted) ∙ told in
    let named = ap (λ (o : Option (List (Topic ℤ))). (fetched_outcome w caller es r.require_stable o).reply) (sym null) ∙ served in
    let same = fetch_same (record { throttle = pos 0; topics = listed_topics (rules_of w) caller es r.require_stable w.topics; error = errors.None }) reply named in
    (ap (λ (y : OffsetFetchReply). number_of y.error) (sym same) ∙ none_zero, subst (FetchesAll w caller r) same (told_all w caller r))

pub fetches_unnamed : (w : World) → FetchesUnnamed reply_to w
fetches_unnamed w caller client r reply told null = record { granted = all_granted w caller r reply told null; refused = fetch_refused w caller r reply told }
