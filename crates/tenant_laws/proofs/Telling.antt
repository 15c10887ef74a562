-- An OffsetFetch whose list of topics is null tells of each partition that has an offset.
use Rattle.std.proofs.Common.{◌≡◌, ℕ, ℤ, pos, zero, suc, ◌+◌, Bool, true, false, cond, List, [], ◌∷◌, ◌++◌, map, length, Option, Some, None, Result, Ok, Err, refl, sym, ap, ◌∙◌}
use Rattle.std.specs.Prelude.{is_none, filter, ◌||◌}
use Rattle.std.specs.List.{cons_option, flat_map, list_any, range_with_len}
use Rattle.std.proofs.lemmas.List.Elements.{filter-append}
use Rattle.acl_binding.specs.declared.question.Caller.{Caller}
use Rattle.authorizer.specs.declared.answer.Refusal.{Refusal}
use Rattle.authorizer.specs.Asking.{Rules}
use Rattle.wire_types.specs.declared.error_code.ErrorCode.{ErrorCode}
use Rattle.wire_types.specs.declared.topic.Topic.{Topic}
use Rattle.msg_group.specs.declared.offset_fetch.FetchedOffset.{FetchedOffset}
use Rattle.walk.specs.Alike.{AllParts, AllTopics}
use Rattle.walk.specs.Woven.{has_any}
use Rattle.group_offsets.specs.declared.event.PartitionOffset.{PartitionOffset}
use Rattle.group_offsets.specs.declared.event.OffsetEvent.{OffsetEvent}
use Rattle.group_offsets.specs.Offsets.{fetch_result, is_listed}
use Rattle.broker_world.specs.World.{TopicValue, rules_of}
use Rattle.broker_world.specs.Questions.{topic_refusal}
use Rattle.group_handlers.specs.OffsetFetch.{fetched_offset}
use Rattle.group_handlers.specs.OffsetFetch.{listed_offsets_from, listed_topic_of, listed_topics, offsets_of, fetched_outcome, offset_fetch_by}
use Rattle.api_laws.specs.GroupLaws.{described_slots}
use Rattle.api_dispatch.specs.Step.{reply_to}
use Rattle.tenant_laws.specs.NullLists.{Place, places_of, has_offset, places_in, NullTellsOfAll}

index_is : (r : Result (Option PartitionOffset) ErrorCode) (index : ℤ) → (fetched_offset r index).index ≡ index
index_is (Err code) index = refl
index_is (Ok None) index = refl
index_is (Ok (Some o)) index = refl

module _ (es : List OffsetEvent) (stable : Bool) where
  abbrev Right : List ℕ → FetchedOffset → Type 0
  Right name p = p ≡ fetched_offset (fetch_result es stable name p.index) p.index

  -- ---- a topic

  module _ (name : List ℕ) where
    abbrev place : ℤ → Place
    place index = record { topic = name; index = index }

    abbrev told : ℕ → ℕ → List FetchedOffset
    told i n = listed_offsets_from es stable name i n

    abbrev all_from : ℕ → ℕ → List Place
    all_from i n = map (λ (k : ℕ). place (pos k)) (range_with_len i n)

    abbrev answer : ℕ → FetchedOffset
    answer i = fetched_offset (fetch_result es stable name (pos i)) (pos i)

    places_told : (n i : ℕ) → map (λ (p : FetchedOffset). place p.index) (told i n) ≡ filter (has_offset es stable) (all_from i n)
    places_told zero i = refl
    places_told (suc n) i = by_told (is_listed es stable name (pos i)) (places_told n (i + 1)) where
      by_told : (b : Bool) → map (λ (p : FetchedOffset). place p.index) (told (i + 1) n) ≡ filter (has_offset es stable) (all_from (i + 1) n)
          → map (λ (p : FetchedOffset). place p.index) (cond b (answer i ∷ []) [] ++ told (i + 1) n) ≡ cond b (place (pos i) ∷ filter (has_offset es stable) (all_from (i + 1) n)) (filter (has_offset es stable) (all_from (i + 1) n))
      by_told true rest =
          ap (λ (k : ℤ). place k ∷ map (λ (p : FetchedOffset). place p.index) (told (i + 1) n)) (index_is (fetch_result es stable name (pos i)) (pos i))
          ∙ ap (λ (l : List Place). place (pos i) ∷ l) rest
      by_told false rest = rest

    any_told : (n i : ℕ) → has_any (told i n) ≡ list_any (has_offset es stable) (all_from i n)
    any_told zero i = refl
    any_told (suc n) i = by_told (is_listed es stable name (pos i)) (any_told n (i + 1)) where
      by_told : (b : Bool) → has_any (told (i + 1) n) ≡ list_any (has_offset es stable) (all_from (i + 1) n) → has_any (cond b (answer i ∷ []) [] ++ told (i + 1) n) ≡ (b || list_any (has_offset es stable) (all_from (i + 1) n))
      by_told true rest = refl
      by_told false rest = rest

    all_right : (n i : ℕ) → AllParts Right name (told i n)
    all_right zero i = tt
    all_right (suc n) i = by_told (is_listed es stable name (pos i)) (all_right n (i + 1)) where
      by_told : (b : Bool) → AllParts Right name (told (i + 1) n) → AllParts Right name (cond b (answer i ∷ []) [] ++ told (i + 1) n)
      by_told true rest = (sym (ap (λ (k : ℤ). fetched_offset (fetch_result es stable name k) k) (index_is (fetch_result es stable name (pos i)) (pos i))), rest)
      by_told false rest = rest

    places_after : (ps : List FetchedOffset) (rest : List (Topic FetchedOffset)) → flat_map places_in (cons_option (listed_topic_of name ps) rest) ≡ map (λ (p : FetchedOffset). place p.index) ps ++ flat_map places_in rest
    places_after [] rest = refl
    places_after (p ∷ ps) rest = refl

    names_after : (ps : List FetchedOffset) (rest : List (Topic FetchedOffset)) → map (λ (t : Topic FetchedOffset). t.name) (cons_option (listed_topic_of name ps) rest) ≡ cond (has_any ps) (name ∷ map (λ (t : Topic FetchedOffset). t.name) rest) (map (λ (t : Topic FetchedOffset). t.name) rest)
    names_after [] rest = refl
    names_after (p ∷ ps) rest = refl

    right_after : (ps : List FetchedOffset) (rest : List (Topic FetchedOffset)) → AllParts Right name ps → AllTopics Right rest → AllTopics Right (cons_option (listed_topic_of name ps) rest)
    right_after [] rest here all = all
    right_after (p ∷ ps) rest here all = (here, all)

  -- ---- the topics

  module _ (rules : Rules) (caller : Caller) where
    abbrev slots : List TopicValue → List TopicValue
    slots topics = described_slots rules caller topics

    abbrev said : List TopicValue → List (Topic FetchedOffset)
    said topics = listed_topics rules caller es stable topics

    abbrev with_any : TopicValue → Bool
    with_any t = list_any (has_offset es stable) (places_of t)

    abbrev own : TopicValue → List FetchedOffset
    own t = listed_offsets_from es stable t.name 0 (length t.partitions)

    all_places : (topics : List TopicValue) → flat_map places_in (said topics) ≡ filter (has_offset es stable) (flat_map places_of (slots topics))
    all_places [] = refl
    all_places (t ∷ ts) = by_grant (is_none (topic_refusal rules caller t.name)) (all_places ts) where
      by_grant : (b : Bool) → flat_map places_in (said ts) ≡ filter (has_offset es stable) (flat_map places_of (slots ts))
          → flat_map places_in (cons_option (cond b (listed_topic_of t.name (own t)) None) (said ts)) ≡ filter (has_offset es stable) (flat_map places_of (cond b (t ∷ slots ts) (slots ts)))
      by_grant true rest =
          places_after t.name (own t) (said ts)
          ∙ ap (λ (l : List Place). l ++ flat_map places_in (said ts)) (places_told t.name (length t.partitions) 0)
          ∙ ap (λ (l : List Place). filter (has_offset es stable) (places_of t) ++ l) rest
          ∙ sym (filter-append (has_offset es stable) (places_of t) (flat_map places_of (slots ts)))
      by_grant false rest = rest

    all_names : (topics : List TopicValue) → map (λ (t : Topic FetchedOffset). t.name) (said topics) ≡ map (λ (t : TopicValue). t.name) (filter with_any (slots topics))
    all_names [] = refl
    all_names (t ∷ ts) = by_grant (is_none (topic_refusal rules caller t.name)) (all_names ts) where
      by_any : (b : Bool) → map (λ (x : Topic FetchedOffset). x.name) (said ts) ≡ map (λ (x : TopicValue). x.name) (filter with_any (slots ts))
          → cond b (t.name ∷ map (λ (x : Topic FetchedOffset). x.name) (said ts)) (map (λ (x : Topic FetchedOffset). x.name) (said ts)) ≡ map (λ (x : TopicValue). x.name) (cond b (t ∷ filter with_any (slots ts)) (filter with_any (slots ts)))
      by_any true rest = ap (λ (l : List (List ℕ)). t.name ∷ l) rest
      by_any false rest = rest

      by_grant : (b : Bool) → map (λ (x : Topic FetchedOffset). x.name) (said ts) ≡ map (λ (x : TopicValue). x.name) (filter with_any (slots ts))
          → map (λ (x : Topic FetchedOffset). x.name) (cons_option (cond b (listed_topic_of t.name (own t)) None) (said ts)) ≡ map (λ (x : TopicValue). x.name) (filter with_any (cond b (t ∷ slots ts) (slots ts)))
      by_grant true rest =
          names_after t.name (own t) (said ts)
          ∙ ap (λ (b : Bool). cond b (t.name ∷ map (λ (x : Topic FetchedOffset). x.name) (said ts)) (map (λ (x : Topic FetchedOffset). x.name) (said ts))) (any_told t.name (length t.partitions) 0)
          ∙ by_any (with_any t) rest
      by_grant false rest = rest

    all_answers : (topics : List TopicValue) → AllTopics Right (said topics)
    all_answers [] = tt
    all_answers (t ∷ ts) = by_grant (is_none (topic_refusal rules caller t.name)) (all_answers ts) where
      by_grant : (b : Bool) → AllTopics Right (said ts) → AllTopics Right (cons_option (cond b (listed_topic_of t.name (own t)) None) (said ts))
      by_grant true rest = right_after t.name (own t) (said ts) (all_right t.name (length t.partitions) 0) rest
      by_grant false rest = rest

pub null_tells_of_all : NullTellsOfAll reply_to
null_tells_of_all w caller client r null granted = record {
  topics = listed_topics (rules_of w) caller (offsets_of w r.group) r.require_stable w.topics;
  reply = ap (λ (o : Option Refusal). (offset_fetch_by o w caller r).reply) granted
      ∙ ap (λ (topics : Option (List (Topic ℤ))). (fetched_outcome w caller (offsets_of w r.group) r.require_stable topics).reply) null;
  places = all_places (offsets_of w r.group) r.require_stable (rules_of w) caller w.topics;
  names = all_names (offsets_of w r.group) r.require_stable (rules_of w) caller w.topics;
  answers = all_answers (offsets_of w r.group) r.require_stable (rules_of w) caller w.topics;
}
