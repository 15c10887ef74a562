-- Where the list of topics is null, an answer depends on the names and sizes of the topics that may be described alone.
use Rattle.std.proofs.Common.{◌≡◌, ℕ, ℤ, Bool, true, false, cond, List, [], ◌∷◌, map, length, Option, Some, None, refl, sym, ap, ◌∙◌}
use Rattle.std.specs.Prelude.{is_none}
use Rattle.std.specs.List.{find, filter_map, cons_option}
use Rattle.std.specs.Option.{option_map}
use Rattle.std.specs.Str.{bytes_eq}
use Rattle.std.proofs.lemmas.Slice.Eq.{bytes_eq-Decides}
use Rattle.acl_binding.specs.declared.question.Caller.{Caller}
use Rattle.authorizer.specs.declared.answer.Refusal.{Refusal}
use Rattle.authorizer.specs.Asking.{Rules}
use Rattle.wire_types.specs.declared.error_code.ErrorCode.TheVariants as codes
use Rattle.wire_types.specs.declared.topic.Topic.{Topic}
use Rattle.msg_data.specs.declared.metadata.TopicInfo.{TopicInfo}
use Rattle.msg_group.specs.declared.offset_fetch.FetchedOffset.{FetchedOffset}
use Rattle.group_offsets.specs.declared.event.OffsetEvent.{OffsetEvent}
use Rattle.broker_world.specs.World.{TopicValue, find_topic, topic_names}
use Rattle.broker_world.specs.Partitions.{partitions_from}
use Rattle.data_handlers.specs.Metadata.{topic_error, topic_found, describable}
use Rattle.broker_world.specs.Questions.{topic_refusal}
use Rattle.group_handlers.specs.OffsetFetch.{listed_offsets_from, listed_topic_of, listed_topics}
use Rattle.api_laws.specs.GroupLaws.{described_slots}
use Rattle.tenant_laws.specs.Replies.{Sized, size_of_topic, described_sizes}

abbrev pub told_sized : List OffsetEvent → Bool → Sized → Option (Topic FetchedOffset)
told_sized es stable s = listed_topic_of s.name (listed_offsets_from es stable s.name 0 s.count)

abbrev size_of : List TopicValue → List ℕ → Option ℕ
size_of topics name = option_map (λ (t : TopicValue). length t.partitions) (find_topic topics name)

abbrev find_size : List Sized → List ℕ → Option Sized
find_size sizes name = find (λ (s : Sized). bytes_eq s.name name) sizes

abbrev size_in : List Sized → List ℕ → Option ℕ
size_in sizes name = option_map (λ (s : Sized). s.count) (find_size sizes name)

abbrev info_by : ℤ → List ℕ → Option ℕ → TopicInfo
info_by node name None = topic_error codes.UnknownTopicOrPartition name
info_by node name (Some n) = record { error = codes.None; name = name; internal = false; partitions = partitions_from node 0 n }

abbrev info_in : ℤ → List Sized → List ℕ → TopicInfo
info_in node sizes name = info_by node name (size_in sizes name)

abbrev pub infos_of : ℤ → List Sized → List TopicInfo
infos_of node sizes = map (info_in node sizes) (map (λ (s : Sized). s.name) sizes)

info_is : (node : ℤ) (name : List ℕ) (o : Option TopicValue) → topic_found node name o ≡ info_by node name (option_map (λ (t : TopicValue). length t.partitions) o)
info_is node name None = refl
info_is node name (Some t) = refl

module _ (rules : Rules) (caller : Caller) where
  -- ---- OffsetFetch

  pub told_by_sizes : (es : List OffsetEvent) (stable : Bool) (topics : List TopicValue) → listed_topics rules caller es stable topics ≡ filter_map (told_sized es stable) (described_sizes rules caller topics)
  told_by_sizes es stable [] = refl
  told_by_sizes es stable (t ∷ ts) = by_grant (is_none (topic_refusal rules caller t.name)) (told_by_sizes es stable ts) where
    by_grant : (b : Bool) → listed_topics rules caller es stable ts ≡ filter_map (told_sized es stable) (described_sizes rules caller ts)
        → cons_option (cond b (told_sized es stable (size_of_topic t)) None) (listed_topics rules caller es stable ts) ≡ filter_map (told_sized es stable) (map size_of_topic (cond b (t ∷ described_slots rules caller ts) (described_slots rules caller ts)))
    by_grant true rest = ap (cons_option (told_sized es stable (size_of_topic t))) rest
    by_grant false rest = rest

  -- ---- Metadata

  found_in : (topics : List TopicValue) (name : List ℕ) → topic_refusal rules caller name ≡ None → size_of topics name ≡ size_in (described_sizes rules caller topics) name
  found_in [] name none = refl
  found_in (t ∷ ts) name none = by_name (bytes_eq t.name name) refl (found_in ts name none) where
    slots : List TopicValue
    slots = described_slots rules caller ts

    by_test : (b : Bool) → bytes_eq t.name name ≡ false → size_in (map size_of_topic slots) name ≡ size_in (map size_of_topic (cond b (t ∷ slots) slots)) name
    by_test true differ = sym (ap (λ (x : Bool). option_map (λ (s : Sized). s.count) (cond x (Some (size_of_topic t)) (find_size (map size_of_topic slots) name))) differ)
    by_test false differ = refl

    by_name : (b : Bool) → bytes_eq t.name name ≡ b → size_of ts name ≡ size_in (map size_of_topic slots) name
        → option_map (λ (x : TopicValue). length x.partitions) (cond b (Some t) (find_topic ts name)) ≡ size_in (map size_of_topic (cond (is_none (topic_refusal rules caller t.name)) (t ∷ slots) slots)) name
    by_name true same rest =
        let here : topic_refusal rules caller t.name ≡ None = ap (topic_refusal rules caller) ((bytes_eq-Decides t.name name).0 same) ∙ none in
        sym (ap (λ (o : Option Refusal). size_in (map size_of_topic (cond (is_none o) (t ∷ slots) slots)) name) here
        ∙ ap (λ (x : Bool). option_map (λ (s : Sized). s.count) (cond x (Some (size_of_topic t)) (find_size (map size_of_topic slots) name))) same)
    by_name false differ rest = rest ∙ by_test (is_none (topic_refusal rules caller t.name)) differ

  module _ (node : ℤ) (topics : List TopicValue) where
    abbrev found_of : List ℕ → TopicInfo
    found_of name = topic_found node name (find_topic topics name)

    abbrev told_of : List ℕ → TopicInfo
    told_of name = info_in node (described_sizes rules caller topics) name

    infos_are : (names : List (List ℕ)) → map found_of (describable rules caller names) ≡ map told_of (describable rules caller names)
    infos_are [] = refl
    infos_are (name ∷ names) = by_refusal (topic_refusal rules caller name) refl (infos_are names) where
      by_refusal : (o : Option Refusal) → topic_refusal rules caller name ≡ o → map found_of (describable rules caller names) ≡ map told_of (describable rules caller names)
          → map found_of (cond (is_none o) (name ∷ describable rules caller names) (describable rules caller names)) ≡ map told_of (cond (is_none o) (name ∷ describable rules caller names) (describable rules caller names))
      by_refusal None none rest =
          ap (λ (a : TopicInfo). a ∷ map found_of (describable rules caller names)) (info_is node name (find_topic topics name) ∙ ap (info_by node name) (found_in topics name none))
          ∙ ap (λ (l : List TopicInfo). told_of name ∷ l) rest
      by_refusal (Some r) is rest = rest

  names_are : (topics : List TopicValue) → describable rules caller (topic_names topics) ≡ map (λ (s : Sized). s.name) (described_sizes rules caller topics)
  names_are [] = refl
  names_are (t ∷ ts) = by_grant (is_none (topic_refusal rules caller t.name)) (names_are ts) where
    by_grant : (b : Bool) → describable rules caller (topic_names ts) ≡ map (λ (s : Sized). s.name) (described_sizes rules caller ts)
        → cond b (t.name ∷ describable rules caller (topic_names ts)) (describable rules caller (topic_names ts)) ≡ map (λ (s : Sized). s.name) (map size_of_topic (cond b (t ∷ described_slots rules caller ts) (described_slots rules caller ts)))
    by_grant true rest = ap (λ (l : List (List ℕ)). t.name ∷ l) rest
    by_grant false rest = rest

  pub infos_by_sizes : (node : ℤ) (topics : List TopicValue) → map (λ (name : List ℕ). topic_found node name (find_topic topics name)) (describable rules caller (topic_names topics)) ≡ infos_of node (described_sizes rules caller topics)
  infos_by_sizes node topics = infos_are node topics (topic_names topics) ∙ ap (λ (names : List (List ℕ)). map (info_in node (described_sizes rules caller topics)) names) (names_are topics)
