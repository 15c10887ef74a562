-- Metadata and OffsetFetch, whose lists of topics may be null.
use Rattle.std.proofs.Common.{◌≡◌, ℕ, ℤ, Bool, true, false, cond, List, [], ◌∷◌, map, length, Option, Some, None, refl, sym, ap, ◌∙◌}
use Rattle.std.specs.Prelude.{is_none}
use Rattle.std.specs.List.{cons_option}
use Rattle.std.specs.Option.{option_map}
use Rattle.acl_binding.specs.declared.question.Caller.{Caller}
use Rattle.authorizer.specs.declared.answer.Refusal.{Refusal}
use Rattle.authorizer.specs.Asking.{part_refusal}
use Rattle.wire_types.specs.declared.error_code.ErrorCode.TheVariants as codes
use Rattle.wire_types.specs.declared.topic.Topic.{Topic}
use Rattle.msg_data.specs.declared.metadata.MetadataRequest.{MetadataRequest}
use Rattle.msg_data.specs.declared.metadata.TopicInfo.{TopicInfo}
use Rattle.msg_group.specs.declared.offset_fetch.OffsetFetchRequest.{OffsetFetchRequest}
use Rattle.msg_group.specs.declared.offset_fetch.FetchedOffset.{FetchedOffset}
use Rattle.msg_admin.specs.declared.request.Request.TheVariants.{Metadata, OffsetFetch}
use Rattle.msg_admin.specs.declared.reply.Reply.TheVariants as replies
use Rattle.group_offsets.specs.declared.event.OffsetEvent.{OffsetEvent}
use Rattle.walk.specs.Codes.{refusal_code}
use Rattle.walk.specs.Weave.{weave}
use Rattle.broker_world.specs.Brokers.{brokers_of}
use Rattle.broker_world.specs.World.{World, TopicValue, rules_of, find_topic, topic_names}
use Rattle.broker_world.specs.HandlerResult.{HandlerResult}
use Rattle.broker_world.specs.Questions.{topic_part, topic_refusal}
use Rattle.data_handlers.specs.Metadata.{topic_error, topic_found, plain_topic, describable, refused_topic, metadata_topics}
use Rattle.group_handlers.specs.OffsetFetch.{group_question, fetched_code, offset_rule, listed_offsets_from, listed_topic_of, listed_topics, fetch_reply, offsets_of, fetched_outcome, offset_fetch_by}
use Rattle.api_dispatch.specs.Step.{with_event_counted}
use Rattle.plain_broker.specs.Allowed.{unrefused_names, unrefused_topics, rest_or_nothing}
use Rattle.plain_broker.specs.Exactly.{is_granted}
use Rattle.plain_broker.specs.PutBack.{infos_with_refused, offsets_with_refused, reply_with_refused}
use Rattle.plain_broker.specs.Plain.{unrestricted_world, plain_outcome, with_refusals, IsPlainOfAllowed}
use Rattle.plain_broker.proofs.Freed.{freed}
use Rattle.plain_broker.proofs.Terms.{refused_by}
use Rattle.plain_broker.proofs.Walking.{walk_answers}

module _ (w : World) (caller : Caller) (client : Option (List ℕ)) where
  pub topic_freed : (name : List ℕ) → topic_refusal (rules_of (unrestricted_world w caller)) caller name ≡ None
  topic_freed name = freed w caller (topic_part caller name) (refl, tt)

  -- ---- Metadata

  pub all_described : (names : List (List ℕ)) → describable (rules_of (unrestricted_world w caller)) caller names ≡ names
  all_described [] = refl
  all_described (name ∷ names) =
      ap (λ (o : Option Refusal). cond (is_none o) (name ∷ describable (rules_of (unrestricted_world w caller)) caller names) (describable (rules_of (unrestricted_world w caller)) caller names)) (topic_freed name)
      ∙ ap (λ (l : List (List ℕ)). name ∷ l) (all_described names)

  -- in the plain broker's world nothing is refused
  plain_named : (names : List (List ℕ)) (infos : List TopicInfo) → weave (map (refused_topic (rules_of (unrestricted_world w caller)) caller) names) (map (plain_topic w) names) ≡ map (plain_topic w) names
  plain_named [] infos = refl
  plain_named (name ∷ names) infos =
      ap (λ (o : Option Refusal). weave (option_map (λ (r : Refusal). topic_error (refusal_code r) name) o ∷ map (refused_topic (rules_of (unrestricted_world w caller)) caller) names) (plain_topic w name ∷ map (plain_topic w) names)) (topic_freed name)
      ∙ ap (λ (l : List TopicInfo). plain_topic w name ∷ l) (plain_named names infos)

  pub plain_listed : (names : List (List ℕ)) → metadata_topics (unrestricted_world w caller) caller (Some names) ≡ map (plain_topic w) names
  plain_listed names = ap (λ (l : List (List ℕ)). weave (map (refused_topic (rules_of (unrestricted_world w caller)) caller) names) (map (plain_topic w) l)) (all_described names) ∙ plain_named names []

  named_so : (node : ℤ) (name : List ℕ) (o : Option TopicValue) → (topic_found node name o).name ≡ name
  named_so node name None = refl
  named_so node name (Some t) = refl

  -- all topics that may be described are those of all
  described_of_all : (names : List (List ℕ)) → map (plain_topic w) (describable (rules_of w) caller names) ≡ infos_with_refused (refused_by (rules_of w) (topic_part caller)) None (map (plain_topic w) names)
  described_of_all [] = refl
  described_of_all (name ∷ names) =
      by_grant (described_of_all names) (is_granted (rules_of w) (topic_part caller name))
      ∙ sym (ap (λ (n : List ℕ). cond (is_granted (rules_of w) (topic_part caller n)) (plain_topic w name ∷ infos_with_refused (refused_by (rules_of w) (topic_part caller)) None (map (plain_topic w) names)) (infos_with_refused (refused_by (rules_of w) (topic_part caller)) None (map (plain_topic w) names))) (named_so w.node.node_id name (find_topic w.topics name))) where
        by_grant : map (plain_topic w) (describable (rules_of w) caller names) ≡ infos_with_refused (refused_by (rules_of w) (topic_part caller)) None (map (plain_topic w) names) → (b : Bool) → map (plain_topic w) (cond b (name ∷ describable (rules_of w) caller names) (describable (rules_of w) caller names)) ≡ cond b (plain_topic w name ∷ infos_with_refused (refused_by (rules_of w) (topic_part caller)) None (map (plain_topic w) names)) (infos_with_refused (refused_by (rules_of w) (topic_part caller)) None (map (plain_topic w) names))
        by_grant rest true = ap (λ (l : List TopicInfo). plain_topic w name ∷ l) rest
        by_grant rest false = rest

  infos_put : (topics : Option (List (List ℕ))) → metadata_topics w caller topics ≡ infos_with_refused (refused_by (rules_of w) (topic_part caller)) topics (metadata_topics (unrestricted_world w caller) caller (option_map (unrefused_names (refused_by (rules_of w) (topic_part caller))) topics))
  infos_put (Some names) = ap (infos_with_refused (refused_by (rules_of w) (topic_part caller)) (Some names)) (sym (plain_listed (unrefused_names (refused_by (rules_of w) (topic_part caller)) names)))
  infos_put None =
      described_of_all (topic_names w.topics)
      ∙ sym (ap (λ (l : List (List ℕ)). infos_with_refused (refused_by (rules_of w) (topic_part caller)) None (map (plain_topic w) l)) (all_described (topic_names w.topics)))

  pub informs : (r : MetadataRequest) → IsPlainOfAllowed w caller client (Metadata r)
  informs r = record {
    reply = ap (λ (topics : List TopicInfo). replies.Metadata (record { brokers = brokers_of w.node; controller = w.node.node_id; topics = topics })) (infos_put r.topics);
    world = refl;
  }

  -- ---- OffsetFetch

  told_all : (es : List OffsetEvent) (stable : Bool) (topics : List TopicValue) → listed_topics (rules_of w) caller es stable topics ≡ offsets_with_refused (refused_by (rules_of w) (topic_part caller)) None (listed_topics (rules_of (unrestricted_world w caller)) caller es stable topics)
  told_all es stable [] = refl
  told_all es stable (t ∷ ts) =
      by_told (told_all es stable ts) (is_granted (rules_of w) (topic_part caller t.name)) refl (listed_offsets_from es stable t.name 0 (length t.partitions))
      ∙ sym (ap (λ (o : Option Refusal). offsets_with_refused (refused_by (rules_of w) (topic_part caller)) None (cons_option (cond (is_none o) (listed_topic_of t.name (listed_offsets_from es stable t.name 0 (length t.partitions))) None) (listed_topics (rules_of (unrestricted_world w caller)) caller es stable ts))) (topic_freed t.name)) where
        by_told : listed_topics (rules_of w) caller es stable ts ≡ offsets_with_refused (refused_by (rules_of w) (topic_part caller)) None (listed_topics (rules_of (unrestricted_world w caller)) caller es stable ts) → (b : Bool) → is_granted (rules_of w) (topic_part caller t.name) ≡ b → (told : List FetchedOffset)
            → cons_option (cond b (listed_topic_of t.name told) None) (listed_topics (rules_of w) caller es stable ts) ≡ offsets_with_refused (refused_by (rules_of w) (topic_part caller)) None (cons_option (listed_topic_of t.name told) (listed_topics (rules_of (unrestricted_world w caller)) caller es stable ts))
        by_told rest true is [] = rest
        by_told rest false is [] = rest
        by_told rest true is (p ∷ ps) =
            ap (λ (l : List (Topic FetchedOffset)). record { name = t.name; partitions = p ∷ ps } ∷ l) rest
            ∙ sym (ap (λ (b : Bool). cond b (record { name = t.name; partitions = p ∷ ps } ∷ offsets_with_refused (refused_by (rules_of w) (topic_part caller)) None (listed_topics (rules_of (unrestricted_world w caller)) caller es stable ts)) (offsets_with_refused (refused_by (rules_of w) (topic_part caller)) None (listed_topics (rules_of (unrestricted_world w caller)) caller es stable ts))) is)
        by_told rest false is (p ∷ ps) =
            rest
            ∙ sym (ap (λ (b : Bool). cond b (record { name = t.name; partitions = p ∷ ps } ∷ offsets_with_refused (refused_by (rules_of w) (topic_part caller)) None (listed_topics (rules_of (unrestricted_world w caller)) caller es stable ts)) (offsets_with_refused (refused_by (rules_of w) (topic_part caller)) None (listed_topics (rules_of (unrestricted_world w caller)) caller es stable ts))) is)

  offsets_put : (r : OffsetFetchRequest) (topics : Option (List (Topic ℤ)))
      → (fetched_outcome w caller (offsets_of w r.group) r.require_stable topics).reply
      ≡ reply_with_refused (rules_of w) caller (OffsetFetch (record r { topics = topics })) (fetched_outcome (unrestricted_world w caller) caller (offsets_of w r.group) r.require_stable (option_map (unrefused_topics (refused_by (rules_of w) (topic_part caller))) topics)).reply
  offsets_put r None = ap (fetch_reply codes.None) (told_all (offsets_of w r.group) r.require_stable w.topics)
  offsets_put r (Some ts) =
      ap (fetch_reply codes.None)
      (walk_answers (offset_rule caller (offsets_of w r.group) r.require_stable) (rules_of w) (topic_part caller) fetched_code (record { questions = λ name p. refl; refused = λ code name p. refl }) (rules_of (unrestricted_world w caller)) (λ name p. topic_freed name) tt ts)

  fetched_keeps : (v : World) (es : List OffsetEvent) (stable : Bool) (topics : Option (List (Topic ℤ))) → (fetched_outcome v caller es stable topics).world ≡ v
  fetched_keeps v es stable None = refl
  fetched_keeps v es stable (Some ts) = refl

  module _ (r : OffsetFetchRequest) where
    abbrev rest : OffsetFetchRequest
    rest = record r { topics = option_map (unrefused_topics (refused_by (rules_of w) (topic_part caller))) r.topics }

    plain_is : plain_outcome w caller (OffsetFetch rest) ≡ fetched_outcome (unrestricted_world w caller) caller (offsets_of w r.group) r.require_stable rest.topics
    plain_is = ap (λ (o : Option Refusal). offset_fetch_by o (unrestricted_world w caller) caller rest) (freed w caller (group_question caller r.group ∷ []) (refl, tt))

    reply_is : (o : Option Refusal) → (offset_fetch_by o w caller r).reply ≡ (with_refusals w caller (OffsetFetch r) (rest_or_nothing (OffsetFetch rest) o)).reply
    reply_is (Some x) = refl
    reply_is None = offsets_put r r.topics ∙ sym (ap (λ (o : HandlerResult). reply_with_refused (rules_of w) caller (OffsetFetch r) o.reply) plain_is)

    world_is : (o : Option Refusal) → (offset_fetch_by o w caller r).world ≡ (with_refusals w caller (OffsetFetch r) (rest_or_nothing (OffsetFetch rest) o)).world
    world_is (Some x) = refl
    world_is None =
        fetched_keeps w (offsets_of w r.group) r.require_stable r.topics
        ∙ sym (ap (λ (v : World). record v { supers = w.supers }) (ap (λ (o : HandlerResult). o.world) plain_is ∙ fetched_keeps (unrestricted_world w caller) (offsets_of w r.group) r.require_stable rest.topics))

    pub tells : IsPlainOfAllowed w caller client (OffsetFetch r)
    tells = record {
      reply = reply_is (part_refusal (rules_of w) (group_question caller r.group ∷ []));
      world = ap with_event_counted (world_is (part_refusal (rules_of w) (group_question caller r.group ∷ [])));
    }
