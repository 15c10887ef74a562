-- Metadata tells a topic that is there, and wrong ones leave something out.
use Rattle.std.proofs.Common.{◌≡◌, ℕ, zero, suc, ◌+◌, ℤ, pos, negsuc, Bool, true, false, cond, List, [], ◌∷◌, ◌++◌, length, Option, Some, None, refl, codes as bytes, sym, ap, ◌∙◌}
use Rattle.std.specs.List.{AllByRecursion}
use Rattle.std.specs.Str.{bytes_eq}
use Rattle.std.specs.Prelude.{is_none}
use Rattle.std.specs.Option.{option_map}
use Rattle.wire_types.specs.ErrorCode.{number_of}
use Rattle.acl_binding.proofs.Same.{same_bytes, itself_bytes}
use Rattle.acl_binding.specs.declared.question.Caller.{Caller}
use Rattle.acl_binding.specs.declared.question.Verdict.{Verdict}
use Rattle.acl_binding.specs.declared.question.Verdict.TheVariants.{Yes}
use Rattle.acl_binding.specs.declared.words.Kind.TheVariants as kinds
use Rattle.acl_binding.specs.declared.words.Operation.TheVariants as operations
use Rattle.acl_binding.specs.Verdict.{question_of}
use Rattle.authorizer.specs.Policy.{verdict}
use Rattle.authorizer.specs.Asking.{first_of, refusal_by}
use Rattle.walk.specs.Codes.{refusal_code}
use Rattle.walk.specs.Weave.{weave}
use Rattle.msg_data.specs.declared.metadata.TopicInfo.{TopicInfo}
use Rattle.msg_data.specs.declared.metadata.MetadataReply.{MetadataReply}
use Rattle.msg_admin.specs.declared.reply.Reply.TheVariants as replies
use Rattle.broker_world.specs.World.{World, TopicValue, find_topic}
use Rattle.broker_world.specs.Partitions.{partitions_from}
use Rattle.data_handlers.specs.Metadata.{topic_error, topic_found, plain_topic, plain_topics, metadata_answer}
use Rattle.api_dispatch.specs.Step.{outcome}
use Rattle.wrong_rules.specs.Steps.{cluster, root}
use Rattle.wrong_rules.specs.Topics.{IsTopic, IsUnknown, IsThere, TellsTheTopic, step_telling_unknown, step_without_last_partition, step_telling_no_error}

-- ---- the topic is found

found_in : (before after : List TopicValue) (t : TopicValue) → AllByRecursion (λ (u : TopicValue). u.name ≡ t.name → ⊥) before → find_topic (before ++ t ∷ after) t.name ≡ Some t
found_in [] after t first = ap (λ (b : Bool). cond b (Some t) (find_topic after t.name)) (itself_bytes t.name)
found_in (u ∷ before) after t first = by_name (bytes_eq u.name t.name) refl (found_in before after t first.1) where
  by_name : (b : Bool) → bytes_eq u.name t.name ≡ b → find_topic (before ++ t ∷ after) t.name ≡ Some t → find_topic (u ∷ before ++ t ∷ after) t.name ≡ Some t
  by_name true same rest = absurd (first.0 (same_bytes u.name t.name same))
  by_name false other rest = ap (λ (b : Bool). cond b (Some u) (find_topic (before ++ t ∷ after) t.name)) other ∙ rest

none_in : (topics : List TopicValue) (name : List ℕ) → AllByRecursion (λ (u : TopicValue). u.name ≡ name → ⊥) topics → find_topic topics name ≡ None
none_in [] name none = refl
none_in (u ∷ topics) name none = by_name (bytes_eq u.name name) refl (none_in topics name none.1) where
  by_name : (b : Bool) → bytes_eq u.name name ≡ b → find_topic topics name ≡ None → find_topic (u ∷ topics) name ≡ None
  by_name true same rest = absurd (none.0 (same_bytes u.name name same))
  by_name false other rest = ap (λ (b : Bool). cond b (Some u) (find_topic topics name)) other ∙ rest

partitions_counted : (node : ℤ) (from n : ℕ) → length (partitions_from node from n) ≡ n
partitions_counted node from zero = refl
partitions_counted node from (suc n) = ap suc (partitions_counted node (from + 1) n)

-- ---- the answer, where the topic may be described

same_metadata : (a b : MetadataReply) → replies.Metadata a ≡ replies.Metadata b → a ≡ b
same_metadata a b h = cc

module _ (w : World) (caller : Caller) (name : List ℕ) where
  abbrev topics_by : Verdict → List TopicInfo
  topics_by v =
      weave (option_map (λ r. topic_error (refusal_code r) name) (first_of (refusal_by v (question_of caller operations.Describe kinds.Topic name)) None) ∷ [])
      (plain_topics w (cond (is_none (first_of (refusal_by v (question_of caller operations.Describe kinds.Topic name)) None)) (name ∷ []) []))

  alone : (reply : MetadataReply) → verdict w.book w.supers (question_of caller operations.Describe kinds.Topic name) ≡ Yes
      → replies.Metadata (metadata_answer w caller (record { topics = Some (name ∷ []) })) ≡ replies.Metadata reply → reply.topics ≡ plain_topic w name ∷ []
  alone reply may told = ap (λ (r : MetadataReply). r.topics) (sym (same_metadata (metadata_answer w caller (record { topics = Some (name ∷ []) })) reply told)) ∙ ap topics_by may

is_topic : (node : ℤ) (t : TopicValue) → IsTopic t (topic_found node t.name (Some t))
unfolding number_of
is_topic node t = record { error = refl; name = refl; internal = refl; partitions = partitions_counted node 0 (length t.partitions) }

is_unknown : (node : ℤ) (name : List ℕ) → IsUnknown name (topic_found node name None)
unfolding number_of
is_unknown node name = record { error = refl; name = refl; partitions = refl }

pub tells_the_topic : TellsTheTopic outcome
tells_the_topic = record {
  found = λ w caller client t reply there may told.
      let is : find_topic w.topics t.name ≡ Some t = ap (λ (topics : List TopicValue). find_topic topics t.name) there.place ∙ found_in there.before there.after t there.first in
      (topic_found w.node.node_id t.name (Some t), alone w caller t.name reply may told ∙ ap (λ (o : Option TopicValue). topic_found w.node.node_id t.name o ∷ []) is, is_topic w.node.node_id t);
  missing = λ w caller client name reply none may told.
      let is : find_topic w.topics name ≡ None = none_in w.topics name none in
      (topic_found w.node.node_id name None, alone w caller name reply may told ∙ ap (λ (o : Option TopicValue). topic_found w.node.node_id name o ∷ []) is, is_unknown w.node.node_id name);
}

-- ---- wrong ones, asked for the topic `a` with its one partition, and for `b`, which isn't there

abbrev a : TopicValue
a = record { name = bytes "a"; partitions = [] ∷ [] }

abbrev reply_with : TopicInfo → MetadataReply
reply_with info = record (metadata_answer cluster root (record { topics = Some [] })) { topics = info ∷ [] }

first_error : List TopicInfo → ℤ
unfolding number_of
first_error [] = negsuc 0
first_error (t ∷ ts) = number_of t.error

first_count : List TopicInfo → ℕ
first_count [] = 0
first_count (t ∷ ts) = length t.partitions

there : IsThere cluster.topics a
there = record { before = []; after = []; place = refl; first = tt }

pub there_not_unknown : ¬ TellsTheTopic step_telling_unknown
unfolding number_of first_error
there_not_unknown law =
    let told = law.found cluster root None a (reply_with (topic_found (pos 0) (bytes "a") None)) there refl refl in
    let clash : pos 3 ≡ pos 0 = ap first_error told.1 ∙ told.2.error in cc

pub not_without_last : ¬ TellsTheTopic step_without_last_partition
unfolding first_count
not_without_last law =
    let told = law.found cluster root None a (reply_with (record (topic_found (pos 0) (bytes "a") (Some a)) { partitions = [] })) there refl refl in
    let clash : ◌≡◌ {A = ℕ} 0 1 = ap first_count told.1 ∙ told.2.partitions in cc

pub unknown_not_there : ¬ TellsTheTopic step_telling_no_error
unfolding number_of first_error
unknown_not_there law =
    let told = law.missing cluster root None (bytes "b") (reply_with (record (topic_found (pos 0) (bytes "b") None) { error = (topic_found (pos 0) (bytes "a") (Some a)).error })) (other, tt) refl refl in
    let clash : pos 0 ≡ pos 3 = ap first_error told.1 ∙ told.2.error in cc where
      other : bytes "a" ≡ bytes "b" → ⊥
      other same = let clash : ◌≡◌ {A = Bool} true false = ap (bytes_eq (bytes "a")) same in cc
