-- Answers depend on what was granted alone.
use Rattle.std.proofs.Common.{◌≡◌, ℕ, List, [], ◌∷◌, Option, Some, None, cond, refl, ap, ◌∙◌}
use Rattle.std.specs.Prelude.{is_none}
use Rattle.std.specs.Option.{option_map}
use Rattle.acl_binding.specs.declared.question.Caller.{Caller}
use Rattle.acl_binding.specs.declared.question.Question.{Question}
use Rattle.acl_binding.specs.declared.question.Verdict.{Verdict}
use Rattle.acl_binding.specs.declared.question.Verdict.TheVariants.{Yes, Denied, Nothing}
use Rattle.acl_binding.specs.declared.words.Kind.TheVariants.{Topic}
use Rattle.acl_binding.specs.declared.words.Operation.TheVariants.{Describe}
use Rattle.acl_binding.specs.Verdict.{question_of}
use Rattle.authorizer.specs.declared.answer.DenyReason.TheVariants as why
use Rattle.authorizer.specs.Policy.{verdict}
use Rattle.authorizer.specs.Asking.{refusal_by, first_of}
use Rattle.msg_data.specs.declared.metadata.TopicInfo.{TopicInfo}
use Rattle.broker_world.specs.Brokers.{brokers_of}
use Rattle.broker_world.specs.World.{World, rules_of, find_topic, topic_names}
use Rattle.walk.specs.Codes.{refusal_code}
use Rattle.walk.specs.Weave.{weave}
use Rattle.data_handlers.specs.Metadata.{plain_topic, plain_topics, topic_found, topic_error, describable, refused_topics, metadata_topics, metadata_answer, metadata_refusals}
use Rattle.api_laws.specs.Tenants.{SameBase, SameGranted, SameForMetadata, SameTopics, DependsOnGrants, topic_questions}

-- a topic that is the same in both worlds is answered the same
same_plain : (v w : World) (name : List ℕ) → v.node ≡ w.node → find_topic v.topics name ≡ find_topic w.topics name → plain_topic v name ≡ plain_topic w name
same_plain v w name node same = λ i. topic_found (node i).node_id name (same i)

-- named topics, by the same rules
same_named : (v w : World) (caller : Caller) (names : List (List ℕ)) → v.node ≡ w.node → SameGranted v w (topic_questions caller names)
    → weave (refused_topics (rules_of w) caller (Some names)) (plain_topics v (describable (rules_of w) caller names)) ≡ weave (refused_topics (rules_of w) caller (Some names)) (plain_topics w (describable (rules_of w) caller names))
same_named v w caller [] node h = refl
same_named v w caller (name ∷ names) node h =
    by_verdict (question_of caller Describe Topic name) (refused_topics (rules_of w) caller (Some names)) (describable (rules_of w) caller names) (same_named v w caller names node h.1) (verdict w.book w.supers (question_of caller Describe Topic name)) h.0 where
      by_verdict : (q : Question) (refused : List (Option TopicInfo)) (left : List (List ℕ)) → weave refused (plain_topics v left) ≡ weave refused (plain_topics w left) → (x : Verdict) → (x ≡ Yes → find_topic v.topics name ≡ find_topic w.topics name)
          → weave (option_map (λ r. topic_error (refusal_code r) name) (first_of (refusal_by x q) None) ∷ refused) (plain_topics v (cond (is_none (first_of (refusal_by x q) None)) (name ∷ left) left)) ≡ weave (option_map (λ r. topic_error (refusal_code r) name) (first_of (refusal_by x q) None) ∷ refused) (plain_topics w (cond (is_none (first_of (refusal_by x q) None)) (name ∷ left) left))
      by_verdict q refused left rest Yes h = let same = same_plain v w name node (h refl) in λ i. same i ∷ rest i
      by_verdict q refused left rest (Denied n) h = λ i. topic_error (refusal_code (record { question = q; why = why.Denied n })) name ∷ rest i
      by_verdict q refused left rest Nothing h = λ i. topic_error (refusal_code (record { question = q; why = why.Nothing })) name ∷ rest i

same_listed : (v w : World) (names : List (List ℕ)) → v.node ≡ w.node → SameTopics v w names → plain_topics v names ≡ plain_topics w names
same_listed v w [] node h = refl
same_listed v w (name ∷ names) node h = let same = same_plain v w name node h.0 in let rest = same_listed v w names node h.1 in λ i. same i ∷ rest i

same_answers : (v w : World) (caller : Caller) (topics : Option (List (List ℕ))) → SameBase v w → SameForMetadata v w caller topics → metadata_topics v caller topics ≡ metadata_topics w caller topics
same_answers v w caller (Some names) base h = ap (λ r. weave (refused_topics r caller (Some names)) (plain_topics v (describable r caller names))) base.rules ∙ same_named v w caller names base.node h
same_answers v w caller None base h = ap (plain_topics v) h.names ∙ same_listed v w (describable (rules_of w) caller (topic_names w.topics)) base.node h.topics

pub depends_on_grants : DependsOnGrants metadata_answer
depends_on_grants v w caller m base h =
    let node = base.node in let topics = same_answers v w caller m.topics base h in
    (λ i. record { brokers = brokers_of (node i); controller = (node i).node_id; topics = topics i }, ap (λ r. metadata_refusals r caller m) base.rules)
