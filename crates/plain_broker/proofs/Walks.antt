-- The apis whose parts are partitions, one after the other.
use Rattle.std.proofs.Common.{◌≡◌, ℕ, pos, Bool, true, false, cond, List, Option, Some, None, refl, ap, ◌∙◌}
use Rattle.std.specs.Ordering.{int_eq}
use Rattle.acl_binding.specs.declared.question.Caller.{Caller}
use Rattle.authorizer.specs.Asking.{part_refusal}
use Rattle.wire_types.specs.declared.topic.Topic.{Topic}
use Rattle.msg_data.specs.declared.produce.ProduceRequest.{ProduceRequest}
use Rattle.msg_data.specs.declared.produce.ProducedOffset.{ProducedOffset}
use Rattle.msg_data.specs.declared.fetch.FetchRequest.{FetchRequest}
use Rattle.msg_data.specs.declared.fetch.FetchedRecords.{FetchedRecords}
use Rattle.msg_data.specs.declared.list_offsets.ListOffsetsRequest.{ListOffsetsRequest}
use Rattle.msg_data.specs.declared.list_offsets.FoundOffset.{FoundOffset}
use Rattle.msg_group.specs.declared.offset_commit.OffsetCommitRequest.{OffsetCommitRequest}
use Rattle.msg_group.specs.declared.offset_commit.CommittedOffset.{CommittedOffset}
use Rattle.msg_txn.specs.declared.txn_offset_commit.TxnOffsetCommitRequest.{TxnOffsetCommitRequest}
use Rattle.msg_txn.specs.declared.txn_offset_commit.StagedOffset.{StagedOffset}
use Rattle.msg_admin.specs.declared.request.Request.TheVariants.{Produce, Fetch, ListOffsets, OffsetCommit, TxnOffsetCommit}
use Rattle.msg_admin.specs.declared.reply.Reply.TheVariants as replies
use Rattle.group_offsets.specs.declared.group.Group.{Group}
use Rattle.broker_world.specs.World.{World, TopicValue, rules_of}
use Rattle.broker_world.specs.Questions.{topic_part}
use Rattle.data_handlers.specs.Produce.{produce_questions, produced_error, producing_rule, produce_reply}
use Rattle.data_handlers.specs.Fetch.{fetched_error, fetch_rule, whole_budget}
use Rattle.data_handlers.specs.ListOffsets.{listed_error, list_rule}
use Rattle.group_handlers.specs.OffsetCommit.{commit_questions, committed_code, committing_rule}
use Rattle.txn_handlers.specs.TxnOffsetCommit.{staging_of, stage_questions, staged_code, staging_rule}
use Rattle.api_dispatch.specs.Step.{with_event_counted}
use Rattle.api_dispatch.specs.Questions.{fetch_questions}
use Rattle.plain_broker.specs.PutBack.{topics_with_refused, reply_with_refused}
use Rattle.plain_broker.specs.Plain.{unrestricted_world, IsPlainOfAllowed}
use Rattle.plain_broker.proofs.Freed.{freed}
use Rattle.plain_broker.proofs.Terms.{refused_by}
use Rattle.plain_broker.proofs.Walking.{walk_world, walk_answers}

module _ (w : World) (caller : Caller) (client : Option (List ℕ)) where
  -- ---- Produce

  pub produce_freed : (id : Option (List ℕ)) (name : List ℕ) → part_refusal (rules_of (unrestricted_world w caller)) (produce_questions caller id name) ≡ None
  produce_freed None name = freed w caller (produce_questions caller None name) (refl, tt)
  produce_freed (Some id) name = freed w caller (produce_questions caller (Some id) name) (refl, (refl, tt))

  produce_put : (r : ProduceRequest) (b : Bool) (topics : List (Topic ProducedOffset))
      → cond b (replies.SilentProduce (record { topics = topics_with_refused (refused_by (rules_of w) (produce_questions caller r.transactional_id)) produced_error r.topics topics; throttle = pos 0 })) (replies.Produce (record { topics = topics_with_refused (refused_by (rules_of w) (produce_questions caller r.transactional_id)) produced_error r.topics topics; throttle = pos 0 }))
      ≡ reply_with_refused (rules_of w) caller (Produce r) (cond b (replies.SilentProduce (record { topics = topics; throttle = pos 0 })) (replies.Produce (record { topics = topics; throttle = pos 0 })))
  produce_put r true topics = refl
  produce_put r false topics = refl

  pub produces : (r : ProduceRequest) → IsPlainOfAllowed w caller client (Produce r)
  produces r =
      record {
        reply = ap (produce_reply r.acks) (walk_answers (producing_rule w caller r) (rules_of w) (produce_questions caller r.transactional_id) produced_error (record { questions = λ name p. refl; refused = λ code name p. refl }) (rules_of (unrestricted_world w caller)) (λ name p. produce_freed r.transactional_id name) w.topics r.topics)
            ∙ produce_put r (int_eq r.acks (pos 0)) _;
        world = ap (λ (topics : List TopicValue). with_event_counted (record w { topics = topics })) (walk_world (producing_rule w caller r) (rules_of w) (produce_questions caller r.transactional_id) produced_error (record { questions = λ name p. refl; refused = λ code name p. refl }) (rules_of (unrestricted_world w caller)) (λ name p. produce_freed r.transactional_id name) w.topics r.topics);
      }

  -- ---- Fetch

  pub fetches : (r : FetchRequest) → IsPlainOfAllowed w caller client (Fetch r)
  fetches r = record {
    reply = ap (λ (topics : List (Topic FetchedRecords)). replies.Fetch (record { throttle = pos 0; topics = topics }))
        (walk_answers (fetch_rule caller r.isolation w.topics) (rules_of w) (fetch_questions caller) fetched_error (record { questions = λ name p. refl; refused = λ code name p. refl }) (rules_of (unrestricted_world w caller)) (λ name p. freed w caller (fetch_questions caller name) (refl, tt)) (whole_budget r) r.topics);
    world = refl;
  }

  -- ---- ListOffsets

  pub lists : (r : ListOffsetsRequest) → IsPlainOfAllowed w caller client (ListOffsets r)
  lists r = record {
    reply = ap (λ (topics : List (Topic FoundOffset)). replies.ListOffsets (record { throttle = pos 0; topics = topics }))
        (walk_answers (list_rule caller r.isolation w.topics) (rules_of w) (topic_part caller) listed_error (record { questions = λ name p. refl; refused = λ code name p. refl }) (rules_of (unrestricted_world w caller)) (λ name p. freed w caller (topic_part caller name) (refl, tt)) tt r.topics);
    world = refl;
  }

  -- ---- OffsetCommit

  pub commits : (r : OffsetCommitRequest) → IsPlainOfAllowed w caller client (OffsetCommit r)
  commits r =
      record {
        reply = ap (λ (topics : List (Topic CommittedOffset)). replies.OffsetCommit (record { topics = topics }))
            (walk_answers (committing_rule w caller r) (rules_of w) (commit_questions caller r.group) committed_code (record { questions = λ name p. refl; refused = λ code name p. refl }) (rules_of (unrestricted_world w caller)) (λ name p. freed w caller (commit_questions caller r.group name) (refl, (refl, tt))) w.groups r.topics);
        world = ap (λ (groups : List Group). with_event_counted (record w { groups = groups }))
            (walk_world (committing_rule w caller r) (rules_of w) (commit_questions caller r.group) committed_code (record { questions = λ name p. refl; refused = λ code name p. refl }) (rules_of (unrestricted_world w caller)) (λ name p. freed w caller (commit_questions caller r.group name) (refl, (refl, tt))) w.groups r.topics);
      }

  -- ---- TxnOffsetCommit

  pub stages : (r : TxnOffsetCommitRequest) → IsPlainOfAllowed w caller client (TxnOffsetCommit r)
  stages r =
      record {
        reply = ap (λ (topics : List (Topic StagedOffset)). replies.TxnOffsetCommit (record { throttle = pos 0; topics = topics }))
            (walk_answers (staging_rule w caller r) (rules_of w) (stage_questions caller (staging_of r)) staged_code (record { questions = λ name p. refl; refused = λ code name p. refl }) (rules_of (unrestricted_world w caller)) (λ name p. freed w caller (stage_questions caller (staging_of r) name) (refl, (refl, (refl, tt)))) w.groups r.topics);
        world = ap (λ (groups : List Group). with_event_counted (record w { groups = groups }))
            (walk_world (staging_rule w caller r) (rules_of w) (stage_questions caller (staging_of r)) staged_code (record { questions = λ name p. refl; refused = λ code name p. refl }) (rules_of (unrestricted_world w caller)) (λ name p. freed w caller (stage_questions caller (staging_of r) name) (refl, (refl, (refl, tt)))) w.groups r.topics);
      }
