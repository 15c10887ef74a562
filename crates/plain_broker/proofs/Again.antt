-- What is allowed of a request is allowed as a request of its own, whole; and so what is refused changes nothing.
use Rattle.std.proofs.Common.{◌≡◌, ℕ, ℤ, Bool, true, false, cond, List, [], ◌∷◌, Option, Some, None, refl, sym, ap, subst, ◌∙◌}
use Rattle.std.specs.Prelude.{filter, is_none}
use Rattle.std.specs.Option.{option_map}
use Rattle.acl_binding.specs.declared.question.Caller.{Caller}
use Rattle.authorizer.specs.declared.answer.Refusal.{Refusal}
use Rattle.authorizer.specs.Asking.{Rules}
use Rattle.wire_types.specs.declared.topic.Topic.{Topic}
use Rattle.msg_txn.specs.declared.add_partitions.AddPartitionsToTxnRequest.{AddPartitionsToTxnRequest}
use Rattle.msg_admin.specs.declared.request.Request.{Request}
use Rattle.msg_admin.specs.declared.request.Request.TheVariants.{Produce, Fetch, ListOffsets, Metadata, OffsetCommit, OffsetFetch, FindCoordinator, JoinGroup, Heartbeat, LeaveGroup, SyncGroup, SaslHandshake, ApiVersions, InitProducerId, AddPartitionsToTxn, AddOffsetsToTxn, EndTxn, TxnOffsetCommit, DescribeAcls, CreateAcls, DeleteAcls, SaslAuthenticate}
use Rattle.walk.specs.Codes.{refusal_code}
use Rattle.audit_trail.specs.declared.event.Event.TheVariants.{Ask}
use Rattle.broker_world.specs.World.{World, rules_of}
use Rattle.api_dispatch.specs.Step.{with_event_counted, step}
use Rattle.api_dispatch.specs.Refusals.{request_refusals}
use Rattle.plain_broker.specs.Allowed.{Allowed, Rest, Cut, Nothing, refused_itself, refused_at, unrefused_names, unrefused_topic, unrefused_topics, unrefused_request, rest_or_nothing, whole_or_cut, allowed_part}
use Rattle.plain_broker.specs.Plain.{with_refusals}
use Rattle.plain_broker.specs.Without.{RefusedChangesNothing}
use Rattle.plain_broker.proofs.Together.{plain_of_allowed}

-- ---- what is kept is kept again

parts_again : {P : Type 0} (b : Bool) (ps : List P) → filter (λ (p : P). b) (filter (λ (p : P). b) ps) ≡ filter (λ (p : P). b) ps
parts_again b [] = refl
parts_again true (p ∷ ps) = ap (λ l. p ∷ l) (parts_again true ps)
parts_again false (p ∷ ps) = parts_again false ps

module _ (refused : List ℕ → Option Refusal) where
  names_again : (names : List (List ℕ)) → unrefused_names refused (unrefused_names refused names) ≡ unrefused_names refused names
  names_again [] = refl
  names_again (n ∷ ns) = by_kept (is_none (refused n)) refl (names_again ns) where
    by_kept : (b : Bool) → is_none (refused n) ≡ b → unrefused_names refused (unrefused_names refused ns) ≡ unrefused_names refused ns
        → unrefused_names refused (cond b (n ∷ unrefused_names refused ns) (unrefused_names refused ns)) ≡ cond b (n ∷ unrefused_names refused ns) (unrefused_names refused ns)
    by_kept true is rest = ap (λ (b : Bool). cond b (n ∷ unrefused_names refused (unrefused_names refused ns)) (unrefused_names refused (unrefused_names refused ns))) is ∙ ap (λ (l : List (List ℕ)). n ∷ l) rest
    by_kept false is rest = rest

  topics_again : {P : Type 0} (ts : List (Topic P)) → unrefused_topics refused (unrefused_topics refused ts) ≡ unrefused_topics refused ts
  topics_again [] = refl
  topics_again {P = P} (t ∷ ts) =
      ap (λ (ps : List P). record { name = t.name; partitions = ps } ∷ unrefused_topics refused (unrefused_topics refused ts)) (parts_again (is_none (refused t.name)) t.partitions)
      ∙ ap (λ (l : List (Topic P)). unrefused_topic refused t ∷ l) (topics_again ts)

  named_again : (names : Option (List (List ℕ))) → option_map (unrefused_names refused) (option_map (unrefused_names refused) names) ≡ option_map (unrefused_names refused) names
  named_again None = refl
  named_again (Some names) = ap (λ (l : List (List ℕ)). Some l) (names_again names)

  listed_again : (ts : Option (List (Topic ℤ))) → option_map (unrefused_topics refused) (option_map (unrefused_topics refused) ts) ≡ option_map (unrefused_topics refused) ts
  listed_again None = refl
  listed_again (Some ts) = ap (λ (l : List (Topic ℤ)). Some l) (topics_again ts)

  kept_again : (request : Request) → unrefused_request refused (unrefused_request refused request) ≡ unrefused_request refused request
  kept_again (Produce r) = ap (λ ts. Produce (record r { topics = ts })) (topics_again r.topics)
  kept_again (Fetch r) = ap (λ ts. Fetch (record r { topics = ts })) (topics_again r.topics)
  kept_again (ListOffsets r) = ap (λ ts. ListOffsets (record r { topics = ts })) (topics_again r.topics)
  kept_again (Metadata r) = ap (λ ts. Metadata (record r { topics = ts })) (named_again r.topics)
  kept_again (OffsetCommit r) = ap (λ ts. OffsetCommit (record r { topics = ts })) (topics_again r.topics)
  kept_again (OffsetFetch r) = ap (λ ts. OffsetFetch (record r { topics = ts })) (listed_again r.topics)
  kept_again (TxnOffsetCommit r) = ap (λ ts. TxnOffsetCommit (record r { topics = ts })) (topics_again r.topics)
  kept_again (FindCoordinator r) = refl
  kept_again (JoinGroup r) = refl
  kept_again (Heartbeat r) = refl
  kept_again (LeaveGroup r) = refl
  kept_again (SyncGroup r) = refl
  kept_again (InitProducerId r) = refl
  kept_again (AddPartitionsToTxn r) = refl
  kept_again (AddOffsetsToTxn r) = refl
  kept_again (EndTxn r) = refl
  kept_again (SaslHandshake r) = refl
  kept_again ApiVersions = refl
  kept_again (SaslAuthenticate r) = refl
  kept_again (DescribeAcls r) = refl
  kept_again (CreateAcls r) = refl
  kept_again (DeleteAcls r) = refl

-- ---- what is allowed is allowed again

module _ (rules : Rules) (caller : Caller) where
  abbrev left : Request → Request
  left request = unrefused_request (refused_at rules caller request) request

  -- by the refusal of the request itself
  again_by : (request rest : Request) (o : Option Refusal) → allowed_part rules caller (left request) ≡ rest_or_nothing (left request) o → rest_or_nothing (left request) o ≡ Rest rest → allowed_part rules caller rest ≡ Rest rest
  again_by request rest None same is = let kept_so : left request ≡ rest = (let whole : Rest (left request) ≡ Rest rest = is in cc) in subst (λ (x : Request). allowed_part rules caller x ≡ Rest x) kept_so same
  again_by request rest (Some r) same is = absurd (let clash : Nothing (refusal_code r) ≡ Rest rest = is in cc)

  again_cut : (request rest : Request) (cut : AddPartitionsToTxnRequest) (rs : List Refusal) → allowed_part rules caller request ≡ whole_or_cut request cut rs → whole_or_cut request cut rs ≡ Rest rest → allowed_part rules caller rest ≡ Rest rest
  again_cut request rest cut [] same is = let kept_so : request ≡ rest = (let whole : Rest request ≡ Rest rest = is in cc) in subst (λ (x : Request). allowed_part rules caller x ≡ Rest x) kept_so same
  again_cut request rest cut (r ∷ rs) same is = absurd (let clash : Cut cut ≡ Rest rest = is in cc)

  again : (request rest : Request) → allowed_part rules caller request ≡ Rest rest → allowed_part rules caller rest ≡ Rest rest
  again (AddPartitionsToTxn r) rest is = again_cut (AddPartitionsToTxn r) rest _ (request_refusals rules caller (AddPartitionsToTxn r)) refl is
  again (Produce r) rest is = again_by (Produce r) rest (refused_itself rules caller (Produce r)) (ap (λ x. Rest x) (kept_again (refused_at rules caller (Produce r)) (Produce r))) is
  again (Fetch r) rest is = again_by (Fetch r) rest (refused_itself rules caller (Fetch r)) (ap (λ x. Rest x) (kept_again (refused_at rules caller (Fetch r)) (Fetch r))) is
  again (ListOffsets r) rest is = again_by (ListOffsets r) rest (refused_itself rules caller (ListOffsets r)) (ap (λ x. Rest x) (kept_again (refused_at rules caller (ListOffsets r)) (ListOffsets r))) is
  again (Metadata r) rest is = again_by (Metadata r) rest (refused_itself rules caller (Metadata r)) (ap (λ x. Rest x) (kept_again (refused_at rules caller (Metadata r)) (Metadata r))) is
  again (OffsetCommit r) rest is = again_by (OffsetCommit r) rest (refused_itself rules caller (OffsetCommit r)) (ap (λ x. Rest x) (kept_again (refused_at rules caller (OffsetCommit r)) (OffsetCommit r))) is
  again (OffsetFetch r) rest is = again_by (OffsetFetch r) rest (refused_itself rules caller (OffsetFetch r)) (ap (λ x. rest_or_nothing x (refused_itself rules caller (OffsetFetch r))) (kept_again (refused_at rules caller (OffsetFetch r)) (OffsetFetch r))) is
  again (TxnOffsetCommit r) rest is = again_by (TxnOffsetCommit r) rest (refused_itself rules caller (TxnOffsetCommit r)) (ap (λ x. Rest x) (kept_again (refused_at rules caller (TxnOffsetCommit r)) (TxnOffsetCommit r))) is
  again (FindCoordinator r) rest is = again_by (FindCoordinator r) rest (refused_itself rules caller (FindCoordinator r)) refl is
  again (JoinGroup r) rest is = again_by (JoinGroup r) rest (refused_itself rules caller (JoinGroup r)) refl is
  again (Heartbeat r) rest is = again_by (Heartbeat r) rest (refused_itself rules caller (Heartbeat r)) refl is
  again (LeaveGroup r) rest is = again_by (LeaveGroup r) rest (refused_itself rules caller (LeaveGroup r)) refl is
  again (SyncGroup r) rest is = again_by (SyncGroup r) rest (refused_itself rules caller (SyncGroup r)) refl is
  again (InitProducerId r) rest is = again_by (InitProducerId r) rest (refused_itself rules caller (InitProducerId r)) refl is
  again (AddOffsetsToTxn r) rest is = again_by (AddOffsetsToTxn r) rest (refused_itself rules caller (AddOffsetsToTxn r)) refl is
  again (EndTxn r) rest is = again_by (EndTxn r) rest (refused_itself rules caller (EndTxn r)) refl is
  again (SaslHandshake r) rest is = again_by (SaslHandshake r) rest (refused_itself rules caller (SaslHandshake r)) refl is
  again ApiVersions rest is = again_by ApiVersions rest (refused_itself rules caller ApiVersions) refl is
  again (SaslAuthenticate r) rest is = again_by (SaslAuthenticate r) rest (refused_itself rules caller (SaslAuthenticate r)) refl is
  again (DescribeAcls r) rest is = again_by (DescribeAcls r) rest (refused_itself rules caller (DescribeAcls r)) refl is
  again (CreateAcls r) rest is = again_by (CreateAcls r) rest (refused_itself rules caller (CreateAcls r)) refl is
  again (DeleteAcls r) rest is = again_by (DeleteAcls r) rest (refused_itself rules caller (DeleteAcls r)) refl is

-- ---- the world

module _ (w : World) (caller : Caller) (client : Option (List ℕ)) (request : Request) where
  left_by : (a : Allowed) → allowed_part (rules_of w) caller request ≡ a → step w (Ask caller client request) ≡ with_event_counted (with_refusals w caller request a).world
  left_by a is = (plain_of_allowed w caller client request).world ∙ ap (λ (x : Allowed). with_event_counted (with_refusals w caller request x).world) is

pub refused_changes_nothing : RefusedChangesNothing
refused_changes_nothing = record {
  rest = λ w caller client request rest is. left_by w caller client request (Rest rest) is ∙ sym (left_by w caller client rest (Rest rest) (again (rules_of w) caller request rest is));
  cut = λ w caller client request cut is. left_by w caller client request (Cut cut) is;
  nothing = λ w caller client request code is. left_by w caller client request (Nothing code) is;
}
