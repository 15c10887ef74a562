-- A world with another book, by which a request's questions have the same verdicts, is left by the request as the world
-- is, but for the book.
use Rattle.std.proofs.Common.{◌≡◌, ℕ, ℤ, true, false, List, [], ◌∷◌, Option, Some, None, refl, sym, ap, ◌∙◌}
use Rattle.std.specs.List.{AllByRecursion}
use Rattle.acl_binding.specs.declared.question.Caller.{Caller}
use Rattle.acl_binding.specs.declared.question.Question.{Question}
use Rattle.authorizer.specs.declared.answer.Refusal.{Refusal}
use Rattle.authorizer.specs.Policy.{verdict}
use Rattle.authorizer.specs.Asking.{Rules, part_refusal}
use Rattle.wire_types.specs.declared.topic.Topic.{Topic}
use Rattle.msg_data.specs.declared.produce.ProducedRecords.{ProducedRecords}
use Rattle.msg_data.specs.declared.fetch.FetchPartition.{FetchPartition}
use Rattle.msg_data.specs.declared.list_offsets.WantedOffset.{WantedOffset}
use Rattle.msg_data.specs.declared.metadata.MetadataRequest.{MetadataRequest}
use Rattle.msg_group.specs.declared.offset_commit.OffsetToCommit.{OffsetToCommit}
use Rattle.msg_group.specs.declared.offset_fetch.OffsetFetchRequest.{OffsetFetchRequest}
use Rattle.msg_txn.specs.declared.add_partitions.AddPartitionsToTxnRequest.{AddPartitionsToTxnRequest}
use Rattle.msg_txn.specs.declared.txn_offset_commit.OffsetToStage.{OffsetToStage}
use Rattle.msg_admin.specs.declared.request.Request.{Request}
use Rattle.msg_admin.specs.declared.request.Request.TheVariants.{Produce, Fetch, ListOffsets, Metadata, OffsetCommit, OffsetFetch, FindCoordinator, JoinGroup, Heartbeat, LeaveGroup, SyncGroup, SaslHandshake, ApiVersions, InitProducerId, AddPartitionsToTxn, AddOffsetsToTxn, EndTxn, TxnOffsetCommit, DescribeAcls, CreateAcls, DeleteAcls, SaslAuthenticate}
use Rattle.audit_trail.specs.declared.event.Event.TheVariants.{Ask}
use Rattle.broker_world.specs.World.{World, rules_of}
use Rattle.broker_world.specs.Questions.{topic_part}
use Rattle.data_handlers.specs.Produce.{produce_questions}
use Rattle.group_handlers.specs.OffsetCommit.{commit_questions}
use Rattle.group_handlers.specs.OffsetFetch.{group_question}
use Rattle.txn_handlers.specs.AddPartitions.{add_questions}
use Rattle.txn_handlers.specs.TxnOffsetCommit.{staging_of, stage_questions}
use Rattle.api_dispatch.specs.Step.{with_event_counted, step}
use Rattle.api_dispatch.specs.Questions.{fetch_questions, parts_of, questions_of}
use Rattle.api_dispatch.specs.Refusals.{refusals_in}
use Rattle.plain_broker.specs.Allowed.{Allowed, Rest, Cut, Nothing, unrefused_topics, refused_itself, whole_or_cut, rest_or_nothing, allowed_part}
use Rattle.plain_broker.specs.Plain.{with_refusals}
use Rattle.plain_broker.specs.Plainness.{is_about_bindings}
use Rattle.plain_broker.proofs.Terms.{refused_by}
use Rattle.plain_broker.proofs.Bare.{looks_at_no_book}
use Rattle.plain_broker.proofs.Together.{plain_of_allowed}
use Rattle.tenant_laws.specs.Laws.{SameVerdicts}
use Rattle.tenant_laws.proofs.Apart.{first_part, same_grants}
use Rattle.tenant_laws.proofs.Decided.{SameRefusal, SameCode, each_part, each_code, refusals_same, granted_same, names_same}

-- ---- what is left of a request that is not about the book isn't either

NotAbout : Allowed → Type 0
NotAbout (Rest r) = is_about_bindings r ≡ false
NotAbout (Cut r) = Unit {0}
NotAbout (Nothing code) = Unit {0}

rest_not : (r : Request) (o : Option Refusal) → is_about_bindings r ≡ false → NotAbout (rest_or_nothing r o)
unfolding NotAbout
rest_not r None is = is
rest_not r (Some x) is = tt

cut_not : (r : Request) (cut : AddPartitionsToTxnRequest) (rs : List Refusal) → is_about_bindings r ≡ false → NotAbout (whole_or_cut r cut rs)
unfolding NotAbout
cut_not r cut [] is = is
cut_not r cut (x ∷ xs) is = tt

allowed_not : (rules : Rules) (caller : Caller) (request : Request) → is_about_bindings request ≡ false → NotAbout (allowed_part rules caller request)
unfolding NotAbout
allowed_not rules caller (Produce r) is = refl
allowed_not rules caller (Fetch r) is = refl
allowed_not rules caller (ListOffsets r) is = refl
allowed_not rules caller (Metadata r) is = refl
allowed_not rules caller (OffsetCommit r) is = refl
allowed_not rules caller (OffsetFetch r) is = rest_not _ (refused_itself rules caller (OffsetFetch r)) refl
allowed_not rules caller (FindCoordinator r) is = rest_not (FindCoordinator r) (refused_itself rules caller (FindCoordinator r)) refl
allowed_not rules caller (JoinGroup r) is = rest_not (JoinGroup r) (refused_itself rules caller (JoinGroup r)) refl
allowed_not rules caller (Heartbeat r) is = rest_not (Heartbeat r) (refused_itself rules caller (Heartbeat r)) refl
allowed_not rules caller (LeaveGroup r) is = rest_not (LeaveGroup r) (refused_itself rules caller (LeaveGroup r)) refl
allowed_not rules caller (SyncGroup r) is = rest_not (SyncGroup r) (refused_itself rules caller (SyncGroup r)) refl
allowed_not rules caller (InitProducerId r) is = rest_not (InitProducerId r) (refused_itself rules caller (InitProducerId r)) refl
allowed_not rules caller (AddPartitionsToTxn r) is = cut_not (AddPartitionsToTxn r) _ (refusals_in rules (parts_of rules caller (AddPartitionsToTxn r))) refl
allowed_not rules caller (AddOffsetsToTxn r) is = rest_not (AddOffsetsToTxn r) (refused_itself rules caller (AddOffsetsToTxn r)) refl
allowed_not rules caller (EndTxn r) is = rest_not (EndTxn r) (refused_itself rules caller (EndTxn r)) refl
allowed_not rules caller (TxnOffsetCommit r) is = refl
allowed_not rules caller (SaslHandshake r) is = rest_not (SaslHandshake r) (refused_itself rules caller (SaslHandshake r)) refl
allowed_not rules caller ApiVersions is = rest_not ApiVersions (refused_itself rules caller ApiVersions) refl
allowed_not rules caller (SaslAuthenticate r) is = rest_not (SaslAuthenticate r) (refused_itself rules caller (SaslAuthenticate r)) refl
allowed_not rules caller (DescribeAcls r) is = absurd (let clash : true ≡ false = is in cc)
allowed_not rules caller (CreateAcls r) is = absurd (let clash : true ≡ false = is in cc)
allowed_not rules caller (DeleteAcls r) is = absurd (let clash : true ≡ false = is in cc)

module _ (v w : World) (caller : Caller) where
  -- the first world with the second's book
  abbrev pub near : World
  near = record v { book = w.book }

  abbrev rv : Rules
  rv = rules_of v

  abbrev rn : Rules
  rn = rules_of near

  abbrev rw : Rules
  rw = rules_of w

  -- ---- the same is allowed

  abbrev Refusals : Request → Type 0
  Refusals request = AllByRecursion (SameRefusal v near) (parts_of rw caller request)

  abbrev Codes : Request → Type 0
  Codes request = AllByRecursion (SameCode v near) (parts_of rw caller request)

  abbrev Allows : Request → Type 0
  Allows request = allowed_part rv caller request ≡ allowed_part rn caller request

  metadata_same : (r : MetadataRequest) (topics : Option (List (List ℕ))) → Codes (Metadata (record r { topics = topics })) → Allows (Metadata (record r { topics = topics }))
  metadata_same r None codes = refl
  metadata_same r (Some names) codes = ap (λ (l : List (List ℕ)). Rest (Metadata (record r { topics = Some l }))) (names_same v near caller names codes)

  offsets_same : (r : OffsetFetchRequest) (topics : Option (List (Topic ℤ))) → Refusals (OffsetFetch (record r { topics = topics })) → Codes (OffsetFetch (record r { topics = topics })) → Allows (OffsetFetch (record r { topics = topics }))
  offsets_same r None refusals codes = ap (rest_or_nothing (OffsetFetch (record r { topics = None }))) refusals.0
  offsets_same r (Some ts) refusals codes =
      ap (λ (l : List (Topic ℤ)). rest_or_nothing (OffsetFetch (record r { topics = Some l })) (part_refusal rv (group_question caller r.group ∷ []))) (granted_same v near (topic_part caller) ts codes.1)
      ∙ ap (rest_or_nothing (OffsetFetch (record r { topics = Some (unrefused_topics (refused_by rn (topic_part caller)) ts) }))) refusals.0

  allowed_same : (request : Request) → parts_of rv caller request ≡ parts_of rw caller request → parts_of rn caller request ≡ parts_of rw caller request → Refusals request → Codes request → Allows request
  allowed_same (Produce r) asks near_asks refusals codes = ap (λ (l : List (Topic ProducedRecords)). Rest (Produce (record r { topics = l }))) (granted_same v near (produce_questions caller r.transactional_id) r.topics codes)
  allowed_same (Fetch r) asks near_asks refusals codes = ap (λ (l : List (Topic FetchPartition)). Rest (Fetch (record r { topics = l }))) (granted_same v near (fetch_questions caller) r.topics codes)
  allowed_same (ListOffsets r) asks near_asks refusals codes = ap (λ (l : List (Topic WantedOffset)). Rest (ListOffsets (record r { topics = l }))) (granted_same v near (topic_part caller) r.topics codes)
  allowed_same (Metadata r) asks near_asks refusals codes = metadata_same r r.topics codes
  allowed_same (OffsetCommit r) asks near_asks refusals codes = ap (λ (l : List (Topic OffsetToCommit)). Rest (OffsetCommit (record r { topics = l }))) (granted_same v near (commit_questions caller r.group) r.topics codes)
  allowed_same (OffsetFetch r) asks near_asks refusals codes = offsets_same r r.topics refusals codes
  allowed_same (FindCoordinator r) asks near_asks refusals codes = ap (rest_or_nothing (FindCoordinator r)) refusals.0
  allowed_same (JoinGroup r) asks near_asks refusals codes = ap (rest_or_nothing (JoinGroup r)) refusals.0
  allowed_same (Heartbeat r) asks near_asks refusals codes = ap (rest_or_nothing (Heartbeat r)) refusals.0
  allowed_same (LeaveGroup r) asks near_asks refusals codes = ap (rest_or_nothing (LeaveGroup r)) refusals.0
  allowed_same (SyncGroup r) asks near_asks refusals codes = ap (rest_or_nothing (SyncGroup r)) refusals.0
  allowed_same (InitProducerId r) asks near_asks refusals codes =
      ap (λ (parts : List (List Question)). rest_or_nothing (InitProducerId r) (part_refusal rv (first_part parts))) asks
      ∙ ap (rest_or_nothing (InitProducerId r)) refusals.0
      ∙ sym (ap (λ (parts : List (List Question)). rest_or_nothing (InitProducerId r) (part_refusal rn (first_part parts))) near_asks)
  allowed_same (AddPartitionsToTxn r) asks near_asks refusals codes =
      ap (λ (l : List (Topic ℤ)). whole_or_cut (AddPartitionsToTxn r) (record r { topics = l }) (refusals_in rv (parts_of rw caller (AddPartitionsToTxn r)))) (granted_same v near (add_questions caller r.transactional_id) r.topics codes)
      ∙ ap (whole_or_cut (AddPartitionsToTxn r) (record r { topics = unrefused_topics (refused_by rn (add_questions caller r.transactional_id)) r.topics })) (refusals_same v near (parts_of rw caller (AddPartitionsToTxn r)) refusals)
  allowed_same (AddOffsetsToTxn r) asks near_asks refusals codes = ap (rest_or_nothing (AddOffsetsToTxn r)) refusals.0
  allowed_same (EndTxn r) asks near_asks refusals codes = ap (rest_or_nothing (EndTxn r)) refusals.0
  allowed_same (TxnOffsetCommit r) asks near_asks refusals codes = ap (λ (l : List (Topic OffsetToStage)). Rest (TxnOffsetCommit (record r { topics = l }))) (granted_same v near (stage_questions caller (staging_of r)) r.topics codes)
  allowed_same (SaslHandshake r) asks near_asks refusals codes = ap (rest_or_nothing (SaslHandshake r)) refusals.0
  allowed_same ApiVersions asks near_asks refusals codes = ap (rest_or_nothing ApiVersions) refusals.0
  allowed_same (SaslAuthenticate r) asks near_asks refusals codes = ap (rest_or_nothing (SaslAuthenticate r)) refusals.0
  allowed_same (DescribeAcls r) asks near_asks refusals codes = ap (rest_or_nothing (DescribeAcls r)) refusals.0
  allowed_same (CreateAcls r) asks near_asks refusals codes = ap (rest_or_nothing (CreateAcls r)) refusals.0
  allowed_same (DeleteAcls r) asks near_asks refusals codes = ap (rest_or_nothing (DeleteAcls r)) refusals.0

  -- ---- and comes to the same

  near_together : (request : Request) (a : Allowed) → NotAbout a → (with_refusals near caller request a).world ≡ record (with_refusals v caller request a).world { book = w.book }
  unfolding NotAbout
  near_together request (Rest rest) is = ap (λ (x : World). record x { supers = v.supers }) (looks_at_no_book v w.book caller rest is).world
  near_together request (Cut cut) is = refl
  near_together request (Nothing code) is = refl

  near_verdicts : v.supers ≡ w.supers → (qs : List Question) → SameVerdicts v w qs → SameVerdicts v near qs
  near_verdicts supers [] same = tt
  near_verdicts supers (q ∷ qs) same = (same.0 ∙ sym (ap (λ (s : List (List ℕ)). verdict w.book s q) supers), near_verdicts supers qs same.1)

  pub step_near : (client : Option (List ℕ)) (request : Request) → v.supers ≡ w.supers → parts_of rv caller request ≡ parts_of rw caller request → SameVerdicts v w (questions_of rw caller request) → is_about_bindings request ≡ false
      → step near (Ask caller client request) ≡ record (step v (Ask caller client request)) { book = w.book }
  step_near client request supers asks same is =
      let near_asks : parts_of rn caller request ≡ parts_of rw caller request = ap (λ (s : List (List ℕ)). parts_of (record { book = w.book; supers = s }) caller request) supers in
      let all = near_verdicts supers (questions_of rw caller request) same in
      let allows = allowed_same request asks near_asks (each_part v near (parts_of rw caller request) all) (each_code v near (parts_of rw caller request) (same_grants v near (questions_of rw caller request) all)) in
      (plain_of_allowed near caller client request).world
      ∙ ap (λ (a : Allowed). with_event_counted (with_refusals near caller request a).world) (sym allows)
      ∙ ap with_event_counted (near_together request (allowed_part rv caller request) (allowed_not rv caller request is))
      ∙ sym (ap (λ (x : World). record x { book = w.book }) (plain_of_allowed v caller client request).world)
