-- Wrong answers and refusals are refuted, each in a worked case.
use Rattle.std.proofs.Common.{◌≡◌, ℕ, ℤ, pos, negsuc, true, false, List, [], ◌∷◌, length, Option, Some, None, refl, codes as bytes, ap}
use Rattle.std.specs.List.{list_any, IsDistinct}
use Rattle.std.specs.Ordering.{int_eq}
use Rattle.std.proofs.lemmas.List.Sorted.{length_permutation}
use Rattle.acl_binding.specs.declared.question.Caller.{Caller}
use Rattle.acl_binding.specs.declared.filter.Filter.{Filter}
use Rattle.acl_binding.specs.declared.filter.FilterPattern.TheVariants as filter_patterns
use Rattle.acl_binding.specs.Book.{BookValue}
use Rattle.audit_trail.specs.declared.event.Event.TheVariants.{Ask}
use Rattle.acl_binding.specs.declared.words.Kind.TheVariants as kinds
use Rattle.acl_binding.specs.declared.words.Operation.TheVariants as operations
use Rattle.acl_binding.specs.declared.words.Pattern.TheVariants as patterns
use Rattle.acl_binding.specs.declared.words.Permission.TheVariants as permissions
use Rattle.acl_binding.specs.declared.binding.Binding.{Binding}
use Rattle.acl_binding.specs.WireNumbers.{kind_at, operation_at, permission_at, filter_pattern_at, kind_code, pattern_code, operation_code, permission_code, filter_pattern_code}
use Rattle.authorizer.specs.declared.answer.DenyReason.{DenyReason}
use Rattle.authorizer.specs.declared.answer.DenyReason.TheVariants as why
use Rattle.authorizer.specs.declared.answer.Refusal.{Refusal}
use Rattle.wire_types.specs.declared.error_code.ErrorCode.TheVariants as codes
use Rattle.wire_types.specs.ErrorCode.{number_of}
use Rattle.msg_data.specs.declared.isolation.Isolation.TheVariants.{ReadUncommitted}
use Rattle.msg_data.specs.declared.metadata.TopicInfo.{TopicInfo}
use Rattle.msg_data.specs.declared.list_offsets.WantedOffset.{WantedOffset}
use Rattle.msg_data.specs.declared.list_offsets.FoundOffset.{FoundOffset}
use Rattle.msg_data.specs.declared.fetch.FetchPartition.{FetchPartition}
use Rattle.msg_txn.specs.declared.end_txn.EndTxnRequest.TheVariants as versions
use Rattle.msg_admin.specs.declared.request.Request.{Request}
use Rattle.msg_admin.specs.declared.request.Request.TheVariants as requests
use Rattle.msg_admin.specs.declared.reply.Reply.{Reply}
use Rattle.msg_admin.specs.declared.reply.Reply.TheVariants as replies
use Rattle.txn_coordinator.specs.declared.transaction.TransactionState.TheVariants.{Ongoing}
use Rattle.txn_coordinator.specs.Coordinator.{CoordinatorValue}
use Rattle.data_handlers.specs.declared.fetch_budget.FetchBudget.{FetchBudget}
use Rattle.broker_world.specs.World.{World, TopicValue, rules_of}
use Rattle.acl_handlers.specs.CreateAcls.{create_acls_outcome}
use Rattle.acl_handlers.specs.DeleteAcls.{delete_acls_outcome}
use Rattle.api_laws.specs.Headline.{AnswersEachTopic, RefusesEachTopic}
use Rattle.api_laws.specs.DataLaws.{ListsEnds, FetchesRuns}
use Rattle.api_laws.specs.RefusedRows.{RefusalsByTable}
use Rattle.api_laws.specs.BareAnswers.{RefusalsTellNothing}
use Rattle.api_laws.specs.ErrorTable.{ErrorsByTable}
use Rattle.api_laws.specs.ErrorCases.{api_key, ErrorsAreAnswered}
use Rattle.api_laws.specs.ToldErrors.{all_errors}
use Rattle.api_laws.specs.DescribeLaws.{DescribesEach}
use Rattle.api_laws.specs.AclLaws.{RefusedEditNothing}
use Rattle.api_laws.specs.Wrong.{topics_unasked, topics_left_out, refusals_of_no_topic, first_refused_topic, listing_the_end, listing_the_last, serving_stable_as_high, serving_from_the_start, refusals_without_bindings, first_refusal_of, reply_with_acls, reply_with_ends, reply_ids_as_groups, reply_unfenced, creating_unasked, deleting_unasked, describing_one_resource, describing_each_alone, reply_beating_anyway}
use Rattle.api_laws.proofs.Wrong.{w, root, ann, batch, any_entry}

abbrev pub a : List ℕ
a = bytes "a"

-- ---- Metadata of a named topic

partitions_told : Option TopicInfo → ℕ
partitions_told None = 0
partitions_told (Some t) = length t.partitions

pub not_unasked : ¬ AnswersEachTopic topics_unasked
unfolding partitions_told
not_unasked law = let clash : ◌≡◌ {A = ℕ} 2 0 = ap partitions_told (law.places w ann (a ∷ []) 0 a refl) in cc

pub not_left_out : ¬ AnswersEachTopic topics_left_out
not_left_out law = let clash : ◌≡◌ {A = ℕ} 0 1 = law.number w ann (a ∷ []) in cc

pub not_no_topic : ¬ RefusesEachTopic refusals_of_no_topic
not_no_topic law = let clash : ◌≡◌ {A = ℕ} 0 1 = ap (λ (rs : List Refusal). length rs) (law.one (rules_of w) ann a) in cc

pub not_first_topic : ¬ RefusesEachTopic first_refused_topic
not_first_topic law = let clash : ◌≡◌ {A = ℕ} 1 2 = ap (λ (rs : List Refusal). length rs) (law.order (rules_of w) ann (a ∷ []) (a ∷ [])) in cc

-- ---- a log of one batch, of a transaction that is open

abbrev opened : List TopicValue
opened = record { name = a; partitions = (batch (pos 16) ∷ []) ∷ [] } ∷ []

abbrev pub latest : WantedOffset
latest = record { index = pos 0; timestamp = negsuc 0 }

pub not_listing_the_end : ¬ ListsEnds listing_the_end
unfolding number_of
not_listing_the_end law = let clash : pos 1 ≡ pos 0 = (law.committed opened a latest (batch (pos 16) ∷ []) refl refl).at in cc

pub not_listing_the_last : ¬ ListsEnds listing_the_last
unfolding number_of
not_listing_the_last law = let clash : pos 0 ≡ pos 1 = (law.uncommitted opened a latest (batch (pos 16) ∷ []) refl refl).at in cc

abbrev room : FetchBudget
room = record { left = 100; given = false }

abbrev pub from : ℤ → FetchPartition
from offset = record { index = pos 0; offset = offset; max_bytes = pos 100 }

pub not_stable_as_high : ¬ FetchesRuns serving_stable_as_high
not_stable_as_high law = let clash : pos 0 ≡ pos 1 = (law.within ReadUncommitted opened room a (from (pos 0)) (batch (pos 16) ∷ []) refl refl).high in cc

pub not_from_the_start : ¬ FetchesRuns serving_from_the_start
not_from_the_start law = let clash : codes.None ≡ codes.OffsetOutOfRange = (law.outside ReadUncommitted opened room a (from (pos 5)) (batch (pos 16) ∷ []) refl refl).0 in cc

-- ---- what is refused: a binding denies ann to read `a`

abbrev denies_ann : Binding
denies_ann = record { kind = kinds.Topic; name = a; pattern = patterns.Literal; principal = bytes "User:ann"; host = bytes "*"; operation = operations.Read; permission = permissions.Deny }

abbrev denying : World
denying = record w { book = record { entries = record { number = 1; binding = denies_ann } ∷ []; next = 2 } }

abbrev fetches_both : Request
fetches_both = requests.Fetch (record { replica = negsuc 0; max_wait = pos 0; min_bytes = pos 1; max_bytes = pos 100; isolation = ReadUncommitted; topics = record { name = a; partitions = from (pos 0) ∷ from (pos 0) ∷ [] } ∷ [] })

first_is_denied : List Refusal → ℕ
first_is_denied [] = 0
first_is_denied (r ∷ rs) = by r.why where
  by : DenyReason → ℕ
  by (why.Denied n) = n
  by why.Nothing = 0

pub not_without_bindings : ¬ RefusalsByTable refusals_without_bindings
unfolding first_is_denied
not_without_bindings law = let clash : ◌≡◌ {A = ℕ} 0 1 = ap first_is_denied (law denying ann None fetches_both) in cc

pub not_first_refusal : ¬ RefusalsByTable first_refusal_of
not_first_refusal law = let clash : ◌≡◌ {A = ℕ} 1 2 = ap (λ (rs : List Refusal). length rs) (law w ann None fetches_both) in cc

-- ---- what a refusal tells: the book holds one binding, which lets `User:bob` describe the cluster

abbrev with_bob : World
with_bob = record w { book = record { entries = record { number = 1; binding = record { kind = kinds.Cluster; name = bytes "kafka-cluster"; pattern = patterns.Literal; principal = bytes "User:bob"; host = bytes "*"; operation = operations.Describe; permission = permissions.Allow } } ∷ []; next = 2 } }

resources_told : Reply → ℕ
resources_told (replies.DescribeAcls reply) = length reply.resources
resources_told reply = 0

pub not_with_acls : ¬ RefusalsTellNothing reply_with_acls
unfolding resources_told kind_at operation_at permission_at filter_pattern_at filter_pattern_code kind_code pattern_code operation_code permission_code
not_with_acls law = let clash : ◌≡◌ {A = ℕ} 1 0 = ap resources_told (law.itself with_bob ann None (requests.DescribeAcls (record { filter = any_entry })) _ refl) in cc

offset_told : Option FoundOffset → ℤ
offset_told None = pos 0
offset_told (Some p) = p.offset

pub not_with_ends : ¬ RefusalsTellNothing reply_with_ends
unfolding offset_told
not_with_ends law = let clash : pos 1 ≡ negsuc 0 = ap offset_told (law.list w ann None (record { replica = negsuc 0; isolation = ReadUncommitted; topics = record { name = a; partitions = latest ∷ [] } ∷ [] }) 0 0 _ latest _ refl refl refl) in cc

-- ---- which errors are told

pub not_reply_ids_as_groups : ¬ ErrorsByTable reply_ids_as_groups
unfolding number_of
not_reply_ids_as_groups law = let clash : false ≡ true = (law w ann None (requests.FindCoordinator (record { key = a; key_type = pos 1 }))).0 in cc

-- the transactional id `x` has producer 0 in epoch 3
abbrev pub in_epoch : CoordinatorValue
in_epoch = record { transactions = record { id = bytes "x"; pair = record { producer = pos 0; epoch = pos 3 }; timeout = 10; start = 0; state = Ongoing; partitions = []; groups = []; kept = None } ∷ []; given = Some (bytes "x") ∷ []; warrants = [] }

pub not_unfenced : ¬ ErrorsByTable reply_unfenced
unfolding number_of
not_unfenced law = let clash : false ≡ true = (law (record w { coordinator = in_epoch }) root None (requests.EndTxn (versions.Version2 (record { transactional_id = bytes "x"; producer = pos 0; epoch = pos 2; committed = true })))).0 in cc

-- ---- edits of the book

pub not_creating_unasked : ¬ RefusedEditNothing creating_unasked delete_acls_outcome
not_creating_unasked law = let clash : ◌≡◌ {A = ℕ} 0 1 = ap (λ (rs : List Refusal). length rs) (law.create w ann (record { creations = [] }) _ refl).refusals in cc

pub not_deleting_unasked : ¬ RefusedEditNothing create_acls_outcome deleting_unasked
not_deleting_unasked law = let clash : ◌≡◌ {A = ℕ} 0 1 = ap (λ (rs : List Refusal). length rs) (law.delete w ann (record { filters = [] }) _ refl).refusals in cc

-- ---- a Heartbeat (12) is told ILLEGAL_GENERATION (22) to some caller

abbrev IsToldBeating : Request → World → Caller → Type 0
IsToldBeating request v caller = list_any (λ (error : ℤ). int_eq error (pos 22)) (all_errors (reply_beating_anyway v (Ask caller None request))) ≡ true

no_beat : (request : Request) (v : World) (caller : Caller) → api_key request ≡ 12 → IsToldBeating request v caller → ⊥
unfolding number_of
no_beat (requests.Heartbeat r) v caller api told = let clash : false ≡ true = told in cc
no_beat requests.ApiVersions v caller api told = let clash : ◌≡◌ {A = ℕ} 18 12 = api in cc
no_beat (requests.Produce r) v caller api told = let clash : ◌≡◌ {A = ℕ} 0 12 = api in cc
no_beat (requests.Fetch r) v caller api told = let clash : ◌≡◌ {A = ℕ} 1 12 = api in cc
no_beat (requests.ListOffsets r) v caller api told = let clash : ◌≡◌ {A = ℕ} 2 12 = api in cc
no_beat (requests.Metadata r) v caller api told = let clash : ◌≡◌ {A = ℕ} 3 12 = api in cc
no_beat (requests.OffsetCommit r) v caller api told = let clash : ◌≡◌ {A = ℕ} 8 12 = api in cc
no_beat (requests.OffsetFetch r) v caller api told = let clash : ◌≡◌ {A = ℕ} 9 12 = api in cc
no_beat (requests.FindCoordinator r) v caller api told = let clash : ◌≡◌ {A = ℕ} 10 12 = api in cc
no_beat (requests.JoinGroup r) v caller api told = let clash : ◌≡◌ {A = ℕ} 11 12 = api in cc
no_beat (requests.LeaveGroup r) v caller api told = let clash : ◌≡◌ {A = ℕ} 13 12 = api in cc
no_beat (requests.SyncGroup r) v caller api told = let clash : ◌≡◌ {A = ℕ} 14 12 = api in cc
no_beat (requests.SaslHandshake r) v caller api told = let clash : ◌≡◌ {A = ℕ} 17 12 = api in cc
no_beat (requests.InitProducerId r) v caller api told = let clash : ◌≡◌ {A = ℕ} 22 12 = api in cc
no_beat (requests.AddPartitionsToTxn r) v caller api told = let clash : ◌≡◌ {A = ℕ} 24 12 = api in cc
no_beat (requests.AddOffsetsToTxn r) v caller api told = let clash : ◌≡◌ {A = ℕ} 25 12 = api in cc
no_beat (requests.EndTxn r) v caller api told = let clash : ◌≡◌ {A = ℕ} 26 12 = api in cc
no_beat (requests.TxnOffsetCommit r) v caller api told = let clash : ◌≡◌ {A = ℕ} 28 12 = api in cc
no_beat (requests.DescribeAcls r) v caller api told = let clash : ◌≡◌ {A = ℕ} 29 12 = api in cc
no_beat (requests.CreateAcls r) v caller api told = let clash : ◌≡◌ {A = ℕ} 30 12 = api in cc
no_beat (requests.DeleteAcls r) v caller api told = let clash : ◌≡◌ {A = ℕ} 31 12 = api in cc
no_beat (requests.SaslAuthenticate r) v caller api told = let clash : ◌≡◌ {A = ℕ} 36 12 = api in cc

pub not_beating_anyway : ¬ ErrorsAreAnswered reply_beating_anyway
not_beating_anyway law =
    let beaten = (law (requests.Heartbeat (record { group = a; generation = pos 0; member = a }))).0 in
    no_beat beaten.request beaten.world beaten.caller beaten.api beaten.told

-- ---- a book of three bindings: two of the topic `a`, and one of the cluster

abbrev three : BookValue
three = record { entries = record { number = 1; binding = denies_ann } ∷ record { number = 2; binding = record denies_ann { operation = operations.Write } } ∷ record { number = 3; binding = record denies_ann { kind = kinds.Cluster; name = bytes "kafka-cluster" } } ∷ []; next = 4 }

abbrev every : Filter
every = record { kind = None; name = None; pattern = filter_patterns.Any; principal = None; host = None; operation = None; permission = None }

pub not_one_resource : ¬ DescribesEach describing_one_resource
unfolding kind_code pattern_code operation_code permission_code
not_one_resource law = let clash : ◌≡◌ {A = ℕ} 2 3 = length_permutation _ _ (law.each three every) in cc

pub not_each_alone : ¬ DescribesEach describing_each_alone
unfolding IsDistinct kind_code pattern_code operation_code permission_code
not_each_alone law = let clash : true ≡ false = (law.apart three every).0.0 in cc
