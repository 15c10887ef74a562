-- The errors that each api may answer, by the numbers of the Kafka protocol guide ("Error Codes").
use Rattle.std.specs.Prelude.{◌≡◌, ℕ, ℤ, pos, true, if◌then◌else◌, List, [], ◌∷◌, Option, Some, None}
use Rattle.std.specs.List.{list_any, AllByRecursion}
use Rattle.std.specs.Ordering.{int_eq}
use Rattle.acl_binding.specs.declared.question.Caller.{Caller}
use Rattle.wire_types.specs.declared.topic.Topic.{Topic}
use Rattle.msg_txn.specs.declared.end_txn.EndTxnRequest.{EndTxnRequest}
use Rattle.msg_txn.specs.declared.end_txn.EndTxnRequest.TheVariants as versions
use Rattle.msg_admin.specs.declared.request.Request.{Request}
use Rattle.msg_admin.specs.declared.request.Request.TheVariants as requests
use Rattle.audit_trail.specs.declared.event.Event.TheVariants.{Ask}
use Rattle.broker_world.specs.World.{World}
use Rattle.api_laws.specs.ToldErrors.{all_errors}
use Rattle.api_laws.specs.AskedTable.{AnswerRule}

-- another epoch than the transactional id's is INVALID_PRODUCER_EPOCH, from version 2 on
-- PRODUCER_FENCED (KIP-588)
abbrev pub epoch_error : EndTxnRequest → ℕ
epoch_error (versions.Version0 r) = 47
epoch_error (versions.Version1 r) = 47
epoch_error (versions.Version2 r) = 90
epoch_error (versions.Version3 r) = 90
epoch_error (versions.Version4 r) = 90
epoch_error (versions.Version5 r) = 90

-- only who names a transactional id may be refused it
abbrev pub id_errors : Option (List ℕ) → List ℕ
id_errors None = []
id_errors (Some id) = 53 ∷ []

-- under a null list what may not be described is left out
abbrev pub metadata_errors : Option (List (List ℕ)) → List ℕ
metadata_errors None = []
metadata_errors (Some names) = 3 ∷ 29 ∷ []

abbrev pub named_errors : Option (List (Topic ℤ)) → List ℕ
named_errors None = []
named_errors (Some ts) = 29 ∷ []

-- of a group, of a transactional id, and of neither
abbrev pub coordinator_errors : ℤ → List ℕ
coordinator_errors key_type =
    if int_eq key_type (pos 0) then 30 ∷ [] else if int_eq key_type (pos 1) then 53 ∷ []
    else 42 ∷ []

abbrev pub init_errors : Option (List ℕ) → List ℕ
init_errors None = 31 ∷ []
init_errors (Some id) = 42 ∷ 50 ∷ 51 ∷ 53 ∷ []

--    1 OFFSET_OUT_OF_RANGE                 2 CORRUPT_MESSAGE
--    3 UNKNOWN_TOPIC_OR_PARTITION         10 MESSAGE_TOO_LARGE
--   21 INVALID_REQUIRED_ACKS              22 ILLEGAL_GENERATION
--   23 INCONSISTENT_GROUP_PROTOCOL        24 INVALID_GROUP_ID
--   25 UNKNOWN_MEMBER_ID                  26 INVALID_SESSION_TIMEOUT
--   27 REBALANCE_IN_PROGRESS              29 TOPIC_AUTHORIZATION_FAILED
--   30 GROUP_AUTHORIZATION_FAILED         31 CLUSTER_AUTHORIZATION_FAILED
--   32 INVALID_TIMESTAMP                  34 ILLEGAL_SASL_STATE
--   42 INVALID_REQUEST                    45 OUT_OF_ORDER_SEQUENCE_NUMBER
--   47 INVALID_PRODUCER_EPOCH             48 INVALID_TXN_STATE
--   49 INVALID_PRODUCER_ID_MAPPING        50 INVALID_TRANSACTION_TIMEOUT
--   51 CONCURRENT_TRANSACTIONS            53 TRANSACTIONAL_ID_AUTHORIZATION_FAILED
--   55 OPERATION_NOT_ATTEMPTED            76 UNSUPPORTED_COMPRESSION_TYPE
--   81 GROUP_MAX_SIZE_REACHED             87 INVALID_RECORD
--   88 UNSTABLE_OFFSET_COMMIT             90 PRODUCER_FENCED
abbrev pub errors_of : Request → List ℕ
errors_of (requests.Produce r) =
    2 ∷ 3 ∷ 10 ∷ 21 ∷ 29 ∷ 32 ∷ 45 ∷ 47 ∷ 48 ∷ 49 ∷ 76 ∷ 87 ∷ id_errors r.transactional_id
errors_of (requests.Fetch r) = 1 ∷ 3 ∷ 29 ∷ []
errors_of (requests.ListOffsets r) = 3 ∷ 29 ∷ 42 ∷ []
errors_of (requests.Metadata r) = metadata_errors r.topics
errors_of (requests.OffsetCommit r) = 3 ∷ 22 ∷ 25 ∷ 27 ∷ 29 ∷ 30 ∷ []
errors_of (requests.OffsetFetch r) = 30 ∷ 88 ∷ named_errors r.topics
errors_of (requests.FindCoordinator r) = coordinator_errors r.key_type
errors_of (requests.JoinGroup r) = 23 ∷ 24 ∷ 25 ∷ 26 ∷ 30 ∷ 81 ∷ []
errors_of (requests.SyncGroup r) = 22 ∷ 24 ∷ 25 ∷ 30 ∷ []
errors_of (requests.Heartbeat r) = 22 ∷ 24 ∷ 25 ∷ 30 ∷ []
errors_of (requests.LeaveGroup r) = 24 ∷ 25 ∷ 30 ∷ []
errors_of (requests.SaslHandshake r) = 34 ∷ []
errors_of requests.ApiVersions = []
errors_of (requests.InitProducerId r) = init_errors r.transactional_id
errors_of (requests.AddPartitionsToTxn r) = 3 ∷ 29 ∷ 42 ∷ 47 ∷ 49 ∷ 51 ∷ 53 ∷ 55 ∷ []
errors_of (requests.AddOffsetsToTxn r) = 30 ∷ 42 ∷ 47 ∷ 49 ∷ 51 ∷ 53 ∷ []
errors_of (requests.EndTxn r) = 42 ∷ 48 ∷ 49 ∷ 51 ∷ 53 ∷ epoch_error r ∷ []
errors_of (requests.TxnOffsetCommit r) = 3 ∷ 22 ∷ 25 ∷ 29 ∷ 30 ∷ 47 ∷ 48 ∷ 49 ∷ 53 ∷ []
errors_of (requests.DescribeAcls r) = 31 ∷ 42 ∷ []
errors_of (requests.CreateAcls r) = 31 ∷ 42 ∷ []
errors_of (requests.DeleteAcls r) = 31 ∷ 42 ∷ []
errors_of (requests.SaslAuthenticate r) = 34 ∷ []

-- it is 0 (no error), or one of these
abbrev pub IsAmong : List ℕ → ℤ → Type 0
IsAmong numbers error = list_any (λ (n : ℕ). int_eq error (pos n)) (0 ∷ numbers) ≡ true

-- whatever the world is and whoever asks, each error in an answer is one of its api's
abbrev pub ErrorsByTable : AnswerRule → Type 0
ErrorsByTable reply_to =
    (w : World) (caller : Caller) (client : Option (List ℕ)) (request : Request)
    → AllByRecursion (IsAmong (errors_of request))
    (all_errors (reply_to w (Ask caller client request)))
