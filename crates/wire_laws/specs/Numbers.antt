-- The numbers of error codes and of isolation levels, the two bytes of a BOOLEAN, and the apis that
-- are served, with their versions, as the Kafka protocol guide has them.
use Rattle.std.specs.Prelude.{◌≡◌, ℕ, suc, ℤ, pos, List, [], ◌∷◌, Bool, true, false, Option, Some, None, Ok, Err}
use Rattle.wire_types.specs.declared.error_code.ErrorCode.{ErrorCode}
use Rattle.wire_types.specs.declared.error_code.ErrorCode.TheVariants as errors
use Rattle.wire_types.specs.declared.fault.Malformed.TheVariants.{Short}
use Rattle.wire_types.specs.Reading.{Found}
use Rattle.wire_types.specs.Schema.{boolean}
use Rattle.msg_data.specs.declared.isolation.Isolation.{Isolation}
use Rattle.msg_data.specs.declared.isolation.Isolation.TheVariants as levels
use Rattle.msg_admin.specs.declared.api_key.ApiKey.{ApiKey}
use Rattle.msg_admin.specs.declared.api_key.ApiKey.TheVariants as keys
use Rattle.msg_admin.specs.declared.api_key.ServedApi.{ServedApi}
use Rattle.wire_laws.specs.Tables.{HasNumbers, ReadsNumbers}

-- ---- error codes ("Error Codes")

-- each code that is told, with its number
abbrev pub error_codes : List (ℤ × ErrorCode)
error_codes =
    (pos 0, errors.None) ∷ (pos 1, errors.OffsetOutOfRange) ∷ (pos 2, errors.CorruptMessage)
    ∷ (pos 3, errors.UnknownTopicOrPartition) ∷ (pos 10, errors.MessageTooLarge)
    ∷ (pos 21, errors.InvalidRequiredAcks) ∷ (pos 22, errors.IllegalGeneration)
    ∷ (pos 23, errors.InconsistentGroupProtocol) ∷ (pos 24, errors.InvalidGroupId)
    ∷ (pos 25, errors.UnknownMemberId) ∷ (pos 26, errors.InvalidSessionTimeout)
    ∷ (pos 27, errors.RebalanceInProgress) ∷ (pos 29, errors.TopicAuthorizationFailed)
    ∷ (pos 30, errors.GroupAuthorizationFailed) ∷ (pos 31, errors.ClusterAuthorizationFailed)
    ∷ (pos 32, errors.InvalidTimestamp) ∷ (pos 33, errors.UnsupportedSaslMechanism)
    ∷ (pos 34, errors.IllegalSaslState) ∷ (pos 35, errors.UnsupportedVersion)
    ∷ (pos 42, errors.InvalidRequest) ∷ (pos 45, errors.OutOfOrderSequenceNumber)
    ∷ (pos 47, errors.InvalidProducerEpoch) ∷ (pos 48, errors.InvalidTxnState)
    ∷ (pos 49, errors.InvalidProducerIdMapping) ∷ (pos 50, errors.InvalidTransactionTimeout)
    ∷ (pos 51, errors.ConcurrentTransactions)
    ∷ (pos 53, errors.TransactionalIdAuthorizationFailed) ∷ (pos 55, errors.OperationNotAttempted)
    ∷ (pos 58, errors.SaslAuthenticationFailed) ∷ (pos 76, errors.UnsupportedCompressionType)
    ∷ (pos 81, errors.GroupMaxSizeReached) ∷ (pos 87, errors.InvalidRecord)
    ∷ (pos 88, errors.UnstableOffsetCommit) ∷ (pos 90, errors.ProducerFenced) ∷ []

-- each code is told under its number
abbrev pub NumbersErrors : (ErrorCode → ℤ) → Type 0
NumbersErrors = HasNumbers error_codes

-- each number is read as its code
abbrev pub ReadsErrors : (ℤ → Option ErrorCode) → Type 0
ReadsErrors = ReadsNumbers error_codes

-- ---- isolation levels ("Fetch API (Key: 1)", isolation_level)

-- READ_UNCOMMITTED is 0, and READ_COMMITTED is 1
abbrev pub isolation_levels : List (ℤ × Isolation)
isolation_levels =
    (pos 0, levels.ReadUncommitted) ∷ (pos 1, levels.ReadCommitted) ∷ []

-- each level is written as its number
abbrev pub NumbersLevels : (Isolation → ℤ) → Type 0
NumbersLevels = HasNumbers isolation_levels

-- each number is read as its level
abbrev pub ReadsLevels : (ℤ → Option Isolation) → Type 0
ReadsLevels = ReadsNumbers isolation_levels

-- ---- BOOLEAN ("Protocol Primitive Types")

-- how a BOOLEAN is written
abbrev pub boolean_written : Bool → List ℕ
boolean_written b = boolean.written b

-- the BOOLEAN that stands at the front of bytes
abbrev pub boolean_at : List ℕ → Found Bool
boolean_at bytes = boolean.reading bytes

-- false is written as 0, and true as 1
pub record WritesBooleans (write : Bool → List ℕ) : Type 0 where
  pub no : write false ≡ 0 ∷ []
  pub yes : write true ≡ 1 ∷ []

-- 0 is read as false, and any other byte as true; no byte is no BOOLEAN
pub record ReadsBooleans (read : List ℕ → Found Bool) : Type 0 where
  pub no : (rest : List ℕ) → read (0 ∷ rest) ≡ Ok (false, rest)
  pub yes : (n : ℕ) (rest : List ℕ) → read (suc n ∷ rest) ≡ Ok (true, rest)
  pub missing : read [] ≡ Err Short

-- ---- apis ("Api Keys")

-- a row of the table: the number, the first and the last version that are served, and the first
-- flexible version, if one is up to the last (KIP-482)
abbrev api_row : ℤ → ℤ → ℤ → Option ℤ → ServedApi
api_row number first last flexible =
    record { number = number; first = first; last = last; flexible_from = flexible }

-- each api that is served
abbrev pub served_apis : List (ServedApi × ApiKey)
served_apis =
    (api_row (pos 0) (pos 3) (pos 3) None, keys.Produce)
    ∷ (api_row (pos 1) (pos 4) (pos 4) None, keys.Fetch)
    ∷ (api_row (pos 2) (pos 2) (pos 2) None, keys.ListOffsets)
    ∷ (api_row (pos 3) (pos 1) (pos 1) None, keys.Metadata)
    ∷ (api_row (pos 8) (pos 2) (pos 2) None, keys.OffsetCommit)
    ∷ (api_row (pos 9) (pos 7) (pos 7) (Some (pos 6)), keys.OffsetFetch)
    ∷ (api_row (pos 10) (pos 1) (pos 1) None, keys.FindCoordinator)
    ∷ (api_row (pos 11) (pos 2) (pos 2) None, keys.JoinGroup)
    ∷ (api_row (pos 12) (pos 1) (pos 1) None, keys.Heartbeat)
    ∷ (api_row (pos 13) (pos 1) (pos 1) None, keys.LeaveGroup)
    ∷ (api_row (pos 14) (pos 1) (pos 1) None, keys.SyncGroup)
    ∷ (api_row (pos 17) (pos 1) (pos 1) None, keys.SaslHandshake)
    ∷ (api_row (pos 18) (pos 0) (pos 0) None, keys.ApiVersions)
    ∷ (api_row (pos 22) (pos 0) (pos 0) None, keys.InitProducerId)
    ∷ (api_row (pos 24) (pos 0) (pos 0) None, keys.AddPartitionsToTxn)
    ∷ (api_row (pos 25) (pos 0) (pos 0) None, keys.AddOffsetsToTxn)
    ∷ (api_row (pos 26) (pos 0) (pos 5) (Some (pos 3)), keys.EndTxn)
    ∷ (api_row (pos 28) (pos 3) (pos 3) (Some (pos 3)), keys.TxnOffsetCommit)
    ∷ (api_row (pos 29) (pos 1) (pos 1) None, keys.DescribeAcls)
    ∷ (api_row (pos 30) (pos 1) (pos 1) None, keys.CreateAcls)
    ∷ (api_row (pos 31) (pos 1) (pos 1) None, keys.DeleteAcls)
    ∷ (api_row (pos 36) (pos 0) (pos 0) None, keys.SaslAuthenticate)
    ∷ []

-- each api has its row
abbrev pub ServesApis : (ApiKey → ServedApi) → Type 0
ServesApis = HasNumbers served_apis

-- the api of each number
abbrev pub api_keys : List (ℤ × ApiKey)
api_keys =
    (pos 0, keys.Produce) ∷ (pos 1, keys.Fetch) ∷ (pos 2, keys.ListOffsets)
    ∷ (pos 3, keys.Metadata) ∷ (pos 8, keys.OffsetCommit) ∷ (pos 9, keys.OffsetFetch)
    ∷ (pos 10, keys.FindCoordinator) ∷ (pos 11, keys.JoinGroup) ∷ (pos 12, keys.Heartbeat)
    ∷ (pos 13, keys.LeaveGroup) ∷ (pos 14, keys.SyncGroup) ∷ (pos 17, keys.SaslHandshake)
    ∷ (pos 18, keys.ApiVersions) ∷ (pos 22, keys.InitProducerId)
    ∷ (pos 24, keys.AddPartitionsToTxn) ∷ (pos 25, keys.AddOffsetsToTxn) ∷ (pos 26, keys.EndTxn)
    ∷ (pos 28, keys.TxnOffsetCommit) ∷ (pos 29, keys.DescribeAcls) ∷ (pos 30, keys.CreateAcls)
    ∷ (pos 31, keys.DeleteAcls) ∷ (pos 36, keys.SaslAuthenticate) ∷ []

-- each number is read as its api, and any other is none
abbrev pub ReadsApis : (ℤ → Option ApiKey) → Type 0
ReadsApis = ReadsNumbers api_keys
