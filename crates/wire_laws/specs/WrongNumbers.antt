-- Wrong tables of numbers: each is the right one, but that two of its words are taken for each
-- other.
use Rattle.std.specs.Prelude.{ℕ, zero, suc, ℤ, pos, List, [], ◌∷◌, Bool, true, false, not, Option, Some, Ok, Err}
use Rattle.std.specs.Option.{option_map}
use Rattle.wire_types.specs.declared.error_code.ErrorCode.{ErrorCode}
use Rattle.wire_types.specs.declared.error_code.ErrorCode.TheVariants as errors
use Rattle.wire_types.specs.ErrorCode.{number_of, code_of}
use Rattle.wire_types.specs.declared.fault.Malformed.TheVariants.{Short, Range}
use Rattle.wire_types.specs.Reading.{Found, ◌>>=◌}
use Rattle.wire_types.specs.Schema.{boolean}
use Rattle.msg_data.specs.declared.isolation.Isolation.{Isolation}
use Rattle.msg_data.specs.declared.isolation.Isolation.TheVariants as levels
use Rattle.msg_data.specs.Isolation.{level_of, isolation_of}
use Rattle.msg_admin.specs.declared.api_key.ApiKey.{ApiKey}
use Rattle.msg_admin.specs.declared.api_key.ApiKey.TheVariants as keys
use Rattle.msg_admin.specs.declared.api_key.ServedApi.{ServedApi}
use Rattle.msg_admin.specs.ApiKey.{served_api, key_at}

-- each of the two is the other
abbrev pub other_of_corrupt_and_invalid : ErrorCode → ErrorCode
other_of_corrupt_and_invalid errors.CorruptMessage = errors.InvalidRecord
other_of_corrupt_and_invalid errors.InvalidRecord = errors.CorruptMessage
other_of_corrupt_and_invalid word = word

-- 2 (CORRUPT_MESSAGE) and 87 (INVALID_RECORD) are told for each other
abbrev pub corrupt_and_invalid_numbers_swapped : ErrorCode → ℤ
corrupt_and_invalid_numbers_swapped word =
    number_of (other_of_corrupt_and_invalid word)

-- 2 (CORRUPT_MESSAGE) and 87 (INVALID_RECORD) are read for each other
abbrev pub corrupt_and_invalid_read_swapped : ℤ → Option ErrorCode
corrupt_and_invalid_read_swapped number =
    option_map other_of_corrupt_and_invalid (code_of number)

-- each of the two is the other
abbrev pub other_of_version_and_mechanism : ErrorCode → ErrorCode
other_of_version_and_mechanism errors.UnsupportedVersion = errors.UnsupportedSaslMechanism
other_of_version_and_mechanism errors.UnsupportedSaslMechanism = errors.UnsupportedVersion
other_of_version_and_mechanism word = word

-- 35 (UNSUPPORTED_VERSION) and 33 (UNSUPPORTED_SASL_MECHANISM) are told for each other
abbrev pub version_and_mechanism_numbers_swapped : ErrorCode → ℤ
version_and_mechanism_numbers_swapped word =
    number_of (other_of_version_and_mechanism word)

-- 35 (UNSUPPORTED_VERSION) and 33 (UNSUPPORTED_SASL_MECHANISM) are read for each other
abbrev pub version_and_mechanism_read_swapped : ℤ → Option ErrorCode
version_and_mechanism_read_swapped number =
    option_map other_of_version_and_mechanism (code_of number)

-- each of the two is the other
abbrev pub other_of_fenced_and_epoch : ErrorCode → ErrorCode
other_of_fenced_and_epoch errors.ProducerFenced = errors.InvalidProducerEpoch
other_of_fenced_and_epoch errors.InvalidProducerEpoch = errors.ProducerFenced
other_of_fenced_and_epoch word = word

-- 90 (PRODUCER_FENCED) and 47 (INVALID_PRODUCER_EPOCH) are told for each other
abbrev pub fenced_and_epoch_numbers_swapped : ErrorCode → ℤ
fenced_and_epoch_numbers_swapped word =
    number_of (other_of_fenced_and_epoch word)

-- 90 (PRODUCER_FENCED) and 47 (INVALID_PRODUCER_EPOCH) are read for each other
abbrev pub fenced_and_epoch_read_swapped : ℤ → Option ErrorCode
fenced_and_epoch_read_swapped number =
    option_map other_of_fenced_and_epoch (code_of number)

-- each of the two is the other
abbrev pub other_of_level : Isolation → Isolation
other_of_level levels.ReadUncommitted = levels.ReadCommitted
other_of_level levels.ReadCommitted = levels.ReadUncommitted

-- 0 (READ_UNCOMMITTED) and 1 (READ_COMMITTED) are told for each other
abbrev pub level_numbers_swapped : Isolation → ℤ
level_numbers_swapped word =
    level_of (other_of_level word)

-- 0 (READ_UNCOMMITTED) and 1 (READ_COMMITTED) are read for each other
abbrev pub level_read_swapped : ℤ → Option Isolation
level_read_swapped number =
    option_map other_of_level (isolation_of number)

-- each of the two is the other
abbrev pub other_of_heartbeat_and_leave : ApiKey → ApiKey
other_of_heartbeat_and_leave keys.Heartbeat = keys.LeaveGroup
other_of_heartbeat_and_leave keys.LeaveGroup = keys.Heartbeat
other_of_heartbeat_and_leave word = word

-- the api keys 12 (Heartbeat) and 13 (LeaveGroup) are told for each other
abbrev pub heartbeat_and_leave_numbers_swapped : ApiKey → ServedApi
heartbeat_and_leave_numbers_swapped key =
    record (served_api key) { number = (served_api (other_of_heartbeat_and_leave key)).number }

-- the api keys 12 (Heartbeat) and 13 (LeaveGroup) are read for each other
abbrev pub heartbeat_and_leave_read_swapped : ℤ → Option ApiKey
heartbeat_and_leave_read_swapped number =
    option_map other_of_heartbeat_and_leave (key_at number)

-- an EndTxn is flexible from version 4 on
abbrev pub end_txn_flexible_from_4 : ApiKey → ServedApi
end_txn_flexible_from_4 keys.EndTxn =
    record (served_api keys.EndTxn) { flexible_from = Some (pos 4) }
end_txn_flexible_from_4 key = served_api key

-- a BOOLEAN is written as 0 where it is true
abbrev pub booleans_inverted : Bool → List ℕ
booleans_inverted b = boolean.written (not b)

-- a BOOLEAN is read as true where it is 0
abbrev pub booleans_read_inverted : List ℕ → Found Bool
booleans_read_inverted bytes = boolean.reading bytes >>= λ b. Ok (not b.0, b.1)

-- a BOOLEAN is read as true where it is 1, and any byte above is none
abbrev pub booleans_above_1_refused : List ℕ → Found Bool
booleans_above_1_refused [] = Err Short
booleans_above_1_refused (zero ∷ rest) = Ok (false, rest)
booleans_above_1_refused (suc zero ∷ rest) = Ok (true, rest)
booleans_above_1_refused (suc (suc n) ∷ rest) = Err Range
