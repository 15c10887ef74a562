-- The error codes that are answered, under the names and numbers of the Kafka protocol guide
-- ("Error Codes").
use Rattle.std.specs.Prelude.{◌≡◌, ℤ, pos, List, [], ◌∷◌, Option, Some, refl}
use Rattle.std.specs.List.{find}
use Rattle.std.specs.Ordering.{int_eq}
use Rattle.std.proofs.lemmas.Bool.Decides.{Decides-int_eq}
use Rattle.wire_types.specs.Grammar.{Grammar}
use Rattle.wire_types.specs.Schema.{int16}
use Rattle.wire_types.specs.CodedLaws.{find-passes}
use Rattle.wire_types.specs.Coded.{coded_value}
use Rattle.wire_types.specs.declared.error_code.ErrorCode.{ErrorCode}
use Rattle.wire_types.specs.declared.error_code.ErrorCode.TheVariants as codes

unfoldable pub number_of : ErrorCode → ℤ
number_of codes.None = pos 0
number_of codes.OffsetOutOfRange = pos 1
number_of codes.CorruptMessage = pos 2
number_of codes.UnknownTopicOrPartition = pos 3
number_of codes.MessageTooLarge = pos 10
number_of codes.InvalidRequiredAcks = pos 21
number_of codes.IllegalGeneration = pos 22
number_of codes.InconsistentGroupProtocol = pos 23
number_of codes.InvalidGroupId = pos 24
number_of codes.UnknownMemberId = pos 25
number_of codes.InvalidSessionTimeout = pos 26
number_of codes.RebalanceInProgress = pos 27
number_of codes.TopicAuthorizationFailed = pos 29
number_of codes.GroupAuthorizationFailed = pos 30
number_of codes.ClusterAuthorizationFailed = pos 31
number_of codes.InvalidTimestamp = pos 32
number_of codes.UnsupportedSaslMechanism = pos 33
number_of codes.IllegalSaslState = pos 34
number_of codes.UnsupportedVersion = pos 35
number_of codes.InvalidRequest = pos 42
number_of codes.OutOfOrderSequenceNumber = pos 45
number_of codes.InvalidProducerEpoch = pos 47
number_of codes.InvalidTxnState = pos 48
number_of codes.InvalidProducerIdMapping = pos 49
number_of codes.InvalidTransactionTimeout = pos 50
number_of codes.ConcurrentTransactions = pos 51
number_of codes.TransactionalIdAuthorizationFailed = pos 53
number_of codes.OperationNotAttempted = pos 55
number_of codes.SaslAuthenticationFailed = pos 58
number_of codes.UnsupportedCompressionType = pos 76
number_of codes.GroupMaxSizeReached = pos 81
number_of codes.InvalidRecord = pos 87
number_of codes.UnstableOffsetCommit = pos 88
number_of codes.ProducerFenced = pos 90

-- every code
unfoldable pub all_codes : List ErrorCode
all_codes =
    codes.None ∷ codes.OffsetOutOfRange ∷ codes.CorruptMessage ∷ codes.UnknownTopicOrPartition
    ∷ codes.MessageTooLarge
    ∷ codes.InvalidRequiredAcks ∷ codes.IllegalGeneration ∷ codes.InconsistentGroupProtocol
    ∷ codes.InvalidGroupId
    ∷ codes.UnknownMemberId ∷ codes.InvalidSessionTimeout ∷ codes.RebalanceInProgress
    ∷ codes.TopicAuthorizationFailed
    ∷ codes.GroupAuthorizationFailed ∷ codes.ClusterAuthorizationFailed ∷ codes.InvalidTimestamp
    ∷ codes.UnsupportedSaslMechanism ∷ codes.IllegalSaslState ∷ codes.UnsupportedVersion
    ∷ codes.InvalidRequest
    ∷ codes.OutOfOrderSequenceNumber ∷ codes.InvalidProducerEpoch ∷ codes.InvalidTxnState
    ∷ codes.InvalidProducerIdMapping
    ∷ codes.InvalidTransactionTimeout ∷ codes.ConcurrentTransactions
    ∷ codes.TransactionalIdAuthorizationFailed
    ∷ codes.OperationNotAttempted ∷ codes.SaslAuthenticationFailed
    ∷ codes.UnsupportedCompressionType
    ∷ codes.GroupMaxSizeReached ∷ codes.InvalidRecord ∷ codes.UnstableOffsetCommit
    ∷ codes.ProducerFenced ∷ []

-- the code that a number tells, if it tells one
unfoldable pub code_of : ℤ → Option ErrorCode
code_of number = find (λ code. int_eq (number_of code) number) all_codes

pub code_of-number_of : (code : ErrorCode) → code_of (number_of code) ≡ Some code
unfolding code_of all_codes number_of
code_of-number_of codes.None = refl
code_of-number_of _ = refl

pub number_of-code_of : (number : ℤ) (code : ErrorCode) → code_of number ≡ Some code
    → number_of code ≡ number
unfolding code_of
number_of-code_of number code e =
    (Decides-int_eq (number_of code) number).0
    (find-passes (λ c. int_eq (number_of c) number) all_codes code e)

-- INT16
abbrev pub error_code : Grammar ErrorCode
error_code = coded_value number_of code_of code_of-number_of number_of-code_of int16
