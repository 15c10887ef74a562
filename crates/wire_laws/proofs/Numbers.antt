-- The tables of numbers: no other rule has them.
use Rattle.std.proofs.Common.{◌≡◌, ◌≢◌, ◌==◌, arith, ℕ, zero, suc, ℤ, pos, negsuc, [], ◌∷◌, Bool, true, false, None, refl, ap}
use Rattle.std.specs.Prelude.{Ok, Err}
use Rattle.std.proofs.lemmas.Bool.Decides.{Decides-int_eq}
use Rattle.std.proofs.lemmas.Slice.Eq.{bytes_eq-Decides}
use Rattle.std.specs.Ordering.{int_eq}
use Rattle.std.specs.Str.{bytes_eq}
use Rattle.wire_types.specs.declared.error_code.ErrorCode.TheVariants as errors
use Rattle.wire_types.specs.ErrorCode.{number_of, all_codes, code_of}
use Rattle.wire_types.specs.Reading.{Found, bool_at}
use Rattle.wire_types.specs.Spelling.{bool_written}
use Rattle.msg_data.specs.declared.isolation.Isolation.TheVariants as levels
use Rattle.msg_data.specs.Isolation.{level_of, isolation_of}
use Rattle.msg_admin.specs.declared.api_key.ApiKey.TheVariants as keys
use Rattle.msg_admin.specs.ApiKey.{served_api, number_of as key_number, all_keys, key_at}
use Rattle.acl_binding.specs.declared.words.Kind.TheVariants as kinds
use Rattle.acl_binding.specs.declared.words.Pattern.TheVariants as patterns
use Rattle.acl_binding.specs.declared.words.Operation.TheVariants as operation
use Rattle.acl_binding.specs.declared.words.Permission.TheVariants as permissions
use Rattle.acl_binding.specs.declared.filter.FilterPattern.TheVariants as wanted
use Rattle.acl_binding.specs.WireNumbers.{kind_code, pattern_code, filter_pattern_code, operation_code, permission_code, kind_at, pattern_at, filter_pattern_at, operation_at, permission_at, all_filter_patterns}
use Rattle.acl_binding.specs.Names.{kind_name, pattern_name, operation_name, permission_name, kind_named, pattern_named, operation_named, permission_named, all_kinds, all_patterns, all_operations, all_permissions}
use Rattle.wire_laws.specs.Tables.{IsTheOnly}
use Rattle.wire_laws.specs.Numbers.{error_codes, NumbersErrors, ReadsErrors, isolation_levels, NumbersLevels, ReadsLevels, boolean_written, boolean_at, WritesBooleans, ReadsBooleans, ServesApis, api_keys, ReadsApis}
use Rattle.wire_laws.specs.AclNumbers.{resource_types, NumbersKinds, ReadsKinds, pattern_types, NumbersPatterns, ReadsPatterns, filter_pattern_types, NumbersFilterPatterns, ReadsFilterPatterns, operations, NumbersOperations, ReadsOperations, permission_types, NumbersPermissions, ReadsPermissions, resource_names, NamesKinds, ReadsNamesOfKinds, pattern_names, NamesPatterns, ReadsNamesOfPatterns, operation_names, NamesOperations, ReadsNamesOfOperations, permission_names, NamesPermissions, ReadsNamesOfPermissions}
use Rattle.wire_laws.specs.WrongNumbers.{booleans_read_inverted, booleans_above_1_refused}
use Rattle.wire_laws.proofs.Tables.{one_reader, misses}

-- ---- each word has its row

pub errors-told : NumbersErrors number_of
unfolding number_of
errors-told = (refl, (refl, (refl, (refl, (refl, (refl, (refl, (refl, (refl, (refl, (refl, (refl, (refl, (refl, (refl, (refl, (refl, (refl, (refl, (refl, (refl, (refl, (refl, (refl, (refl, (refl, (refl, (refl, (refl, (refl, (refl, (refl, (refl, (refl, tt))))))))))))))))))))))))))))))))))

pub errors-told-only : IsTheOnly NumbersErrors number_of
unfolding number_of
errors-told-only rule law errors.None = law.0
errors-told-only rule law errors.OffsetOutOfRange = law.1.0
errors-told-only rule law errors.CorruptMessage = law.1.1.0
errors-told-only rule law errors.UnknownTopicOrPartition = law.1.1.1.0
errors-told-only rule law errors.MessageTooLarge = law.1.1.1.1.0
errors-told-only rule law errors.InvalidRequiredAcks = law.1.1.1.1.1.0
errors-told-only rule law errors.IllegalGeneration = law.1.1.1.1.1.1.0
errors-told-only rule law errors.InconsistentGroupProtocol = law.1.1.1.1.1.1.1.0
errors-told-only rule law errors.InvalidGroupId = law.1.1.1.1.1.1.1.1.0
errors-told-only rule law errors.UnknownMemberId = law.1.1.1.1.1.1.1.1.1.0
errors-told-only rule law errors.InvalidSessionTimeout = law.1.1.1.1.1.1.1.1.1.1.0
errors-told-only rule law errors.RebalanceInProgress = law.1.1.1.1.1.1.1.1.1.1.1.0
errors-told-only rule law errors.TopicAuthorizationFailed = law.1.1.1.1.1.1.1.1.1.1.1.1.0
errors-told-only rule law errors.GroupAuthorizationFailed = law.1.1.1.1.1.1.1.1.1.1.1.1.1.0
errors-told-only rule law errors.ClusterAuthorizationFailed = law.1.1.1.1.1.1.1.1.1.1.1.1.1.1.0
errors-told-only rule law errors.InvalidTimestamp = law.1.1.1.1.1.1.1.1.1.1.1.1.1.1.1.0
errors-told-only rule law errors.UnsupportedSaslMechanism = law.1.1.1.1.1.1.1.1.1.1.1.1.1.1.1.1.0
errors-told-only rule law errors.IllegalSaslState = law.1.1.1.1.1.1.1.1.1.1.1.1.1.1.1.1.1.0
errors-told-only rule law errors.UnsupportedVersion = law.1.1.1.1.1.1.1.1.1.1.1.1.1.1.1.1.1.1.0
errors-told-only rule law errors.InvalidRequest = law.1.1.1.1.1.1.1.1.1.1.1.1.1.1.1.1.1.1.1.0
errors-told-only rule law errors.OutOfOrderSequenceNumber = law.1.1.1.1.1.1.1.1.1.1.1.1.1.1.1.1.1.1.1.1.0
errors-told-only rule law errors.InvalidProducerEpoch = law.1.1.1.1.1.1.1.1.1.1.1.1.1.1.1.1.1.1.1.1.1.0
errors-told-only rule law errors.InvalidTxnState = law.1.1.1.1.1.1.1.1.1.1.1.1.1.1.1.1.1.1.1.1.1.1.0
errors-told-only rule law errors.InvalidProducerIdMapping = law.1.1.1.1.1.1.1.1.1.1.1.1.1.1.1.1.1.1.1.1.1.1.1.0
errors-told-only rule law errors.InvalidTransactionTimeout = law.1.1.1.1.1.1.1.1.1.1.1.1.1.1.1.1.1.1.1.1.1.1.1.1.0
errors-told-only rule law errors.ConcurrentTransactions = law.1.1.1.1.1.1.1.1.1.1.1.1.1.1.1.1.1.1.1.1.1.1.1.1.1.0
errors-told-only rule law errors.TransactionalIdAuthorizationFailed = law.1.1.1.1.1.1.1.1.1.1.1.1.1.1.1.1.1.1.1.1.1.1.1.1.1.1.0
errors-told-only rule law errors.OperationNotAttempted = law.1.1.1.1.1.1.1.1.1.1.1.1.1.1.1.1.1.1.1.1.1.1.1.1.1.1.1.0
errors-told-only rule law errors.SaslAuthenticationFailed = law.1.1.1.1.1.1.1.1.1.1.1.1.1.1.1.1.1.1.1.1.1.1.1.1.1.1.1.1.0
errors-told-only rule law errors.UnsupportedCompressionType = law.1.1.1.1.1.1.1.1.1.1.1.1.1.1.1.1.1.1.1.1.1.1.1.1.1.1.1.1.1.0
errors-told-only rule law errors.GroupMaxSizeReached = law.1.1.1.1.1.1.1.1.1.1.1.1.1.1.1.1.1.1.1.1.1.1.1.1.1.1.1.1.1.1.0
errors-told-only rule law errors.InvalidRecord = law.1.1.1.1.1.1.1.1.1.1.1.1.1.1.1.1.1.1.1.1.1.1.1.1.1.1.1.1.1.1.1.0
errors-told-only rule law errors.UnstableOffsetCommit = law.1.1.1.1.1.1.1.1.1.1.1.1.1.1.1.1.1.1.1.1.1.1.1.1.1.1.1.1.1.1.1.1.0
errors-told-only rule law errors.ProducerFenced = law.1.1.1.1.1.1.1.1.1.1.1.1.1.1.1.1.1.1.1.1.1.1.1.1.1.1.1.1.1.1.1.1.1.0

pub errors-read : ReadsErrors code_of
unfolding code_of all_codes number_of
errors-read = record { words = (refl, (refl, (refl, (refl, (refl, (refl, (refl, (refl, (refl, (refl, (refl, (refl, (refl, (refl, (refl, (refl, (refl, (refl, (refl, (refl, (refl, (refl, (refl, (refl, (refl, (refl, (refl, (refl, (refl, (refl, (refl, (refl, (refl, (refl, tt)))))))))))))))))))))))))))))))))); nothing = λ n aside. misses int_eq Decides-int_eq number_of all_codes n aside }

pub errors-read-only : IsTheOnly ReadsErrors code_of
errors-read-only = one_reader int_eq Decides-int_eq error_codes code_of errors-read

pub levels-told : NumbersLevels level_of
levels-told = (refl, (refl, tt))

pub levels-told-only : IsTheOnly NumbersLevels level_of
levels-told-only rule law levels.ReadUncommitted = law.0
levels-told-only rule law levels.ReadCommitted = law.1.0

levels-aside : (n : ℤ) → (n ≢ pos 0) × ((n ≢ pos 1) × Unit {0}) → isolation_of n ≡ None
unfolding isolation_of
levels-aside (pos zero) aside = absurd (aside.0 refl)
levels-aside (pos (suc zero)) aside = absurd (aside.1.0 refl)
levels-aside (pos (suc (suc n))) aside = refl
levels-aside (negsuc n) aside = refl

pub levels-read : ReadsLevels isolation_of
unfolding isolation_of
levels-read = record { words = (refl, (refl, tt)); nothing = levels-aside }

pub levels-read-only : IsTheOnly ReadsLevels isolation_of
levels-read-only = one_reader int_eq Decides-int_eq isolation_levels isolation_of levels-read

pub booleans-told : WritesBooleans boolean_written
unfolding bool_written
booleans-told = record { no = refl; yes = refl }

pub booleans-told-only : IsTheOnly WritesBooleans boolean_written
unfolding bool_written
booleans-told-only rule law false = law.no
booleans-told-only rule law true = law.yes

is_positive : (n : ℕ) → (suc n == 0) ≡ false
is_positive n = grind arith

pub booleans-read : ReadsBooleans boolean_at
unfolding bool_at
booleans-read = record { no = λ rest. refl; yes = λ n rest. rw (is_positive n) refl; missing = refl }

-- what is read as a BOOLEAN, if anything is
abbrev read_as : Found Bool → Bool
read_as (Ok x) = x.0
read_as (Err e) = false

pub booleans-read-not-inverted : ¬ ReadsBooleans booleans_read_inverted
unfolding bool_at
booleans-read-not-inverted law = let clash : true ≡ false = ap read_as (law.no []) in cc

pub booleans-read-not-refused : ¬ ReadsBooleans booleans_above_1_refused
booleans-read-not-refused law = let clash : false ≡ true = ap read_as (law.yes 1 []) in cc

pub booleans-read-only : IsTheOnly ReadsBooleans boolean_at
unfolding bool_at
booleans-read-only rule law [] = law.missing
booleans-read-only rule law (zero ∷ rest) = law.no rest
booleans-read-only rule law (suc n ∷ rest) = rw (is_positive n) (law.yes n rest)

pub apis-told : ServesApis served_api
apis-told = (refl, (refl, (refl, (refl, (refl, (refl, (refl, (refl, (refl, (refl, (refl, (refl, (refl, (refl, (refl, (refl, (refl, (refl, (refl, (refl, (refl, (refl, tt))))))))))))))))))))))

pub apis-told-only : IsTheOnly ServesApis served_api
apis-told-only rule law keys.Produce = law.0
apis-told-only rule law keys.Fetch = law.1.0
apis-told-only rule law keys.ListOffsets = law.1.1.0
apis-told-only rule law keys.Metadata = law.1.1.1.0
apis-told-only rule law keys.OffsetCommit = law.1.1.1.1.0
apis-told-only rule law keys.OffsetFetch = law.1.1.1.1.1.0
apis-told-only rule law keys.FindCoordinator = law.1.1.1.1.1.1.0
apis-told-only rule law keys.JoinGroup = law.1.1.1.1.1.1.1.0
apis-told-only rule law keys.Heartbeat = law.1.1.1.1.1.1.1.1.0
apis-told-only rule law keys.LeaveGroup = law.1.1.1.1.1.1.1.1.1.0
apis-told-only rule law keys.SyncGroup = law.1.1.1.1.1.1.1.1.1.1.0
apis-told-only rule law keys.SaslHandshake = law.1.1.1.1.1.1.1.1.1.1.1.0
apis-told-only rule law keys.ApiVersions = law.1.1.1.1.1.1.1.1.1.1.1.1.0
apis-told-only rule law keys.InitProducerId = law.1.1.1.1.1.1.1.1.1.1.1.1.1.0
apis-told-only rule law keys.AddPartitionsToTxn = law.1.1.1.1.1.1.1.1.1.1.1.1.1.1.0
apis-told-only rule law keys.AddOffsetsToTxn = law.1.1.1.1.1.1.1.1.1.1.1.1.1.1.1.0
apis-told-only rule law keys.EndTxn = law.1.1.1.1.1.1.1.1.1.1.1.1.1.1.1.1.0
apis-told-only rule law keys.TxnOffsetCommit = law.1.1.1.1.1.1.1.1.1.1.1.1.1.1.1.1.1.0
apis-told-only rule law keys.DescribeAcls = law.1.1.1.1.1.1.1.1.1.1.1.1.1.1.1.1.1.1.0
apis-told-only rule law keys.CreateAcls = law.1.1.1.1.1.1.1.1.1.1.1.1.1.1.1.1.1.1.1.0
apis-told-only rule law keys.DeleteAcls = law.1.1.1.1.1.1.1.1.1.1.1.1.1.1.1.1.1.1.1.1.0
apis-told-only rule law keys.SaslAuthenticate = law.1.1.1.1.1.1.1.1.1.1.1.1.1.1.1.1.1.1.1.1.1.0

pub apis-read : ReadsApis key_at
unfolding key_at all_keys
apis-read = record { words = (refl, (refl, (refl, (refl, (refl, (refl, (refl, (refl, (refl, (refl, (refl, (refl, (refl, (refl, (refl, (refl, (refl, (refl, (refl, (refl, (refl, (refl, tt)))))))))))))))))))))); nothing = λ n aside. misses int_eq Decides-int_eq key_number all_keys n aside }

pub apis-read-only : IsTheOnly ReadsApis key_at
apis-read-only = one_reader int_eq Decides-int_eq api_keys key_at apis-read

pub kinds-told : NumbersKinds kind_code
unfolding kind_code
kinds-told = (refl, (refl, (refl, (refl, tt))))

pub kinds-told-only : IsTheOnly NumbersKinds kind_code
unfolding kind_code
kinds-told-only rule law kinds.Topic = law.0
kinds-told-only rule law kinds.Group = law.1.0
kinds-told-only rule law kinds.Cluster = law.1.1.0
kinds-told-only rule law kinds.TransactionalId = law.1.1.1.0

pub kinds-read : ReadsKinds kind_at
unfolding kind_at kind_code
kinds-read = record { words = (refl, (refl, (refl, (refl, tt)))); nothing = λ n aside. misses int_eq Decides-int_eq kind_code all_kinds n aside }

pub kinds-read-only : IsTheOnly ReadsKinds kind_at
kinds-read-only = one_reader int_eq Decides-int_eq resource_types kind_at kinds-read

pub patterns-told : NumbersPatterns pattern_code
unfolding pattern_code
patterns-told = (refl, (refl, tt))

pub patterns-told-only : IsTheOnly NumbersPatterns pattern_code
unfolding pattern_code
patterns-told-only rule law patterns.Literal = law.0
patterns-told-only rule law patterns.Prefixed = law.1.0

pub patterns-read : ReadsPatterns pattern_at
unfolding pattern_at pattern_code
patterns-read = record { words = (refl, (refl, tt)); nothing = λ n aside. misses int_eq Decides-int_eq pattern_code all_patterns n aside }

pub patterns-read-only : IsTheOnly ReadsPatterns pattern_at
patterns-read-only = one_reader int_eq Decides-int_eq pattern_types pattern_at patterns-read

pub filter_patterns-told : NumbersFilterPatterns filter_pattern_code
unfolding filter_pattern_code
filter_patterns-told = (refl, (refl, (refl, (refl, tt))))

pub filter_patterns-told-only : IsTheOnly NumbersFilterPatterns filter_pattern_code
unfolding filter_pattern_code
filter_patterns-told-only rule law wanted.Any = law.0
filter_patterns-told-only rule law wanted.Match = law.1.0
filter_patterns-told-only rule law wanted.Literal = law.1.1.0
filter_patterns-told-only rule law wanted.Prefixed = law.1.1.1.0

pub filter_patterns-read : ReadsFilterPatterns filter_pattern_at
unfolding filter_pattern_at filter_pattern_code
filter_patterns-read = record { words = (refl, (refl, (refl, (refl, tt)))); nothing = λ n aside. misses int_eq Decides-int_eq filter_pattern_code all_filter_patterns n aside }

pub filter_patterns-read-only : IsTheOnly ReadsFilterPatterns filter_pattern_at
filter_patterns-read-only = one_reader int_eq Decides-int_eq filter_pattern_types filter_pattern_at filter_patterns-read

pub operations-told : NumbersOperations operation_code
unfolding operation_code
operations-told = (refl, (refl, (refl, (refl, (refl, (refl, (refl, (refl, (refl, (refl, (refl, tt)))))))))))

pub operations-told-only : IsTheOnly NumbersOperations operation_code
unfolding operation_code
operations-told-only rule law operation.All = law.0
operations-told-only rule law operation.Read = law.1.0
operations-told-only rule law operation.Write = law.1.1.0
operations-told-only rule law operation.Create = law.1.1.1.0
operations-told-only rule law operation.Delete = law.1.1.1.1.0
operations-told-only rule law operation.Alter = law.1.1.1.1.1.0
operations-told-only rule law operation.Describe = law.1.1.1.1.1.1.0
operations-told-only rule law operation.ClusterAction = law.1.1.1.1.1.1.1.0
operations-told-only rule law operation.DescribeConfigs = law.1.1.1.1.1.1.1.1.0
operations-told-only rule law operation.AlterConfigs = law.1.1.1.1.1.1.1.1.1.0
operations-told-only rule law operation.IdempotentWrite = law.1.1.1.1.1.1.1.1.1.1.0

pub operations-read : ReadsOperations operation_at
unfolding operation_at operation_code
operations-read = record { words = (refl, (refl, (refl, (refl, (refl, (refl, (refl, (refl, (refl, (refl, (refl, tt))))))))))); nothing = λ n aside. misses int_eq Decides-int_eq operation_code all_operations n aside }

pub operations-read-only : IsTheOnly ReadsOperations operation_at
operations-read-only = one_reader int_eq Decides-int_eq operations operation_at operations-read

pub permissions-told : NumbersPermissions permission_code
unfolding permission_code
permissions-told = (refl, (refl, tt))

pub permissions-told-only : IsTheOnly NumbersPermissions permission_code
unfolding permission_code
permissions-told-only rule law permissions.Deny = law.0
permissions-told-only rule law permissions.Allow = law.1.0

pub permissions-read : ReadsPermissions permission_at
unfolding permission_at permission_code
permissions-read = record { words = (refl, (refl, tt)); nothing = λ n aside. misses int_eq Decides-int_eq permission_code all_permissions n aside }

pub permissions-read-only : IsTheOnly ReadsPermissions permission_at
permissions-read-only = one_reader int_eq Decides-int_eq permission_types permission_at permissions-read

pub kind-names : NamesKinds kind_name
kind-names = (refl, (refl, (refl, (refl, tt))))

pub kind-names-only : IsTheOnly NamesKinds kind_name
kind-names-only rule law kinds.Topic = law.0
kind-names-only rule law kinds.Group = law.1.0
kind-names-only rule law kinds.Cluster = law.1.1.0
kind-names-only rule law kinds.TransactionalId = law.1.1.1.0

pub kind-names-read : ReadsNamesOfKinds kind_named
kind-names-read = record { words = (refl, (refl, (refl, (refl, tt)))); nothing = λ n aside. misses bytes_eq bytes_eq-Decides kind_name all_kinds n aside }

pub kind-names-read-only : IsTheOnly ReadsNamesOfKinds kind_named
kind-names-read-only = one_reader bytes_eq bytes_eq-Decides resource_names kind_named kind-names-read

pub pattern-names : NamesPatterns pattern_name
pattern-names = (refl, (refl, tt))

pub pattern-names-only : IsTheOnly NamesPatterns pattern_name
pattern-names-only rule law patterns.Literal = law.0
pattern-names-only rule law patterns.Prefixed = law.1.0

pub pattern-names-read : ReadsNamesOfPatterns pattern_named
pattern-names-read = record { words = (refl, (refl, tt)); nothing = λ n aside. misses bytes_eq bytes_eq-Decides pattern_name all_patterns n aside }

pub pattern-names-read-only : IsTheOnly ReadsNamesOfPatterns pattern_named
pattern-names-read-only = one_reader bytes_eq bytes_eq-Decides pattern_names pattern_named pattern-names-read

pub operation-names : NamesOperations operation_name
operation-names = (refl, (refl, (refl, (refl, (refl, (refl, (refl, (refl, (refl, (refl, (refl, tt)))))))))))

pub operation-names-only : IsTheOnly NamesOperations operation_name
operation-names-only rule law operation.All = law.0
operation-names-only rule law operation.Read = law.1.0
operation-names-only rule law operation.Write = law.1.1.0
operation-names-only rule law operation.Create = law.1.1.1.0
operation-names-only rule law operation.Delete = law.1.1.1.1.0
operation-names-only rule law operation.Alter = law.1.1.1.1.1.0
operation-names-only rule law operation.Describe = law.1.1.1.1.1.1.0
operation-names-only rule law operation.ClusterAction = law.1.1.1.1.1.1.1.0
operation-names-only rule law operation.DescribeConfigs = law.1.1.1.1.1.1.1.1.0
operation-names-only rule law operation.AlterConfigs = law.1.1.1.1.1.1.1.1.1.0
operation-names-only rule law operation.IdempotentWrite = law.1.1.1.1.1.1.1.1.1.1.0

pub operation-names-read : ReadsNamesOfOperations operation_named
operation-names-read = record { words = (refl, (refl, (refl, (refl, (refl, (refl, (refl, (refl, (refl, (refl, (refl, tt))))))))))); nothing = λ n aside. misses bytes_eq bytes_eq-Decides operation_name all_operations n aside }

pub operation-names-read-only : IsTheOnly ReadsNamesOfOperations operation_named
operation-names-read-only = one_reader bytes_eq bytes_eq-Decides operation_names operation_named operation-names-read

pub permission-names : NamesPermissions permission_name
permission-names = (refl, (refl, tt))

pub permission-names-only : IsTheOnly NamesPermissions permission_name
permission-names-only rule law permissions.Deny = law.0
permission-names-only rule law permissions.Allow = law.1.0

pub permission-names-read : ReadsNamesOfPermissions permission_named
permission-names-read = record { words = (refl, (refl, tt)); nothing = λ n aside. misses bytes_eq bytes_eq-Decides permission_name all_permissions n aside }

pub permission-names-read-only : IsTheOnly ReadsNamesOfPermissions permission_named
permission-names-read-only = one_reader bytes_eq bytes_eq-Decides permission_names permission_named permission-names-read
