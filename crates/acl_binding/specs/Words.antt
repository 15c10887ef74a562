-- The numbers that the protocol gives the words of a binding (Kafka, ResourceType, PatternType,
-- AclOperation and AclPermissionType; KIP-140, KIP-290).
use Rattle.std.specs.Prelude.{ℕ}
use Rattle.acl_binding.specs.declared.words.Kind.{Kind}
use Rattle.acl_binding.specs.declared.words.Kind.TheVariants.{Topic, Group, Cluster, TransactionalId}
use Rattle.acl_binding.specs.declared.words.Pattern.{Pattern}
use Rattle.acl_binding.specs.declared.words.Pattern.TheVariants.{Literal, Prefixed}
use Rattle.acl_binding.specs.declared.words.Operation.{Operation}
use Rattle.acl_binding.specs.declared.words.Operation.TheVariants.{All, Read, Write, Create, Delete, Alter, Describe, ClusterAction, DescribeConfigs, AlterConfigs, IdempotentWrite}
use Rattle.acl_binding.specs.declared.words.Permission.{Permission}
use Rattle.acl_binding.specs.declared.words.Permission.TheVariants.{Deny, Allow}

abbrev pub kind_number : Kind → ℕ
kind_number Topic = 2
kind_number Group = 3
kind_number Cluster = 4
kind_number TransactionalId = 5

abbrev pub pattern_number : Pattern → ℕ
pattern_number Literal = 3
pattern_number Prefixed = 4

abbrev pub operation_number : Operation → ℕ
operation_number All = 2
operation_number Read = 3
operation_number Write = 4
operation_number Create = 5
operation_number Delete = 6
operation_number Alter = 7
operation_number Describe = 8
operation_number ClusterAction = 9
operation_number DescribeConfigs = 10
operation_number AlterConfigs = 11
operation_number IdempotentWrite = 12

abbrev pub permission_number : Permission → ℕ
permission_number Deny = 2
permission_number Allow = 3
