-- The names that the words of a binding have in settings and in lines of the audit (those of
-- Kafka's own tools).
use Rattle.std.specs.Prelude.{ℕ, List, [], ◌∷◌, Option, codes}
use Rattle.std.specs.List.{find}
use Rattle.std.specs.Str.{bytes_eq}
use Rattle.acl_binding.specs.declared.words.Kind.{Kind}
use Rattle.acl_binding.specs.declared.words.Kind.TheVariants.{Topic, Group, Cluster, TransactionalId}
use Rattle.acl_binding.specs.declared.words.Pattern.{Pattern}
use Rattle.acl_binding.specs.declared.words.Pattern.TheVariants.{Literal, Prefixed}
use Rattle.acl_binding.specs.declared.words.Operation.{Operation}
use Rattle.acl_binding.specs.declared.words.Operation.TheVariants.{All, Read, Write, Create, Delete, Alter, Describe, ClusterAction, DescribeConfigs, AlterConfigs, IdempotentWrite}
use Rattle.acl_binding.specs.declared.words.Permission.{Permission}
use Rattle.acl_binding.specs.declared.words.Permission.TheVariants.{Deny, Allow}

abbrev pub kind_name : Kind → List ℕ
kind_name Topic = codes "Topic"
kind_name Group = codes "Group"
kind_name Cluster = codes "Cluster"
kind_name TransactionalId = codes "TransactionalId"

abbrev pub pattern_name : Pattern → List ℕ
pattern_name Literal = codes "LITERAL"
pattern_name Prefixed = codes "PREFIXED"

abbrev pub operation_name : Operation → List ℕ
operation_name All = codes "ALL"
operation_name Read = codes "READ"
operation_name Write = codes "WRITE"
operation_name Create = codes "CREATE"
operation_name Delete = codes "DELETE"
operation_name Alter = codes "ALTER"
operation_name Describe = codes "DESCRIBE"
operation_name ClusterAction = codes "CLUSTER_ACTION"
operation_name DescribeConfigs = codes "DESCRIBE_CONFIGS"
operation_name AlterConfigs = codes "ALTER_CONFIGS"
operation_name IdempotentWrite = codes "IDEMPOTENT_WRITE"

abbrev pub permission_name : Permission → List ℕ
permission_name Deny = codes "DENY"
permission_name Allow = codes "ALLOW"

-- ---- the word of a name, if it is one

abbrev pub all_kinds : List Kind
all_kinds = Topic ∷ Group ∷ Cluster ∷ TransactionalId ∷ []

abbrev pub kind_named : List ℕ → Option Kind
kind_named name = find (λ k. bytes_eq (kind_name k) name) all_kinds

abbrev pub all_patterns : List Pattern
all_patterns = Literal ∷ Prefixed ∷ []

abbrev pub pattern_named : List ℕ → Option Pattern
pattern_named name = find (λ p. bytes_eq (pattern_name p) name) all_patterns

abbrev pub all_operations : List Operation
all_operations =
    All ∷ Read ∷ Write ∷ Create ∷ Delete ∷ Alter ∷ Describe ∷ ClusterAction ∷ DescribeConfigs
    ∷ AlterConfigs ∷ IdempotentWrite ∷ []

abbrev pub operation_named : List ℕ → Option Operation
operation_named name = find (λ op. bytes_eq (operation_name op) name) all_operations

abbrev pub all_permissions : List Permission
all_permissions = Deny ∷ Allow ∷ []

abbrev pub permission_named : List ℕ → Option Permission
permission_named name = find (λ p. bytes_eq (permission_name p) name) all_permissions
