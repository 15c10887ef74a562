-- The numbers and the names of the words of a binding and of a filter (Kafka, ResourceType,
-- PatternType, AclOperation and AclPermissionType; KIP-140, KIP-290).
use Rattle.std.specs.Prelude.{ℕ, ℤ, pos, List, [], ◌∷◌, Option, codes as text}
use Rattle.acl_binding.specs.declared.words.Kind.{Kind}
use Rattle.acl_binding.specs.declared.words.Kind.TheVariants as kinds
use Rattle.acl_binding.specs.declared.words.Pattern.{Pattern}
use Rattle.acl_binding.specs.declared.words.Pattern.TheVariants as patterns
use Rattle.acl_binding.specs.declared.words.Operation.{Operation}
use Rattle.acl_binding.specs.declared.words.Operation.TheVariants as operation
use Rattle.acl_binding.specs.declared.words.Permission.{Permission}
use Rattle.acl_binding.specs.declared.words.Permission.TheVariants as permissions
use Rattle.acl_binding.specs.declared.filter.FilterPattern.{FilterPattern}
use Rattle.acl_binding.specs.declared.filter.FilterPattern.TheVariants as wanted
use Rattle.wire_laws.specs.Tables.{HasNumbers, ReadsNumbers}

-- ---- numbers on the wire

-- ResourceType
abbrev pub resource_types : List (ℤ × Kind)
resource_types =
    (pos 2, kinds.Topic) ∷ (pos 3, kinds.Group) ∷ (pos 4, kinds.Cluster)
    ∷ (pos 5, kinds.TransactionalId) ∷ []

-- each resource type is told under its number
abbrev pub NumbersKinds : (Kind → ℤ) → Type 0
NumbersKinds = HasNumbers resource_types

-- each number is read as its resource type
abbrev pub ReadsKinds : (ℤ → Option Kind) → Type 0
ReadsKinds = ReadsNumbers resource_types

-- PatternType, of a binding
abbrev pub pattern_types : List (ℤ × Pattern)
pattern_types =
    (pos 3, patterns.Literal) ∷ (pos 4, patterns.Prefixed) ∷ []

-- each pattern type is told under its number
abbrev pub NumbersPatterns : (Pattern → ℤ) → Type 0
NumbersPatterns = HasNumbers pattern_types

-- each number is read as its pattern type
abbrev pub ReadsPatterns : (ℤ → Option Pattern) → Type 0
ReadsPatterns = ReadsNumbers pattern_types

-- PatternType, of a filter
abbrev pub filter_pattern_types : List (ℤ × FilterPattern)
filter_pattern_types =
    (pos 1, wanted.Any) ∷ (pos 2, wanted.Match) ∷ (pos 3, wanted.Literal)
    ∷ (pos 4, wanted.Prefixed) ∷ []

-- each pattern type of a filter is told under its number
abbrev pub NumbersFilterPatterns : (FilterPattern → ℤ) → Type 0
NumbersFilterPatterns = HasNumbers filter_pattern_types

-- each number is read as its pattern type of a filter
abbrev pub ReadsFilterPatterns : (ℤ → Option FilterPattern) → Type 0
ReadsFilterPatterns = ReadsNumbers filter_pattern_types

-- AclOperation
abbrev pub operations : List (ℤ × Operation)
operations =
    (pos 2, operation.All) ∷ (pos 3, operation.Read) ∷ (pos 4, operation.Write)
    ∷ (pos 5, operation.Create) ∷ (pos 6, operation.Delete) ∷ (pos 7, operation.Alter)
    ∷ (pos 8, operation.Describe) ∷ (pos 9, operation.ClusterAction)
    ∷ (pos 10, operation.DescribeConfigs) ∷ (pos 11, operation.AlterConfigs)
    ∷ (pos 12, operation.IdempotentWrite) ∷ []

-- each operation is told under its number
abbrev pub NumbersOperations : (Operation → ℤ) → Type 0
NumbersOperations = HasNumbers operations

-- each number is read as its operation
abbrev pub ReadsOperations : (ℤ → Option Operation) → Type 0
ReadsOperations = ReadsNumbers operations

-- AclPermissionType
abbrev pub permission_types : List (ℤ × Permission)
permission_types =
    (pos 2, permissions.Deny) ∷ (pos 3, permissions.Allow) ∷ []

-- each permission type is told under its number
abbrev pub NumbersPermissions : (Permission → ℤ) → Type 0
NumbersPermissions = HasNumbers permission_types

-- each number is read as its permission type
abbrev pub ReadsPermissions : (ℤ → Option Permission) → Type 0
ReadsPermissions = ReadsNumbers permission_types

-- ---- names in settings and in lines of the audit (those of Kafka's own tools)

-- ResourceType
abbrev pub resource_names : List (List ℕ × Kind)
resource_names =
    (text "Topic", kinds.Topic) ∷ (text "Group", kinds.Group) ∷ (text "Cluster", kinds.Cluster)
    ∷ (text "TransactionalId", kinds.TransactionalId) ∷ []

-- each resource type has its name
abbrev pub NamesKinds : (Kind → List ℕ) → Type 0
NamesKinds = HasNumbers resource_names

-- each name is read as its resource type
abbrev pub ReadsNamesOfKinds : (List ℕ → Option Kind) → Type 0
ReadsNamesOfKinds = ReadsNumbers resource_names

-- PatternType
abbrev pub pattern_names : List (List ℕ × Pattern)
pattern_names =
    (text "LITERAL", patterns.Literal) ∷ (text "PREFIXED", patterns.Prefixed) ∷ []

-- each pattern type has its name
abbrev pub NamesPatterns : (Pattern → List ℕ) → Type 0
NamesPatterns = HasNumbers pattern_names

-- each name is read as its pattern type
abbrev pub ReadsNamesOfPatterns : (List ℕ → Option Pattern) → Type 0
ReadsNamesOfPatterns = ReadsNumbers pattern_names

-- AclOperation
abbrev pub operation_names : List (List ℕ × Operation)
operation_names =
    (text "ALL", operation.All) ∷ (text "READ", operation.Read) ∷ (text "WRITE", operation.Write)
    ∷ (text "CREATE", operation.Create) ∷ (text "DELETE", operation.Delete)
    ∷ (text "ALTER", operation.Alter) ∷ (text "DESCRIBE", operation.Describe)
    ∷ (text "CLUSTER_ACTION", operation.ClusterAction)
    ∷ (text "DESCRIBE_CONFIGS", operation.DescribeConfigs)
    ∷ (text "ALTER_CONFIGS", operation.AlterConfigs)
    ∷ (text "IDEMPOTENT_WRITE", operation.IdempotentWrite) ∷ []

-- each operation has its name
abbrev pub NamesOperations : (Operation → List ℕ) → Type 0
NamesOperations = HasNumbers operation_names

-- each name is read as its operation
abbrev pub ReadsNamesOfOperations : (List ℕ → Option Operation) → Type 0
ReadsNamesOfOperations = ReadsNumbers operation_names

-- AclPermissionType
abbrev pub permission_names : List (List ℕ × Permission)
permission_names =
    (text "DENY", permissions.Deny) ∷ (text "ALLOW", permissions.Allow) ∷ []

-- each permission type has its name
abbrev pub NamesPermissions : (Permission → List ℕ) → Type 0
NamesPermissions = HasNumbers permission_names

-- each name is read as its permission type
abbrev pub ReadsNamesOfPermissions : (List ℕ → Option Permission) → Type 0
ReadsNamesOfPermissions = ReadsNumbers permission_names
