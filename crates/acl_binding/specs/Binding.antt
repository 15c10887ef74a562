-- What a binding says (Kafka documentation, 'Authorization and ACLs'; KIP-290 for prefixed names).
use Rattle.std.specs.Prelude.{ℕ, Bool, true, ◌&&◌, ◌||◌, List, codes, nat_eq, ◌==◌}
use Rattle.std.specs.List.{starts_with}
use Rattle.std.specs.Str.{bytes_eq}
use Rattle.acl_binding.specs.declared.words.Kind.{Kind}
use Rattle.acl_binding.specs.declared.words.Pattern.{Pattern}
use Rattle.acl_binding.specs.declared.words.Pattern.TheVariants.{Literal, Prefixed}
use Rattle.acl_binding.specs.declared.words.Operation.{Operation}
use Rattle.acl_binding.specs.declared.words.Operation.TheVariants.{All, Read, Write, Delete, Alter, Describe, DescribeConfigs, AlterConfigs}
use Rattle.acl_binding.specs.declared.words.Permission.TheVariants.{Deny, Allow}
use Rattle.acl_binding.specs.declared.binding.Binding.{Binding}
use Rattle.acl_binding.specs.Words.{kind_number, pattern_number, operation_number, permission_number}

-- ---- what it is about

-- the name, and the host, that stands for all
abbrev pub star : List ℕ
star = codes "*"

-- the principal that stands for all
abbrev pub any_principal : List ℕ
any_principal = codes "User:*"

-- a literal name takes in itself, and `*` every name; a prefixed one takes in the names that begin
-- with it
abbrev pub name_covers : Pattern → List ℕ → List ℕ → Bool
name_covers Literal own name = bytes_eq own name || bytes_eq own star
name_covers Prefixed own name = starts_with nat_eq name own

-- the binding is about this resource
abbrev pub covers : Binding → Kind → List ℕ → Bool
covers b kind name = (kind_number b.kind == kind_number kind) && name_covers b.pattern b.name name

-- the binding is for this principal at this host
abbrev pub applies : Binding → List ℕ → List ℕ → Bool
applies b who host =
    (bytes_eq b.principal who || bytes_eq b.principal any_principal)
    && (bytes_eq b.host host || bytes_eq b.host star)

-- ---- what it permits

-- the operation, or all of them
abbrev pub is_of : Operation → Operation → Bool
is_of own op =
    (operation_number own == operation_number op) || (operation_number own == operation_number All)

-- what an ALLOW of the first operation allows of the second: READ, WRITE, DELETE and ALTER imply
-- DESCRIBE, and ALTER_CONFIGS implies DESCRIBE_CONFIGS
abbrev pub implies : Operation → Operation → Bool
implies Read Describe = true
implies Write Describe = true
implies Delete Describe = true
implies Alter Describe = true
implies AlterConfigs DescribeConfigs = true
implies own op = is_of own op

-- the binding is a DENY of the operation, or of all; nothing is implied by a DENY
abbrev pub denies : Binding → Operation → Bool
denies b op = (permission_number b.permission == permission_number Deny) && is_of b.operation op

-- the binding is an ALLOW of the operation, of one that implies it, or of all
abbrev pub allows : Binding → Operation → Bool
allows b op = (permission_number b.permission == permission_number Allow) && implies b.operation op

-- ---- when two are one

-- equal in all seven fields
abbrev pub same_binding : Binding → Binding → Bool
same_binding a b =
    (kind_number a.kind == kind_number b.kind)
    && (bytes_eq a.name b.name && ((pattern_number a.pattern == pattern_number b.pattern)
    && (bytes_eq a.principal b.principal
    && (bytes_eq a.host b.host
    && ((operation_number a.operation == operation_number b.operation)
    && (permission_number a.permission == permission_number b.permission))))))
