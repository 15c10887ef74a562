-- Wrong tables of the words of a binding and of a filter: each is the right one, but that two of
-- its words are taken for each other.
use Rattle.std.specs.Prelude.{ℕ, ℤ, List, Option}
use Rattle.std.specs.Option.{option_map}
use Rattle.acl_binding.specs.declared.words.Kind.{Kind}
use Rattle.acl_binding.specs.declared.words.Kind.TheVariants as kinds
use Rattle.acl_binding.specs.declared.words.Pattern.{Pattern}
use Rattle.acl_binding.specs.declared.words.Pattern.TheVariants as patterns
use Rattle.acl_binding.specs.declared.words.Operation.{Operation}
use Rattle.acl_binding.specs.declared.words.Operation.TheVariants as operation
use Rattle.acl_binding.specs.declared.words.Permission.{Permission}
use Rattle.acl_binding.specs.declared.words.Permission.TheVariants as permissions
use Rattle.acl_binding.specs.declared.filter.FilterPattern.{FilterPattern}
use Rattle.acl_binding.specs.declared.filter.FilterPattern.TheVariants as wanted
use Rattle.acl_binding.specs.WireNumbers.{kind_code, pattern_code, filter_pattern_code, operation_code, permission_code, kind_at, pattern_at, filter_pattern_at, operation_at, permission_at}
use Rattle.acl_binding.specs.Names.{kind_name, pattern_name, operation_name, permission_name, kind_named, pattern_named, operation_named, permission_named}

-- each of the two is the other
abbrev pub other_of_group_and_transactional : Kind → Kind
other_of_group_and_transactional kinds.Group = kinds.TransactionalId
other_of_group_and_transactional kinds.TransactionalId = kinds.Group
other_of_group_and_transactional word = word

-- 3 (GROUP) and 5 (TRANSACTIONAL_ID) are told for each other
abbrev pub group_and_transactional_numbers_swapped : Kind → ℤ
group_and_transactional_numbers_swapped word =
    kind_code (other_of_group_and_transactional word)

-- 3 (GROUP) and 5 (TRANSACTIONAL_ID) are read for each other
abbrev pub group_and_transactional_read_swapped : ℤ → Option Kind
group_and_transactional_read_swapped number =
    option_map other_of_group_and_transactional (kind_at number)

-- the names of 3 (GROUP) and 5 (TRANSACTIONAL_ID) are taken for each other
abbrev pub group_and_transactional_names_swapped : Kind → List ℕ
group_and_transactional_names_swapped word = kind_name (other_of_group_and_transactional word)

-- the names of 3 (GROUP) and 5 (TRANSACTIONAL_ID) are read for each other
abbrev pub group_and_transactional_names_read_swapped : List ℕ → Option Kind
group_and_transactional_names_read_swapped name =
    option_map other_of_group_and_transactional (kind_named name)

-- each of the two is the other
abbrev pub other_of_literal_and_prefixed : Pattern → Pattern
other_of_literal_and_prefixed patterns.Literal = patterns.Prefixed
other_of_literal_and_prefixed patterns.Prefixed = patterns.Literal

-- 3 (LITERAL) and 4 (PREFIXED) are told for each other
abbrev pub literal_and_prefixed_numbers_swapped : Pattern → ℤ
literal_and_prefixed_numbers_swapped word =
    pattern_code (other_of_literal_and_prefixed word)

-- 3 (LITERAL) and 4 (PREFIXED) are read for each other
abbrev pub literal_and_prefixed_read_swapped : ℤ → Option Pattern
literal_and_prefixed_read_swapped number =
    option_map other_of_literal_and_prefixed (pattern_at number)

-- the names of 3 (LITERAL) and 4 (PREFIXED) are taken for each other
abbrev pub literal_and_prefixed_names_swapped : Pattern → List ℕ
literal_and_prefixed_names_swapped word = pattern_name (other_of_literal_and_prefixed word)

-- the names of 3 (LITERAL) and 4 (PREFIXED) are read for each other
abbrev pub literal_and_prefixed_names_read_swapped : List ℕ → Option Pattern
literal_and_prefixed_names_read_swapped name =
    option_map other_of_literal_and_prefixed (pattern_named name)

-- each of the two is the other
abbrev pub other_of_any_and_match : FilterPattern → FilterPattern
other_of_any_and_match wanted.Any = wanted.Match
other_of_any_and_match wanted.Match = wanted.Any
other_of_any_and_match word = word

-- 1 (ANY) and 2 (MATCH) are told for each other
abbrev pub any_and_match_numbers_swapped : FilterPattern → ℤ
any_and_match_numbers_swapped word =
    filter_pattern_code (other_of_any_and_match word)

-- 1 (ANY) and 2 (MATCH) are read for each other
abbrev pub any_and_match_read_swapped : ℤ → Option FilterPattern
any_and_match_read_swapped number =
    option_map other_of_any_and_match (filter_pattern_at number)

-- each of the two is the other
abbrev pub other_of_read_and_write : Operation → Operation
other_of_read_and_write operation.Read = operation.Write
other_of_read_and_write operation.Write = operation.Read
other_of_read_and_write word = word

-- 3 (READ) and 4 (WRITE) are told for each other
abbrev pub read_and_write_numbers_swapped : Operation → ℤ
read_and_write_numbers_swapped word =
    operation_code (other_of_read_and_write word)

-- 3 (READ) and 4 (WRITE) are read for each other
abbrev pub read_and_write_read_swapped : ℤ → Option Operation
read_and_write_read_swapped number =
    option_map other_of_read_and_write (operation_at number)

-- the names of 3 (READ) and 4 (WRITE) are taken for each other
abbrev pub read_and_write_names_swapped : Operation → List ℕ
read_and_write_names_swapped word = operation_name (other_of_read_and_write word)

-- the names of 3 (READ) and 4 (WRITE) are read for each other
abbrev pub read_and_write_names_read_swapped : List ℕ → Option Operation
read_and_write_names_read_swapped name =
    option_map other_of_read_and_write (operation_named name)

-- each of the two is the other
abbrev pub other_of_deny_and_allow : Permission → Permission
other_of_deny_and_allow permissions.Deny = permissions.Allow
other_of_deny_and_allow permissions.Allow = permissions.Deny

-- 2 (DENY) and 3 (ALLOW) are told for each other
abbrev pub deny_and_allow_numbers_swapped : Permission → ℤ
deny_and_allow_numbers_swapped word =
    permission_code (other_of_deny_and_allow word)

-- 2 (DENY) and 3 (ALLOW) are read for each other
abbrev pub deny_and_allow_read_swapped : ℤ → Option Permission
deny_and_allow_read_swapped number =
    option_map other_of_deny_and_allow (permission_at number)

-- the names of 2 (DENY) and 3 (ALLOW) are taken for each other
abbrev pub deny_and_allow_names_swapped : Permission → List ℕ
deny_and_allow_names_swapped word = permission_name (other_of_deny_and_allow word)

-- the names of 2 (DENY) and 3 (ALLOW) are read for each other
abbrev pub deny_and_allow_names_read_swapped : List ℕ → Option Permission
deny_and_allow_names_read_swapped name =
    option_map other_of_deny_and_allow (permission_named name)
