-- The words of a binding and of a filter by the numbers that the protocol gives them (Kafka,
-- ResourceType, PatternType, AclOperation and AclPermissionType; KIP-140, KIP-290).
use Rattle.std.specs.Prelude.{ℕ, ℤ, pos, List, [], ◌∷◌, Option}
use Rattle.std.specs.List.{find}
use Rattle.std.specs.Ordering.{int_eq}
use Rattle.acl_binding.specs.declared.words.Kind.{Kind}
use Rattle.acl_binding.specs.declared.words.Pattern.{Pattern}
use Rattle.acl_binding.specs.declared.words.Operation.{Operation}
use Rattle.acl_binding.specs.declared.words.Permission.{Permission}
use Rattle.acl_binding.specs.declared.filter.FilterPattern.{FilterPattern}
use Rattle.acl_binding.specs.declared.filter.FilterPattern.TheVariants.{Any, Match, Literal, Prefixed}
use Rattle.acl_binding.specs.Words.{kind_number, pattern_number, operation_number, permission_number}
use Rattle.acl_binding.specs.Names.{all_kinds, all_patterns, all_operations, all_permissions}

-- the number that stands for any word
abbrev pub any_number : ℤ
any_number = pos 1

abbrev pub filter_pattern_number : FilterPattern → ℕ
filter_pattern_number Any = 1
filter_pattern_number Match = 2
filter_pattern_number Literal = 3
filter_pattern_number Prefixed = 4

abbrev pub all_filter_patterns : List FilterPattern
all_filter_patterns = Any ∷ Match ∷ Literal ∷ Prefixed ∷ []

-- ---- the number of a word on the wire

unfoldable pub kind_code : Kind → ℤ
kind_code kind = pos (kind_number kind)

unfoldable pub pattern_code : Pattern → ℤ
pattern_code pattern = pos (pattern_number pattern)

unfoldable pub operation_code : Operation → ℤ
operation_code op = pos (operation_number op)

unfoldable pub permission_code : Permission → ℤ
permission_code permission = pos (permission_number permission)

unfoldable pub filter_pattern_code : FilterPattern → ℤ
filter_pattern_code pattern = pos (filter_pattern_number pattern)

-- ---- the word of a number, if it is one

unfoldable pub kind_at : ℤ → Option Kind
kind_at n = find (λ k. int_eq (kind_code k) n) all_kinds

unfoldable pub pattern_at : ℤ → Option Pattern
pattern_at n = find (λ p. int_eq (pattern_code p) n) all_patterns

unfoldable pub operation_at : ℤ → Option Operation
operation_at n = find (λ op. int_eq (operation_code op) n) all_operations

unfoldable pub permission_at : ℤ → Option Permission
permission_at n = find (λ p. int_eq (permission_code p) n) all_permissions

unfoldable pub filter_pattern_at : ℤ → Option FilterPattern
filter_pattern_at n = find (λ p. int_eq (filter_pattern_code p) n) all_filter_patterns
