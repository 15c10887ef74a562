-- Two words that are taken for each other: the numbers of what is read differ.
use Rattle.std.proofs.Common.{◌≡◌, ℕ, List, [], ◌∷◌, Option, Some, None, ap}
use Rattle.std.specs.Str.{is_utf8, chars}
use lib.Utf8.{encode}
use Rattle.wire_types.specs.Reading.{nat_at, int_at, front_at, utf8_at, many_at, items_at, after_count_at, null_or, after_null_count_at, null_or_count, null_count_at, not_null, required_at}
use Rattle.msg_admin.specs.Api.{is_flexible, api_at}
use Rattle.msg_admin.specs.ApiKey.{all_keys, key_at}
use Rattle.msg_admin.specs.Bodies.{request_body}
use Rattle.msg_admin.specs.Request.{request_at}
use Rattle.acl_binding.specs.WireNumbers.{kind_code, pattern_code, filter_pattern_code, operation_code, permission_code, kind_at, pattern_at, filter_pattern_at, operation_at, permission_at}
use Rattle.acl_binding.specs.declared.binding.Binding.{Binding}
use Rattle.acl_binding.specs.Words.{kind_number, operation_number}
use Rattle.wire_laws.specs.AclWords.{AsksForBindings}
use Rattle.wire_laws.specs.WrongAclWords.{read_is_write, group_is_transactional_id}

-- the operations of these bindings, and their resource types
abbrev operations_of : List (Option Binding) → List ℕ
operations_of [] = []
operations_of (None ∷ bs) = 0 ∷ operations_of bs
operations_of (Some b ∷ bs) = operation_number b.operation ∷ operations_of bs

abbrev types_of : List (Option Binding) → List ℕ
types_of [] = []
types_of (None ∷ bs) = 0 ∷ types_of bs
types_of (Some b ∷ bs) = kind_number b.kind ∷ types_of bs

pub not_read_is_write : ¬ AsksForBindings read_is_write
unfolding is_utf8 chars encode nat_at int_at front_at utf8_at many_at items_at after_count_at null_or after_null_count_at null_or_count null_count_at not_null required_at is_flexible api_at all_keys key_at request_body request_at kind_code pattern_code filter_pattern_code operation_code permission_code kind_at pattern_at filter_pattern_at operation_at permission_at
not_read_is_write law = let clash : ◌≡◌ {A = List ℕ} (2 ∷ 4 ∷ 3 ∷ 5 ∷ 6 ∷ 7 ∷ 8 ∷ 9 ∷ 10 ∷ 11 ∷ 12 ∷ []) (2 ∷ 3 ∷ 4 ∷ 5 ∷ 6 ∷ 7 ∷ 8 ∷ 9 ∷ 10 ∷ 11 ∷ 12 ∷ []) = ap operations_of law.words in cc

pub not_group_is_transactional_id : ¬ AsksForBindings group_is_transactional_id
unfolding is_utf8 chars encode nat_at int_at front_at utf8_at many_at items_at after_count_at null_or after_null_count_at null_or_count null_count_at not_null required_at is_flexible api_at all_keys key_at request_body request_at kind_code pattern_code filter_pattern_code operation_code permission_code kind_at pattern_at filter_pattern_at operation_at permission_at
not_group_is_transactional_id law = let clash : ◌≡◌ {A = List ℕ} (2 ∷ 5 ∷ 4 ∷ 3 ∷ 2 ∷ 5 ∷ 4 ∷ 3 ∷ 2 ∷ 5 ∷ 4 ∷ []) (2 ∷ 3 ∷ 4 ∷ 5 ∷ 2 ∷ 3 ∷ 4 ∷ 5 ∷ 2 ∷ 3 ∷ 4 ∷ []) = ap types_of law.words in cc
