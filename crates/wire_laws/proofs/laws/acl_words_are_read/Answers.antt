use Rattle.std.proofs.Common.{rules}
use Rattle.std.specs.Str.{is_utf8, chars}
use lib.Utf8.{encode}
use Rattle.wire_types.specs.Reading.{nat_at, int_at, front_at, utf8_at, many_at, items_at, after_count_at, null_or, after_null_count_at, null_or_count, null_count_at, not_null, required_at}
use Rattle.msg_admin.specs.Api.{is_flexible, api_at}
use Rattle.msg_admin.specs.ApiKey.{all_keys, key_at}
use Rattle.msg_admin.specs.Bodies.{request_body}
use Rattle.msg_admin.specs.Request.{request_at}
use Rattle.acl_binding.specs.WireNumbers.{kind_code, pattern_code, filter_pattern_code, operation_code, permission_code, kind_at, pattern_at, filter_pattern_at, operation_at, permission_at}
use Rattle.wire_laws.proofs.AclWords.{not_read_is_write, not_group_is_transactional_id}
use Rattle.wire_laws.proofs.laws.acl_words_are_read.Goals as goal

pub returns-clause-bindings : goal.returns-clause-bindings
unfolding is_utf8 chars encode nat_at int_at front_at utf8_at many_at items_at after_count_at null_or after_null_count_at null_or_count null_count_at not_null required_at is_flexible api_at all_keys key_at request_body request_at kind_code pattern_code filter_pattern_code operation_code permission_code kind_at pattern_at filter_pattern_at operation_at permission_at
returns-clause-bindings c = search rules

pub returns-clause-not_deny_is_allow : goal.returns-clause-not_deny_is_allow
unfolding is_utf8 chars encode nat_at int_at front_at utf8_at many_at items_at after_count_at null_or after_null_count_at null_or_count null_count_at not_null required_at is_flexible api_at all_keys key_at request_body request_at kind_code pattern_code filter_pattern_code operation_code permission_code kind_at pattern_at filter_pattern_at operation_at permission_at
returns-clause-not_deny_is_allow c = search rules

pub returns-clause-not_read_is_write : goal.returns-clause-not_read_is_write
returns-clause-not_read_is_write c = not_read_is_write

pub returns-clause-not_group_is_transactional_id : goal.returns-clause-not_group_is_transactional_id
returns-clause-not_group_is_transactional_id c = not_group_is_transactional_id

pub returns-clause-not_literal_is_prefixed : goal.returns-clause-not_literal_is_prefixed
unfolding is_utf8 chars encode nat_at int_at front_at utf8_at many_at items_at after_count_at null_or after_null_count_at null_or_count null_count_at not_null required_at is_flexible api_at all_keys key_at request_body request_at kind_code pattern_code filter_pattern_code operation_code permission_code kind_at pattern_at filter_pattern_at operation_at permission_at
returns-clause-not_literal_is_prefixed c = search rules

pub returns-clause-not_any_names_are_taken : goal.returns-clause-not_any_names_are_taken
unfolding is_utf8 chars encode nat_at int_at front_at utf8_at many_at items_at after_count_at null_or after_null_count_at null_or_count null_count_at not_null required_at is_flexible api_at all_keys key_at request_body request_at kind_code pattern_code filter_pattern_code operation_code permission_code kind_at pattern_at filter_pattern_at operation_at permission_at
returns-clause-not_any_names_are_taken c = search rules

pub returns-clause-filters : goal.returns-clause-filters
unfolding is_utf8 chars encode nat_at int_at front_at utf8_at many_at items_at after_count_at null_or after_null_count_at null_or_count null_count_at not_null required_at is_flexible api_at all_keys key_at request_body request_at kind_code pattern_code filter_pattern_code operation_code permission_code kind_at pattern_at filter_pattern_at operation_at permission_at
returns-clause-filters c = search rules

pub returns-clause-not_filtered_deny_is_allow : goal.returns-clause-not_filtered_deny_is_allow
unfolding is_utf8 chars encode nat_at int_at front_at utf8_at many_at items_at after_count_at null_or after_null_count_at null_or_count null_count_at not_null required_at is_flexible api_at all_keys key_at request_body request_at kind_code pattern_code filter_pattern_code operation_code permission_code kind_at pattern_at filter_pattern_at operation_at permission_at
returns-clause-not_filtered_deny_is_allow c = search rules

pub returns-clause-not_filtered_read_is_write : goal.returns-clause-not_filtered_read_is_write
unfolding is_utf8 chars encode nat_at int_at front_at utf8_at many_at items_at after_count_at null_or after_null_count_at null_or_count null_count_at not_null required_at is_flexible api_at all_keys key_at request_body request_at kind_code pattern_code filter_pattern_code operation_code permission_code kind_at pattern_at filter_pattern_at operation_at permission_at
returns-clause-not_filtered_read_is_write c = search rules

pub returns-clause-not_any_is_match : goal.returns-clause-not_any_is_match
unfolding is_utf8 chars encode nat_at int_at front_at utf8_at many_at items_at after_count_at null_or after_null_count_at null_or_count null_count_at not_null required_at is_flexible api_at all_keys key_at request_body request_at kind_code pattern_code filter_pattern_code operation_code permission_code kind_at pattern_at filter_pattern_at operation_at permission_at
returns-clause-not_any_is_match c = search rules

pub returns-clause-not_any_is_all : goal.returns-clause-not_any_is_all
unfolding is_utf8 chars encode nat_at int_at front_at utf8_at many_at items_at after_count_at null_or after_null_count_at null_or_count null_count_at not_null required_at is_flexible api_at all_keys key_at request_body request_at kind_code pattern_code filter_pattern_code operation_code permission_code kind_at pattern_at filter_pattern_at operation_at permission_at
returns-clause-not_any_is_all c = search rules
