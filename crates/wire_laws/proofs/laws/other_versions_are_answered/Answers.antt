use Rattle.std.proofs.Common.{rules}
use Rattle.std.specs.Str.{is_utf8, chars}
use lib.Utf8.{encode}
use Rattle.wire_types.specs.Reading.{nat_at, int_at, front_at, utf8_at, null_or, after_null_count_at, null_or_count, null_count_at}
use Rattle.msg_admin.specs.Api.{is_flexible, api_at}
use Rattle.msg_admin.specs.ApiKey.{all_keys, key_at}
use Rattle.msg_admin.specs.Bodies.{request_body, reply_body}
use Rattle.msg_admin.specs.Request.{request_at}
use Rattle.msg_admin.specs.Versions.{unsupported_at}
use Rattle.wire_types.specs.Spelling.{int_written, many_written, after_count_written}
use Rattle.wire_types.specs.ErrorCode.{number_of}
use Rattle.wire_laws.proofs.laws.other_versions_are_answered.Goals as goal

pub returns-clause-frames : goal.returns-clause-frames
unfolding is_utf8 chars encode nat_at int_at front_at utf8_at null_or after_null_count_at null_or_count null_count_at is_flexible api_at all_keys key_at request_body request_at unsupported_at
returns-clause-frames c = search rules

pub returns-clause-not_other_versions_are_malformed : goal.returns-clause-not_other_versions_are_malformed
unfolding is_utf8 chars encode nat_at int_at front_at utf8_at null_or after_null_count_at null_or_count null_count_at is_flexible api_at all_keys key_at request_body request_at unsupported_at
returns-clause-not_other_versions_are_malformed c = search rules

pub returns-clause-unsupported : goal.returns-clause-unsupported
unfolding int_written many_written after_count_written number_of is_flexible all_keys reply_body
returns-clause-unsupported c = search rules

pub returns-clause-not_unsupported_is_no_error : goal.returns-clause-not_unsupported_is_no_error
unfolding int_written many_written after_count_written number_of is_flexible all_keys reply_body
returns-clause-not_unsupported_is_no_error c = search rules

pub returns-clause-not_unsupported_without_versions : goal.returns-clause-not_unsupported_without_versions
unfolding int_written many_written after_count_written number_of is_flexible all_keys reply_body
returns-clause-not_unsupported_without_versions c = search rules
