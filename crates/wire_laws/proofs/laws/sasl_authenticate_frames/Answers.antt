use Rattle.std.proofs.Common.{rules}
use Rattle.std.specs.Str.{is_utf8, chars}
use lib.Utf8.{encode}
use Rattle.wire_types.specs.Reading.{nat_at, int_at, front_at, utf8_at, after_count_at, null_or, after_null_count_at, null_or_count, null_count_at, not_null, required_at}
use Rattle.msg_admin.specs.Api.{is_flexible, api_at}
use Rattle.msg_admin.specs.ApiKey.{all_keys, key_at}
use Rattle.msg_admin.specs.Bodies.{request_body, reply_body}
use Rattle.msg_admin.specs.Request.{request_at}
use Rattle.wire_types.specs.Spelling.{int_written, after_count_written, after_null_count_written}
use Rattle.wire_types.specs.ErrorCode.{number_of}
use Rattle.wire_laws.proofs.laws.sasl_authenticate_frames.Goals as goal

pub returns-clause-asked : goal.returns-clause-asked
unfolding is_utf8 chars encode nat_at int_at front_at utf8_at after_count_at null_or after_null_count_at null_or_count null_count_at not_null required_at is_flexible api_at all_keys key_at request_body request_at
returns-clause-asked c = search rules

pub returns-clause-not_auth_without_the_first_zero : goal.returns-clause-not_auth_without_the_first_zero
unfolding is_utf8 chars encode nat_at int_at front_at utf8_at after_count_at null_or after_null_count_at null_or_count null_count_at not_null required_at is_flexible api_at all_keys key_at request_body request_at
returns-clause-not_auth_without_the_first_zero c = search rules

pub returns-clause-answered : goal.returns-clause-answered
unfolding int_written after_count_written after_null_count_written number_of is_flexible reply_body
returns-clause-answered c = search rules

pub returns-clause-not_null_reasons_are_empty : goal.returns-clause-not_null_reasons_are_empty
unfolding int_written after_count_written after_null_count_written number_of is_flexible reply_body
returns-clause-not_null_reasons_are_empty c = search rules
