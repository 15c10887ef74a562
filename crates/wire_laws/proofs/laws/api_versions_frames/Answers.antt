use Rattle.std.proofs.Common.{rules}
use Rattle.std.specs.Str.{is_utf8, chars}
use lib.Utf8.{encode}
use Rattle.wire_types.specs.Reading.{nat_at, int_at, front_at, utf8_at, null_or, after_null_count_at, null_or_count, null_count_at}
use Rattle.msg_admin.specs.Api.{is_flexible, api_at}
use Rattle.msg_admin.specs.ApiKey.{all_keys, key_at}
use Rattle.msg_admin.specs.Bodies.{request_body, reply_body}
use Rattle.msg_admin.specs.Request.{request_at}
use Rattle.wire_types.specs.Spelling.{int_written, many_written, after_count_written}
use Rattle.wire_types.specs.ErrorCode.{number_of}
use Rattle.wire_laws.proofs.laws.api_versions_frames.Goals as goal

pub returns-clause-asked : goal.returns-clause-asked
unfolding is_utf8 chars encode nat_at int_at front_at utf8_at null_or after_null_count_at null_or_count null_count_at is_flexible api_at all_keys key_at request_body request_at
returns-clause-asked c = search rules

pub returns-clause-not_handshake_and_versions_swapped : goal.returns-clause-not_handshake_and_versions_swapped
unfolding is_utf8 chars encode nat_at int_at front_at utf8_at null_or after_null_count_at null_or_count null_count_at is_flexible api_at all_keys key_at request_body request_at
returns-clause-not_handshake_and_versions_swapped c = search rules

pub returns-clause-answered : goal.returns-clause-answered
unfolding int_written many_written after_count_written number_of is_flexible reply_body
returns-clause-answered c = search rules

pub returns-clause-not_min_and_max_exchanged : goal.returns-clause-not_min_and_max_exchanged
unfolding int_written many_written after_count_written number_of is_flexible reply_body
returns-clause-not_min_and_max_exchanged c = search rules
