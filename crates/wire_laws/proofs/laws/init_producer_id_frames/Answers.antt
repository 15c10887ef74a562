use Rattle.std.proofs.Common.{rules}
use Rattle.std.specs.Str.{is_utf8, chars}
use lib.Utf8.{encode}
use Rattle.wire_types.specs.Reading.{nat_at, int_at, front_at, utf8_at, null_or, after_null_count_at, null_or_count, null_count_at}
use Rattle.msg_admin.specs.Api.{is_flexible, api_at}
use Rattle.msg_admin.specs.ApiKey.{all_keys, key_at}
use Rattle.msg_admin.specs.Bodies.{request_body, reply_body}
use Rattle.msg_admin.specs.Request.{request_at}
use Rattle.wire_types.specs.Spelling.{int_written}
use Rattle.wire_types.specs.ErrorCode.{number_of}
use Rattle.wire_laws.proofs.laws.init_producer_id_frames.Goals as goal

pub returns-clause-asked : goal.returns-clause-asked
unfolding is_utf8 chars encode nat_at int_at front_at utf8_at null_or after_null_count_at null_or_count null_count_at is_flexible api_at all_keys key_at request_body request_at
returns-clause-asked c = search rules

pub returns-clause-not_null_transactional_ids_are_empty : goal.returns-clause-not_null_transactional_ids_are_empty
unfolding is_utf8 chars encode nat_at int_at front_at utf8_at null_or after_null_count_at null_or_count null_count_at is_flexible api_at all_keys key_at request_body request_at
returns-clause-not_null_transactional_ids_are_empty c = search rules

pub returns-clause-not_empty_transactional_ids_are_null : goal.returns-clause-not_empty_transactional_ids_are_null
unfolding is_utf8 chars encode nat_at int_at front_at utf8_at null_or after_null_count_at null_or_count null_count_at is_flexible api_at all_keys key_at request_body request_at
returns-clause-not_empty_transactional_ids_are_null c = search rules

pub returns-clause-answered : goal.returns-clause-answered
unfolding int_written number_of is_flexible reply_body
returns-clause-answered c = search rules

pub returns-clause-not_told_producer_and_epoch_exchanged : goal.returns-clause-not_told_producer_and_epoch_exchanged
unfolding int_written number_of is_flexible reply_body
returns-clause-not_told_producer_and_epoch_exchanged c = search rules
