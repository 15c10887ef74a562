use Rattle.std.proofs.Common.{rules}
use Rattle.std.specs.Str.{is_utf8, chars}
use lib.Utf8.{encode}
use Rattle.wire_types.specs.Reading.{nat_at, int_at, bool_at, front_at, utf8_at, many_at, items_at, after_count_at, null_or, after_null_count_at, varint_at, null_or_count, null_count_at, one_less, compact_null_count_at, not_null, required_at, counted_at}
use Rattle.msg_admin.specs.Api.{is_flexible, api_at}
use Rattle.msg_admin.specs.ApiKey.{all_keys, key_at}
use Rattle.msg_admin.specs.Bodies.{request_body, reply_body}
use Rattle.msg_admin.specs.Request.{request_at}
use Rattle.wire_types.specs.Spelling.{int_written, many_written, varint_written, after_count_written}
use Rattle.wire_types.specs.ErrorCode.{number_of}
use Rattle.wire_laws.proofs.laws.end_txn_frames.Goals as goal

pub returns-clause-asked : goal.returns-clause-asked
unfolding is_utf8 chars encode nat_at int_at bool_at front_at utf8_at many_at items_at after_count_at null_or after_null_count_at varint_at null_or_count null_count_at one_less compact_null_count_at not_null required_at counted_at is_flexible api_at all_keys key_at request_body request_at
returns-clause-asked c = search rules

pub returns-clause-not_commits_and_aborts_swapped : goal.returns-clause-not_commits_and_aborts_swapped
unfolding is_utf8 chars encode nat_at int_at bool_at front_at utf8_at many_at items_at after_count_at null_or after_null_count_at varint_at null_or_count null_count_at one_less compact_null_count_at not_null required_at counted_at is_flexible api_at all_keys key_at request_body request_at
returns-clause-not_commits_and_aborts_swapped c = search rules

pub returns-clause-not_commits_and_aborts_swapped_in_0 : goal.returns-clause-not_commits_and_aborts_swapped_in_0
unfolding is_utf8 chars encode nat_at int_at bool_at front_at utf8_at many_at items_at after_count_at null_or after_null_count_at varint_at null_or_count null_count_at one_less compact_null_count_at not_null required_at counted_at is_flexible api_at all_keys key_at request_body request_at
returns-clause-not_commits_and_aborts_swapped_in_0 c = search rules

pub returns-clause-not_commits_and_aborts_swapped_in_1 : goal.returns-clause-not_commits_and_aborts_swapped_in_1
unfolding is_utf8 chars encode nat_at int_at bool_at front_at utf8_at many_at items_at after_count_at null_or after_null_count_at varint_at null_or_count null_count_at one_less compact_null_count_at not_null required_at counted_at is_flexible api_at all_keys key_at request_body request_at
returns-clause-not_commits_and_aborts_swapped_in_1 c = search rules

pub returns-clause-not_commits_and_aborts_swapped_in_2 : goal.returns-clause-not_commits_and_aborts_swapped_in_2
unfolding is_utf8 chars encode nat_at int_at bool_at front_at utf8_at many_at items_at after_count_at null_or after_null_count_at varint_at null_or_count null_count_at one_less compact_null_count_at not_null required_at counted_at is_flexible api_at all_keys key_at request_body request_at
returns-clause-not_commits_and_aborts_swapped_in_2 c = search rules

pub returns-clause-not_commits_and_aborts_swapped_in_3 : goal.returns-clause-not_commits_and_aborts_swapped_in_3
unfolding is_utf8 chars encode nat_at int_at bool_at front_at utf8_at many_at items_at after_count_at null_or after_null_count_at varint_at null_or_count null_count_at one_less compact_null_count_at not_null required_at counted_at is_flexible api_at all_keys key_at request_body request_at
returns-clause-not_commits_and_aborts_swapped_in_3 c = search rules

pub returns-clause-not_commits_and_aborts_swapped_in_4 : goal.returns-clause-not_commits_and_aborts_swapped_in_4
unfolding is_utf8 chars encode nat_at int_at bool_at front_at utf8_at many_at items_at after_count_at null_or after_null_count_at varint_at null_or_count null_count_at one_less compact_null_count_at not_null required_at counted_at is_flexible api_at all_keys key_at request_body request_at
returns-clause-not_commits_and_aborts_swapped_in_4 c = search rules

pub returns-clause-not_commits_and_aborts_swapped_in_5 : goal.returns-clause-not_commits_and_aborts_swapped_in_5
unfolding is_utf8 chars encode nat_at int_at bool_at front_at utf8_at many_at items_at after_count_at null_or after_null_count_at varint_at null_or_count null_count_at one_less compact_null_count_at not_null required_at counted_at is_flexible api_at all_keys key_at request_body request_at
returns-clause-not_commits_and_aborts_swapped_in_5 c = search rules

pub returns-clause-not_version_5_is_version_4 : goal.returns-clause-not_version_5_is_version_4
unfolding is_utf8 chars encode nat_at int_at bool_at front_at utf8_at many_at items_at after_count_at null_or after_null_count_at varint_at null_or_count null_count_at one_less compact_null_count_at not_null required_at counted_at is_flexible api_at all_keys key_at request_body request_at
returns-clause-not_version_5_is_version_4 c = search rules

pub returns-clause-answered : goal.returns-clause-answered
unfolding int_written many_written varint_written after_count_written number_of is_flexible reply_body
returns-clause-answered c = search rules

pub returns-clause-not_headers_have_no_tags : goal.returns-clause-not_headers_have_no_tags
unfolding int_written many_written varint_written after_count_written number_of is_flexible reply_body
returns-clause-not_headers_have_no_tags c = search rules

pub returns-clause-not_told_producer_and_epoch_exchanged : goal.returns-clause-not_told_producer_and_epoch_exchanged
unfolding int_written many_written varint_written after_count_written number_of is_flexible reply_body
returns-clause-not_told_producer_and_epoch_exchanged c = search rules
