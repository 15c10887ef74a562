use Rattle.std.proofs.Common.{rules}
use Rattle.std.specs.Str.{is_utf8, chars}
use lib.Utf8.{encode}
use Rattle.wire_types.specs.Reading.{nat_at, int_at, bool_at, front_at, utf8_at, many_at, items_at, after_count_at, null_or, after_null_count_at, varint_at, null_or_count, null_count_at, one_less, compact_null_count_at, not_null, required_at, counted_at}
use Rattle.wire_types.specs.Topic.{flexible_topic_of}
use Rattle.msg_admin.specs.Api.{is_flexible, api_at}
use Rattle.msg_admin.specs.ApiKey.{all_keys, key_at}
use Rattle.msg_admin.specs.Bodies.{request_body, reply_body}
use Rattle.msg_admin.specs.Request.{request_at}
use Rattle.wire_types.specs.Spelling.{int_written, many_written, varint_written, compact_null_count_written, after_count_written, after_null_count_written}
use Rattle.wire_types.specs.ErrorCode.{number_of}
use Rattle.wire_laws.proofs.laws.offset_fetch_frames.Goals as goal

pub returns-clause-asked : goal.returns-clause-asked
unfolding is_utf8 chars encode nat_at int_at bool_at front_at utf8_at many_at items_at after_count_at null_or after_null_count_at varint_at null_or_count null_count_at one_less compact_null_count_at not_null required_at counted_at flexible_topic_of is_flexible api_at all_keys key_at request_body request_at
returns-clause-asked c = search rules

pub returns-clause-not_require_stable_inverted : goal.returns-clause-not_require_stable_inverted
unfolding is_utf8 chars encode nat_at int_at bool_at front_at utf8_at many_at items_at after_count_at null_or after_null_count_at varint_at null_or_count null_count_at one_less compact_null_count_at not_null required_at counted_at flexible_topic_of is_flexible api_at all_keys key_at request_body request_at
returns-clause-not_require_stable_inverted c = search rules

pub returns-clause-not_null_offsets_are_none : goal.returns-clause-not_null_offsets_are_none
unfolding is_utf8 chars encode nat_at int_at bool_at front_at utf8_at many_at items_at after_count_at null_or after_null_count_at varint_at null_or_count null_count_at one_less compact_null_count_at not_null required_at counted_at flexible_topic_of is_flexible api_at all_keys key_at request_body request_at
returns-clause-not_null_offsets_are_none c = search rules

pub returns-clause-answered : goal.returns-clause-answered
unfolding int_written many_written varint_written compact_null_count_written after_count_written after_null_count_written number_of flexible_topic_of is_flexible reply_body
returns-clause-answered c = search rules

pub returns-clause-not_headers_have_no_tags : goal.returns-clause-not_headers_have_no_tags
unfolding int_written many_written varint_written compact_null_count_written after_count_written after_null_count_written number_of flexible_topic_of is_flexible reply_body
returns-clause-not_headers_have_no_tags c = search rules

pub returns-clause-not_fetched_offset_and_leader_epoch_exchanged : goal.returns-clause-not_fetched_offset_and_leader_epoch_exchanged
unfolding int_written many_written varint_written compact_null_count_written after_count_written after_null_count_written number_of flexible_topic_of is_flexible reply_body
returns-clause-not_fetched_offset_and_leader_epoch_exchanged c = search rules
