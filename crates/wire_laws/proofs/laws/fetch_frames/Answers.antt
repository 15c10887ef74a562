use Rattle.std.proofs.Common.{rules}
use Rattle.std.specs.Str.{is_utf8, chars}
use lib.Utf8.{encode}
use Rattle.wire_types.specs.Reading.{nat_at, int_at, front_at, utf8_at, many_at, items_at, after_count_at, null_or, after_null_count_at, null_or_count, null_count_at, not_null, required_at}
use Rattle.wire_types.specs.CodedLaws.{coded_at, named_or}
use Rattle.msg_data.specs.Isolation.{isolation_of}
use Rattle.msg_admin.specs.Api.{is_flexible, api_at}
use Rattle.msg_admin.specs.ApiKey.{all_keys, key_at}
use Rattle.msg_admin.specs.Bodies.{request_body, reply_body}
use Rattle.msg_admin.specs.Request.{request_at}
use Rattle.wire_types.specs.Spelling.{int_written, many_written, after_count_written, after_null_count_written}
use Rattle.wire_types.specs.ErrorCode.{number_of}
use Rattle.wire_laws.proofs.laws.fetch_frames.Goals as goal

pub returns-clause-asked : goal.returns-clause-asked
unfolding is_utf8 chars encode nat_at int_at front_at utf8_at many_at items_at after_count_at null_or after_null_count_at null_or_count null_count_at not_null required_at coded_at named_or isolation_of is_flexible api_at all_keys key_at request_body request_at
returns-clause-asked c = search rules

pub returns-clause-not_key_and_version_exchanged : goal.returns-clause-not_key_and_version_exchanged
unfolding is_utf8 chars encode nat_at int_at front_at utf8_at many_at items_at after_count_at null_or after_null_count_at null_or_count null_count_at not_null required_at coded_at named_or isolation_of is_flexible api_at all_keys key_at request_body request_at
returns-clause-not_key_and_version_exchanged c = search rules

pub returns-clause-not_empty_client_is_null : goal.returns-clause-not_empty_client_is_null
unfolding is_utf8 chars encode nat_at int_at front_at utf8_at many_at items_at after_count_at null_or after_null_count_at null_or_count null_count_at not_null required_at coded_at named_or isolation_of is_flexible api_at all_keys key_at request_body request_at
returns-clause-not_empty_client_is_null c = search rules

pub returns-clause-not_isolation_levels_swapped : goal.returns-clause-not_isolation_levels_swapped
unfolding is_utf8 chars encode nat_at int_at front_at utf8_at many_at items_at after_count_at null_or after_null_count_at null_or_count null_count_at not_null required_at coded_at named_or isolation_of is_flexible api_at all_keys key_at request_body request_at
returns-clause-not_isolation_levels_swapped c = search rules

pub returns-clause-not_waits_and_sizes_exchanged : goal.returns-clause-not_waits_and_sizes_exchanged
unfolding is_utf8 chars encode nat_at int_at front_at utf8_at many_at items_at after_count_at null_or after_null_count_at null_or_count null_count_at not_null required_at coded_at named_or isolation_of is_flexible api_at all_keys key_at request_body request_at
returns-clause-not_waits_and_sizes_exchanged c = search rules

pub returns-clause-answered : goal.returns-clause-answered
unfolding int_written many_written after_count_written after_null_count_written number_of is_flexible reply_body
returns-clause-answered c = search rules

pub returns-clause-not_high_watermark_and_last_stable_offset_exchanged : goal.returns-clause-not_high_watermark_and_last_stable_offset_exchanged
unfolding int_written many_written after_count_written after_null_count_written number_of is_flexible reply_body
returns-clause-not_high_watermark_and_last_stable_offset_exchanged c = search rules

pub returns-clause-not_aborted_producer_and_offset_exchanged : goal.returns-clause-not_aborted_producer_and_offset_exchanged
unfolding int_written many_written after_count_written after_null_count_written number_of is_flexible reply_body
returns-clause-not_aborted_producer_and_offset_exchanged c = search rules

pub returns-clause-not_null_aborted_is_empty : goal.returns-clause-not_null_aborted_is_empty
unfolding int_written many_written after_count_written after_null_count_written number_of is_flexible reply_body
returns-clause-not_null_aborted_is_empty c = search rules
