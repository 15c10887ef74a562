use Rattle.std.proofs.Common.{rules}
use Rattle.std.specs.Str.{is_utf8, chars}
use lib.Utf8.{encode}
use Rattle.wire_types.specs.Reading.{nat_at, int_at, bool_at, front_at, utf8_at, many_at, items_at, after_count_at, null_or, after_null_count_at, varint_at, null_or_count, null_count_at, one_less, compact_null_count_at, not_null, required_at, counted_at}
use Rattle.wire_types.specs.CodedLaws.{coded_at, named_or}
use Rattle.msg_data.specs.Isolation.{isolation_of}
use Rattle.msg_admin.specs.Api.{is_flexible, api_at}
use Rattle.msg_admin.specs.ApiKey.{all_keys, key_at}
use Rattle.msg_admin.specs.Bodies.{request_body}
use Rattle.msg_admin.specs.Request.{request_at}
use Rattle.wire_types.specs.Topic.{flexible_topic_of}
use Rattle.wire_laws.proofs.laws.long_texts_are_read.Goals as goal

pub returns-clause-read : goal.returns-clause-read
unfolding is_utf8 chars encode nat_at int_at bool_at front_at utf8_at many_at items_at after_count_at null_or after_null_count_at varint_at null_or_count null_count_at one_less compact_null_count_at not_null required_at counted_at coded_at named_or isolation_of is_flexible api_at all_keys key_at request_body request_at flexible_topic_of
returns-clause-read c = search rules

pub returns-clause-not_names_are_cut_off : goal.returns-clause-not_names_are_cut_off
unfolding is_utf8 chars encode nat_at int_at bool_at front_at utf8_at many_at items_at after_count_at null_or after_null_count_at varint_at null_or_count null_count_at one_less compact_null_count_at not_null required_at counted_at coded_at named_or isolation_of is_flexible api_at all_keys key_at request_body request_at flexible_topic_of
returns-clause-not_names_are_cut_off c = search rules
