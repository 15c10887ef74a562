-- The texts of each answer decide whether it fits.
use Rattle.wire_types.specs.NumberLaws.{wide16, wide32, wide64}
use Rattle.std.specs.Int.{w16, w32, w64}
use Rattle.wire_types.specs.Grammar.{Grammar}
use Rattle.wire_types.specs.Schema.{int16, int32, int64}
use Rattle.wire_types.specs.Topic.{topic_of}
use Rattle.wire_types.specs.ErrorCode.{error_code, number_of, code_of, code_of-number_of, number_of-code_of}
use Rattle.msg_data.specs.Metadata.{broker, partition, topic, metadata_reply, broker_strings, topic_strings, metadata_strings}
use Rattle.msg_data.specs.Strings.{name_of}
use Rattle.msg_data.specs.Produce.{produced_offset, produce_reply, produce_strings}
use Rattle.msg_data.specs.Fetch.{aborted_transaction, fetched_records, fetch_reply, fetch_strings}
use Rattle.msg_data.specs.ListOffsets.{found_offset, list_offsets_reply, list_offsets_strings}
use Rattle.msg_data.proofs.StringLaws.{TellsStrings, no_strings, int_strings, bool_strings, both_strings, front_strings, struct_strings, coded_strings, string_strings, nullable_strings, bytes_strings, array_strings, plain_array, plain_nullable_array}

int16_strings : TellsStrings int16 no_strings
int16_strings = int_strings w16 wide16

int32_strings : TellsStrings int32 no_strings
int32_strings = int_strings w32 wide32

error_code_strings : TellsStrings error_code no_strings
error_code_strings = coded_strings number_of code_of code_of-number_of number_of-code_of int16 int16_strings

broker_tells : TellsStrings broker broker_strings
broker_tells = struct_strings _ _ _ _ _ _ (both_strings int32_strings (both_strings string_strings (both_strings int32_strings nullable_strings)))

partition_tells : TellsStrings partition no_strings
partition_tells = struct_strings _ _ _ _ _ _ (both_strings error_code_strings (both_strings int32_strings (both_strings int32_strings (both_strings (plain_array int32_strings) (plain_array int32_strings)))))

topic_tells : TellsStrings topic topic_strings
topic_tells = struct_strings _ _ _ _ _ _ (both_strings error_code_strings (front_strings string_strings (both_strings bool_strings (plain_array partition_tells))))

pub metadata_tells : TellsStrings metadata_reply metadata_strings
metadata_tells = struct_strings _ _ _ _ _ _ (both_strings (array_strings broker_tells) (both_strings int32_strings (array_strings topic_tells)))

-- ---- topics with partitions that tell no text

int64_strings : TellsStrings int64 no_strings
int64_strings = int_strings w64 wide64

plain_topic : {P : Type 0} {g : Grammar P} → TellsStrings g no_strings → TellsStrings (topic_of g) name_of
plain_topic p = struct_strings _ _ _ _ _ _ (front_strings string_strings (plain_array p))

produced_tells : TellsStrings produced_offset no_strings
produced_tells = struct_strings _ _ _ _ _ _ (both_strings int32_strings (both_strings error_code_strings (both_strings int64_strings int64_strings)))

pub produce_tells : TellsStrings produce_reply produce_strings
produce_tells = struct_strings _ _ _ _ _ _ (front_strings (array_strings (plain_topic produced_tells)) int32_strings)

aborted_tells : TellsStrings aborted_transaction no_strings
aborted_tells = struct_strings _ _ _ _ _ _ (both_strings int64_strings int64_strings)

fetched_tells : TellsStrings fetched_records no_strings
fetched_tells = struct_strings _ _ _ _ _ _ (both_strings int32_strings (both_strings error_code_strings (both_strings int64_strings (both_strings int64_strings (both_strings (plain_nullable_array aborted_tells) bytes_strings)))))

pub fetch_tells : TellsStrings fetch_reply fetch_strings
fetch_tells = struct_strings _ _ _ _ _ _ (both_strings int32_strings (array_strings (plain_topic fetched_tells)))

found_tells : TellsStrings found_offset no_strings
found_tells = struct_strings _ _ _ _ _ _ (both_strings int32_strings (both_strings error_code_strings (both_strings int64_strings int64_strings)))

pub list_offsets_tells : TellsStrings list_offsets_reply list_offsets_strings
list_offsets_tells = struct_strings _ _ _ _ _ _ (both_strings int32_strings (array_strings (plain_topic found_tells)))
