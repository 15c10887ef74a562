-- Wrong rules for a ListOffsets, each of which a law refutes.
use Rattle.std.specs.Prelude.{pos, negsuc, map, if◌then◌else◌}
use Rattle.std.specs.Ordering.{int_eq}
use Rattle.wire_types.specs.declared.error_code.ErrorCode.TheVariants as codes
use Rattle.wire_types.specs.declared.topic.Topic.{Topic}
use Rattle.msg_data.specs.declared.isolation.Isolation.TheVariants.{ReadUncommitted, ReadCommitted}
use Rattle.msg_data.specs.declared.list_offsets.WantedOffset.{WantedOffset}
use Rattle.msg_data.specs.declared.list_offsets.FoundOffset.{FoundOffset}
use Rattle.msg_admin.specs.declared.reply.Reply.{Reply}
use Rattle.msg_admin.specs.declared.reply.Reply.TheVariants as replies
use Rattle.data_handlers.specs.ListOffsets.{list_offsets_outcome}
use Rattle.read_laws.specs.ListOffsets.{ListRule}

abbrev pub each_listed : (FoundOffset → FoundOffset) → Reply → Reply
each_listed f (replies.ListOffsets reply) =
    replies.ListOffsets
    (record reply {
      topics =
          map (λ (t : Topic FoundOffset). record t { partitions = map f t.partitions })
          reply.topics;
    })
each_listed f reply = reply

abbrev pub invalid_request : FoundOffset → FoundOffset
invalid_request told = record told { error = codes.InvalidRequest; offset = negsuc 0 }

-- wrong: each partition is told INVALID_REQUEST (42), and no offset
abbrev pub list_always_invalid : ListRule
list_always_invalid w caller r =
    let o = list_offsets_outcome w caller r in
    record o { reply = each_listed invalid_request o.reply }

-- wrong: the isolation level isn't looked at, and read_uncommitted is told what read_committed is
abbrev pub list_as_committed : ListRule
list_as_committed w caller r =
    list_offsets_outcome w caller (record r { isolation = ReadCommitted })

-- wrong: the isolation level isn't looked at, and read_committed is told what read_uncommitted is
abbrev pub list_as_uncommitted : ListRule
list_as_uncommitted w caller r =
    list_offsets_outcome w caller (record r { isolation = ReadUncommitted })

-- -1 for -2, and -2 for -1
abbrev pub other_end : WantedOffset → WantedOffset
other_end p = record p {
  timestamp =
      if int_eq p.timestamp (negsuc 0) then negsuc 1
      else if int_eq p.timestamp (negsuc 1) then negsuc 0 else p.timestamp;
}

-- wrong: the latest offset is told for the earliest, and the earliest for the latest
abbrev pub list_other_end : ListRule
list_other_end w caller r =
    list_offsets_outcome w caller
    (record r {
      topics =
          map (λ (t : Topic WantedOffset). record t { partitions = map other_end t.partitions })
          r.topics;
    })

abbrev pub the_start : FoundOffset → FoundOffset
the_start told =
    if int_eq told.offset (negsuc 0) then record told { error = codes.None; offset = pos 0 }
    else told

-- wrong: whatever has no offset is told the offset 0, and no error
abbrev pub list_never_an_error : ListRule
list_never_an_error w caller r =
    let o = list_offsets_outcome w caller r in record o { reply = each_listed the_start o.reply }
