use Rattle.wire_types.proofs.varints.+write_varint_within.Given as goal

abbrev pub decreases-write_varint_within : goal.decreases-write_varint_within
decreases-write_varint_within l = l.more
