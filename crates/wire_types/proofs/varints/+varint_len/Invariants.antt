use Rattle.wire_types.proofs.varints.+varint_len.Given as goal

abbrev pub decreases-varint_len : goal.decreases-varint_len
decreases-varint_len l = l.more
