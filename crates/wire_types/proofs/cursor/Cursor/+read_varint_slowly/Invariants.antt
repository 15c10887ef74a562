use Rattle.wire_types.proofs.cursor.Cursor.+read_varint_slowly.Given as goal

abbrev pub decreases-read_varint_slowly : goal.decreases-read_varint_slowly
decreases-read_varint_slowly l = l.more
