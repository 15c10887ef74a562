use Rattle.std.proofs.lemmas.Result.{err_from_is_err_and}
use Rattle.wire_types.proofs.FirstBytes.{second_missing, second_last, others_missing, others_last}
use Rattle.wire_types.proofs.cursor.Cursor.read_varint_within.Goals as goal

pub returns-in_err-second-clause-found : goal.returns-in_err-second-clause-found
returns-in_err-second-clause-found c =
    let p = err_from_is_err_and c.from_residual-in_err-second.result c.from_residual-in_err-second.ensures.1 in
    rw (p.1, p.2) (second_missing c.args.more c.args.top c.args.self.now c.in_ok-first.first c.read_byte.new.self _ c.requires.enough c.in_ok-first.ensures c.if-first-lt128.false c.in_err-second.ensures)

pub returns-then-second-lt128-clause-found : goal.returns-then-second-lt128-clause-found
returns-then-second-lt128-clause-found c =
    second_last c.args.more c.args.top c.args.self.now c.in_ok-first.first c.read_byte.new.self c.in_ok-second.second c.read_byte-2.new.self c.requires.enough c.in_ok-first.ensures c.if-first-lt128.false c.in_ok-second.ensures c.if-second-lt128.true

pub returns-in_err-high-clause-found : goal.returns-in_err-high-clause-found
returns-in_err-high-clause-found c =
    let p = err_from_is_err_and c.from_residual-in_err-high.result c.from_residual-in_err-high.ensures.1 in
    rw (p.1, p.2) (others_missing c.args.more c.args.top c.args.self.now c.in_ok-first.first c.read_byte.new.self c.in_ok-second.second c.read_byte-2.new.self _ c.requires.enough c.in_ok-first.ensures c.if-first-lt128.false c.in_ok-second.ensures c.if-second-lt128.false c.in_err-high.ensures.found)

pub returns-clause-found : goal.returns-clause-found
returns-clause-found c =
    others_last c.args.more c.args.top c.args.self.now c.in_ok-first.first c.read_byte.new.self c.in_ok-second.second c.read_byte-2.new.self c.in_ok-high.high c.read_varint_slowly.new.self c.requires.enough c.in_ok-first.ensures c.if-first-lt128.false c.in_ok-second.ensures c.if-second-lt128.false c.in_ok-high.ensures.found
