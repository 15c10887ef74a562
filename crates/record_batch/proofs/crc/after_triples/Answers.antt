use Rattle.std.proofs.Common.{◌≡◌, ◌+◌, ◌∙◌, rules, ap, length, get_or, []}
use Rattle.record_batch.proofs.Triples.{joined, triple_in, none_in, begins, next_in_rest, goes_on, is_done}
use Rattle.record_batch.proofs.crc.after_triples.Goals as goal

pub returns-in_default : goal.returns-in_default
returns-in_default c = none_in c.args.crc c.args.triples.now (search rules)

pub loop-one-init : goal.loop-one-init
loop-one-init c =
    begins c.args.crc c.args.triples.now c.in-Some.field-0-0.now c.in-Some.triples.now c.word_of.result c.word_of-second.result c.word_of-third.result c.in-Some.ensures.cases.0 (search rules) c.word_of.ensures c.word_of-second.ensures c.word_of-third.ensures

pub loop-one-preserved : goal.loop-one-preserved
loop-one-preserved c =
    let triple = get_or c.in-Some.triples.now c.loop-one.one-index [] in
    let three : length (get_or c.args.triples.now (c.loop-one.one-index + 1) []) ≡ 3 = search rules in
    goes_on c.in-Some.triples.now c.loop-one.one-index (joined c.loop-one.first c.loop-one.second c.loop-one.third) _ _ c.loop-one-test.true
    (rw (c.far_word_remainder.ensures, c.far_word_remainder-in-loop-one.ensures, c.far_word_remainder-in-loop-one-2.ensures)
    (triple_in c.loop-one.first c.loop-one.second c.loop-one.third triple c.word_of-in-loop-one.result c.word_of-in-loop-one-2.result c.word_of-in-loop-one-3.result (ap length (next_in_rest c.args.triples.now c.in-Some.field-0-0.now c.in-Some.triples.now c.loop-one.one-index c.in-Some.ensures.cases.0) ∙ three) c.word_of-in-loop-one.ensures c.word_of-in-loop-one-2.ensures c.word_of-in-loop-one-3.ensures))
    c.loop-one.invariant

pub returns : goal.returns
returns c = is_done c.in-Some.triples.now c.loop-one.one-index _ _ c.loop-one-test.false (rw (c.word_remainder.ensures, c.word_remainder-remainder-2.ensures, c.word_remainder-remainder.ensures) c.loop-one.invariant)
