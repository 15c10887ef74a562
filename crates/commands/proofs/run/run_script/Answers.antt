use Rattle.std.proofs.Common.{◌≡◌, ◌++◌, [], refl, ap, sym, ◌∙◌, append-nil, append_assoc, rules, arith}
use Rattle.std.proofs.KnownBytes.{Appends-nil, Appends-trans}
use Rattle.request_handlers.specs.Core.{CoreValue, events_of}
use Rattle.commands.specs.Lines.{lines_of}
use Rattle.commands.specs.Replay.{Answer, script_answer}
use Rattle.commands.proofs.ScriptLemmas.{line_further, line_last, empty_of, script_over, wrote_all, printed_cut, printed_whole}
use Rattle.commands.proofs.run.run_script.Goals as goal

pub returns-then-is_err : goal.returns-then-is_err
returns-then-is_err g c =
    let (done, so_far, up, grew, count) = c.loop-rest.invariant in
    let turn = rw (c.in-Ok-Goes.field-0-is, ← c.as_str.ensures.value) at c.in-Ok-Goes.ensures in
    let further = line_further _ _ up.0 _ c.loop-rest.number c.loop-rest.rest.now c.split_line.result.0.now c.split_line.result.1.now done _ _ so_far c.split_line.ensures.lines _ turn.0 in
    printed_cut _ _ _ _ done _ _ _ (ap (λ (a : Answer). a.text) further ∙ append_assoc done _ _) grew c.write_text.ensures.wrote

pub returns-then-is_err-2 : goal.returns-then-is_err-2
returns-then-is_err-2 g c =
    let (done, so_far, up, grew, count) = c.loop-rest.invariant in
    let turn = rw (c.in-Ok-Ends.field-0-is, ← c.as_str-in-Ok-Ends.ensures.value) at c.in-Ok-Ends.ensures in
    let last = line_last _ _ up.0 _ c.loop-rest.number c.loop-rest.rest.now c.split_line.result.0.now c.split_line.result.1.now done _ _ so_far c.split_line.ensures.lines turn in
    printed_cut _ _ _ _ done _ [] _ (ap (λ (a : Answer). a.text) last ∙ ap (λ l. done ++ l) (sym (append-nil _))) grew c.write_text-in-Ok-Ends.ensures.wrote

pub returns : goal.returns
returns g c =
    let (done, so_far, up, grew, count) = c.loop-rest.invariant in
    let empty : c.loop-rest.rest.now ≡ [] = empty_of _ _ c.is_empty.ensures c.loop-rest-test.false in
    let over = script_over c.args.core.settings (events_of c.loop-rest.core.trail) c.loop-rest.number c.loop-rest.rest.now done _ empty so_far in
    printed_whole _ _ _ 0 done over.0 (sym over.1) grew

pub returns-in-Ok-Ends : goal.returns-in-Ok-Ends
returns-in-Ok-Ends g c =
    let (done, so_far, up, grew, count) = c.loop-rest.invariant in
    let turn = rw (c.in-Ok-Ends.field-0-is, ← c.as_str-in-Ok-Ends.ensures.value) at c.in-Ok-Ends.ensures in
    let last = line_last _ _ up.0 _ c.loop-rest.number c.loop-rest.rest.now c.split_line.result.0.now c.split_line.result.1.now done _ _ so_far c.split_line.ensures.lines turn in
    let wrote = wrote_all _ _ _ _ c.write_text-in-Ok-Ends.ensures.wrote (search rules) in
    printed_whole _ _ _ 1 _ (ap (λ (a : Answer). a.text) last) (sym (ap (λ (a : Answer). a.status) last)) (Appends-trans _ _ _ _ _ grew wrote)

pub loop-rest-preserved : goal.loop-rest-preserved
loop-rest-preserved g c =
    let (done, so_far, up, grew, count) = c.loop-rest.invariant in
    let turn = rw (c.in-Ok-Goes.field-0-is, ← c.as_str.ensures.value) at c.in-Ok-Goes.ensures in
    let wrote = wrote_all _ _ _ _ c.write_text.ensures.wrote (search rules) in
    (_, line_further _ _ up.0 _ c.loop-rest.number c.loop-rest.rest.now c.split_line.result.0.now c.split_line.result.1.now done _ _ so_far c.split_line.ensures.lines _ turn.0, (turn.1.0 ∙ up.0, turn.1.1), Appends-trans _ _ _ _ _ grew wrote, omega (arith, c.split_line.ensures.shorter))

pub loop-rest-init : goal.loop-rest-init
loop-rest-init g c =
    let same = ap (λ (x : CoreValue). script_answer c.args.core.settings (events_of x.trail) 1 (lines_of c.args.script.now)) (sym c.requires) in
    ([], same, (refl, ap (λ (x : CoreValue). x.down) c.requires), Appends-nil _, omega arith)
