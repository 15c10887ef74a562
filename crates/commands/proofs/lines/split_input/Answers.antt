use Rattle.std.proofs.Common.{◌≡◌, ◌++◌, false, ap, ◌∙◌, append_assoc, sym, rules}
use Rattle.commands.specs.Lines.{is_bar, lines_of, settings_part}
use Rattle.commands.proofs.lines.split_input.Goals as goal

pub loop-line-preserved : goal.loop-line-preserved
loop-line-preserved c =
    let (front, whole, settings, script) = c.loop-line.invariant in
    let line = c.split_line.result.0.now in
    let more = c.split_line.result.1.now in
    let no_bar : is_bar line ≡ false = search rules in (
      front ++ line,
      whole ∙ ap (λ t. front ++ t) c.split_line.ensures.text ∙ sym (append_assoc front line more),
      settings ∙ rw (c.split_line.ensures.lines, no_bar) (sym (append_assoc front line (settings_part (lines_of more)))),
      script ∙ rw (c.split_line.ensures.lines, no_bar),
    )
