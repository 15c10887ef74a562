use Rattle.std.proofs.Common.{rules, ◌≡◌, ◌≤◌, ◌++◌, drop, length, take, true, false, nat_eq, List, ℕ, sym, ap, ◌∙◌}
use Rattle.std.specs.Cmp.Lexicographic.{pointwise}
use Rattle.std.specs.List.{concat}
use Rattle.std.proofs.lemmas.List.{take_rest}
use Rattle.wire_types.proofs.Runs.{agree, differ}
use Rattle.wire_types.proofs.pieces.PiecesPartialEq.eq.Goals as goal

pub returns-then-not-begin_alike : goal.returns-then-not-begin_alike
returns-then-not-begin_alike c =
    let n = c.min-count.result in
    let a = c.left.inside.run.now in
    let b = c.left.inside.next.now ++ concat c.left.inside.pieces.now in
    let d = c.right.inside.run.now in
    let e = c.right.inside.next.now ++ concat c.right.inside.pieces.now in
    let i : n ≤ length a = search rules in
    let j : n ≤ length d = search rules in
    let unequal : pointwise nat_eq (take n a) (take n d) ≡ false = search rules in
    let here : pointwise nat_eq (a ++ b) (d ++ e) ≡ pointwise nat_eq c.loop-count.left c.loop-count.right = ap (λ (t : List ℕ). pointwise nat_eq t (d ++ e)) c.left.view_is ∙ ap (λ (t : List ℕ). pointwise nat_eq c.loop-count.left t) c.right.view_is in
    sym (sym c.loop-count.invariant ∙ sym here ∙ differ n a b d e i j unequal)

pub loop-count-preserved : goal.loop-count-preserved
loop-count-preserved c =
    let n = c.min-count.result in
    let a = c.left.inside.run.now in
    let b = c.left.inside.next.now ++ concat c.left.inside.pieces.now in
    let d = c.right.inside.run.now in
    let e = c.right.inside.next.now ++ concat c.right.inside.pieces.now in
    let i : n ≤ length a = search rules in
    let j : n ≤ length d = search rules in
    let equal : pointwise nat_eq (take n a) (take n d) ≡ true = search rules in
    let here : pointwise nat_eq (a ++ b) (d ++ e) ≡ pointwise nat_eq c.loop-count.left c.loop-count.right = ap (λ (t : List ℕ). pointwise nat_eq t (d ++ e)) c.left.view_is ∙ ap (λ (t : List ℕ). pointwise nat_eq c.loop-count.left t) c.right.view_is in
    let left : c.of-left-in-loop-count.result ≡ drop n a ++ b = c.of-left-in-loop-count.ensures ∙ ap (λ (t : List ℕ). t ++ b) (take_rest a n) in
    let right : c.of-right-in-loop-count.result ≡ drop n d ++ e = c.of-right-in-loop-count.ensures ∙ ap (λ (t : List ℕ). t ++ e) (take_rest d n) in
    rw (left, right) (sym (agree n a b d e i j equal) ∙ here ∙ c.loop-count.invariant)
