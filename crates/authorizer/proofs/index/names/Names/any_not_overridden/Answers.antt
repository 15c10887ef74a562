use Rattle.std.proofs.Common.{◌≡◌, ℕ, List, true, false, sym, ap, ◌∙◌}
use Rattle.std.specs.List.{list_any}
use Rattle.std.proofs.lemmas.Bool.{or_left}
use Rattle.std.specs.declared.string.String.{String}
use Rattle.std.specs.declared.alloc.Global.{Global}
use Rattle.acl_binding.specs.declared.binding.Numbered.{Numbered}
use Rattle.authorizer.specs.AnyTopic.{is_unbarred}
use Rattle.authorizer.proofs.Unbarred.{any_of_rows, any_of_table}
use Rattle.authorizer.proofs.index.names.Names.any_not_overridden.Goals as goal

pub loop-name-init : goal.loop-name-init
loop-name-init c =
    ap (list_any (λ (e : String Global × List Numbered). list_any (is_unbarred c.args.book.now.entries c.args.who.now c.args.host.now) e.1)) (c.into_iter-name-iterator.ensures.into_iter_gives ∙ c.iter-name-items.ensures.rest)
    ∙ sym (any_of_rows (is_unbarred c.args.book.now.entries c.args.who.now c.args.host.now) c.self.inside.shelves.entries)
    ∙ ap (list_any (λ (row : List ℕ × List Numbered). list_any (is_unbarred c.args.book.now.entries c.args.who.now c.args.host.now) row.1)) c.self.view_is

pub returns-then-any_not_overridden : goal.returns-then-any_not_overridden
returns-then-any_not_overridden c =
    let passes = is_unbarred c.args.book.now.entries c.args.who.now c.args.host.now in
    let here : list_any (λ (row : List ℕ × List Numbered). list_any passes row.1) c.args.self.now ≡ true =
    sym c.loop-name.invariant ∙ ap (list_any (λ (e : String Global × List Numbered). list_any passes e.1)) c.in-Some.ensures.steps ∙ or_left _ _ (sym c.any_not_overridden.ensures ∙ c.if-any_not_overridden.true) in
    let rows_pass = ap (list_any (λ (row : List ℕ × List Numbered). list_any passes row.1)) c.self.view_is ∙ here in
    rw (← c.self.view_is) (λ kind pattern es is. sym (sym (any_of_table passes c.self.inside.shelves.entries kind pattern es c.iter-name-items.ensures.unique is) ∙ rows_pass))

pub returns : goal.returns
returns c =
    let passes = is_unbarred c.args.book.now.entries c.args.who.now c.args.host.now in
    let none : list_any (λ (row : List ℕ × List Numbered). list_any passes row.1) c.args.self.now ≡ false =
    sym c.loop-name.invariant ∙ ap (list_any (λ (e : String Global × List Numbered). list_any passes e.1)) c.in-None.ensures.steps.0 in
    let rows_fail = ap (list_any (λ (row : List ℕ × List Numbered). list_any passes row.1)) c.self.view_is ∙ none in
    rw (← c.self.view_is) (λ kind pattern es is. sym (sym (any_of_table passes c.self.inside.shelves.entries kind pattern es c.iter-name-items.ensures.unique is) ∙ rows_fail))
