use Rattle.std.proofs.Common.{◌≡◌, ℕ, List, ◌∷◌, [], ◌++◌, Some, None, cond, ap, ◌∙◌}
use Rattle.std.specs.Map.{values_of, lookup}
use Rattle.std.specs.Ordering.{nat_cmp}
use Rattle.std.specs.BTreeMap.{insert_entry}
use Rattle.acl_binding.specs.declared.binding.Numbered.{Numbered}
use Rattle.acl_binding.specs.Book.{number_of}
use Rattle.authorizer.specs.Contents.{says_same}
use Rattle.authorizer.specs.Kept.{book_of}
use Rattle.authorizer.specs.Looking.{IsNamed}
use Rattle.authorizer.specs.Picking.{under_numbers}
use Rattle.authorizer.proofs.Keeping.{table_more, book_appended, kept_more, table_undone, kept_undone}
use Rattle.authorizer.proofs.indexed.IndexedBook.insert.Goals as goal

pub invariant_of-self-in-Err : goal.invariant_of-self-in-Err
invariant_of-self-in-Err c =
    kept_undone c.self.inside.index c.add.new.self c.self.inside.contents.entries c.reserve.new.self.entries c.self.inside.entries.entries c.insert.new.self.entries c.remove.new.self.entries c.self.inside.next _
    c.self.invariant c.in_ok-reserve.ensures.entries c.in_ok-insert.ensures.entries c.remove.ensures.entries (c.in-Err.ensures.err _ c.self.invariant.indexed)

pub returns-in-Err-clause-err : goal.returns-in-Err-clause-err
returns-in-Err-clause-err c =
    rw (← c.self.view_is) (ap (λ (t : List (ℕ × Numbered)). book_of t c.self.inside.next) (table_undone c.self.inside.index c.self.inside.contents.entries c.self.inside.entries.entries c.insert.new.self.entries c.remove.new.self.entries c.self.inside.next _
    c.self.invariant c.in_ok-insert.ensures.entries c.remove.ensures.entries))

pub invariant_of-self-2 : goal.invariant_of-self-2
invariant_of-self-2 c =
    let table = c.self.inside.entries.entries in
    let number : c.args.entry.now.number ≡ c.self.inside.next = rw (← c.self.view_is) at c.requires.number in
    let more : c.insert.new.self.entries ≡ under_numbers (values_of table ++ c.args.entry.now ∷ []) =
    c.in_ok-insert.ensures.entries ∙ ap (insert_entry nat_cmp table c.self.inside.next) (c.in_ok-share.ensures ∙ c.requires.content)
    ∙ table_more table c.self.inside.next c.self.inside.index c.self.inside.contents.entries c.args.entry.now c.self.invariant number in
    let named : IsNamed c.args.entry.now = record { text = c.add.ensures.text; some = c.requires.named } in
    let absent : number_of (values_of table) c.args.entry.now.binding ≡ None = rw (← c.self.view_is) at c.requires.absent in
    let updates = rw c.unwrap.ensures at c.insert-2.ensures.updates in
    let said : (x : Numbered) → lookup (says_same x) c.insert-2.new.self.entries ≡ cond (says_same c.args.entry.now x) (Some c.self.inside.next) (lookup (says_same x) c.self.inside.contents.entries) =
    λ x. updates.0 x ∙ (λ i. cond (says_same (c.requires.content i) x) (Some c.self.inside.next) (lookup (says_same x) (c.in_ok-reserve.ensures.entries i))) in
    kept_more c.self.inside.index c.add.new.self c.self.inside.contents.entries c.insert-2.new.self.entries table c.insert.new.self.entries c.self.inside.next c.args.entry.now
    c.self.invariant number named absent more said (c.in_default.ensures.ok (values_of table) c.self.invariant.indexed)

pub returns-clause-ok : goal.returns-clause-ok
returns-clause-ok c =
    let table = c.self.inside.entries.entries in
    let number : c.args.entry.now.number ≡ c.self.inside.next = rw (← c.self.view_is) at c.requires.number in
    let more : c.insert.new.self.entries ≡ under_numbers (values_of table ++ c.args.entry.now ∷ []) =
    c.in_ok-insert.ensures.entries ∙ ap (insert_entry nat_cmp table c.self.inside.next) (c.in_ok-share.ensures ∙ c.requires.content)
    ∙ table_more table c.self.inside.next c.self.inside.index c.self.inside.contents.entries c.args.entry.now c.self.invariant number in
    rw (← c.self.view_is) (book_appended table c.insert.new.self.entries c.self.inside.next c.args.entry.now number more)
