-- What a policy keeps of its tables over an edit of the book.
use Rattle.std.proofs.Common.{◌≡◌, ℕ, ◌+◌, List, [], ◌∷◌, ◌++◌, filter, None, Some, cond, refl, sym, ap, subst, ◌∙◌}
use Rattle.std.specs.Ordering.{nat_cmp}
use Rattle.std.specs.BTreeMap.{insert_entry, is_at as is_key}
use Rattle.std.specs.List.{AllByRecursion}
use Rattle.std.specs.Map.{keys_of, values_of, lookup, remove_entry}
use Rattle.acl_binding.specs.declared.binding.Numbered.{Numbered}
use Rattle.acl_binding.specs.declared.filter.Filter.{Filter}
use Rattle.acl_binding.specs.Book.{IsBook, number_of, with_new_binding}
use Rattle.acl_binding.specs.Filter.{is_not_matched, without_matching}
use Rattle.authorizer.specs.Contents.{says_same, IsContentsOf, HasForgotten}
use Rattle.authorizer.specs.Kept.{book_of, IsKept}
use Rattle.authorizer.specs.Looking.{IsIndexed, IsNamed}
use Rattle.authorizer.specs.Picking.{under_numbers, without_numbers, picks}
use Rattle.authorizer.specs.declared.index.Index.{Index}
use Rattle.authorizer.proofs.Covering.{named_push, named_filter}
use Rattle.authorizer.proofs.Removing.{numbered_last, last_undone, left_numbers, values_back, contents_last, left_contents, book_more, book_less}

-- ---- one binding more

-- the table with one more under the next number
pub table_more : (table : List (ℕ × Numbered)) (next : ℕ) (index : Index) (contents : List (Numbered × ℕ)) (e : Numbered) → IsKept index contents table next → e.number ≡ next →
    insert_entry nat_cmp table next e ≡ under_numbers (values_of table ++ e ∷ [])
table_more table next index contents e kept number =
    ap (λ (t : List (ℕ × Numbered)). insert_entry nat_cmp t next e) kept.numbers
    ∙ numbered_last (values_of table) next e kept.book.below
    ∙ ap (λ (n : ℕ). under_numbers (values_of table) ++ (n, e) ∷ []) (sym number)
    ∙ sym (together (values_of table)) where
      together : (es : List Numbered) → under_numbers (es ++ e ∷ []) ≡ under_numbers es ++ (e.number, e) ∷ []
      together [] = refl
      together (x ∷ es) = ap (λ (l : List (ℕ × Numbered)). (x.number, x) ∷ l) (together es)

pub book_appended : (table more : List (ℕ × Numbered)) (next : ℕ) (e : Numbered) → e.number ≡ next → more ≡ under_numbers (values_of table ++ e ∷ []) → book_of more (next + 1) ≡ with_new_binding (book_of table next) e.binding
book_appended table more next e number is =
    ap (λ (t : List (ℕ × Numbered)). book_of t (next + 1)) is ∙ ap (λ (l : List Numbered). record { entries = l; next = next + 1 }) (values_back (values_of table ++ e ∷ []))
    ∙ ap (λ (n : ℕ). record { entries = values_of table ++ record { number = n; binding = e.binding } ∷ []; next = next + 1 }) number

pub kept_more : (index more_index : Index) (contents more_contents : List (Numbered × ℕ)) (table more : List (ℕ × Numbered)) (next : ℕ) (e : Numbered) →
    IsKept index contents table next → e.number ≡ next → IsNamed e → number_of (values_of table) e.binding ≡ None →
    more ≡ under_numbers (values_of table ++ e ∷ []) →
    ((x : Numbered) → lookup (says_same x) more_contents ≡ cond (says_same e x) (Some next) (lookup (says_same x) contents)) →
    IsIndexed more_index (values_of table ++ e ∷ []) → IsKept more_index more_contents more (next + 1)
kept_more index more_index contents more_contents table more next e kept number n absent is said indexed =
    let values : values_of more ≡ values_of table ++ e ∷ [] = ap values_of is ∙ values_back (values_of table ++ e ∷ []) in
    record {
      book = subst IsBook (sym (book_appended table more next e number is)) (book_more (book_of table next) e.binding kept.book absent);
      numbers = is ∙ ap under_numbers (sym values);
      contents = subst (IsContentsOf more_contents) (sym values) (contents_last contents more_contents (values_of table) e absent
          (λ x. said x ∙ ap (λ (m : ℕ). cond (says_same e x) (Some m) (lookup (says_same x) contents)) (sym number)) kept.contents);
      indexed = subst (IsIndexed more_index) (sym values) indexed;
      named = subst (AllByRecursion IsNamed) (sym values) (named_push (values_of table) e kept.named n);
    }

-- ---- one that is taken back

pub table_undone : (index : Index) (contents : List (Numbered × ℕ)) (table more undone : List (ℕ × Numbered)) (next : ℕ) (e : Numbered) → IsKept index contents table next →
    more ≡ insert_entry nat_cmp table next e → undone ≡ remove_entry (is_key (nat_cmp next)) more → undone ≡ table
table_undone index contents table more undone next e kept added taken =
    taken ∙ ap (remove_entry (is_key (nat_cmp next))) (added ∙ ap (λ (t : List (ℕ × Numbered)). insert_entry nat_cmp t next e) kept.numbers ∙ numbered_last (values_of table) next e kept.book.below)
    ∙ last_undone (values_of table) next e kept.book.below ∙ sym kept.numbers

pub kept_undone : (index same_index : Index) (contents same : List (Numbered × ℕ)) (table more undone : List (ℕ × Numbered)) (next : ℕ) (e : Numbered) → IsKept index contents table next → same ≡ contents →
    more ≡ insert_entry nat_cmp table next e → undone ≡ remove_entry (is_key (nat_cmp next)) more → IsIndexed same_index (values_of table) → IsKept same_index same undone next
kept_undone index same_index contents same table more undone next e kept is added taken indexed =
    subst (λ (t : List (ℕ × Numbered)). IsKept same_index same t next) (sym (table_undone index contents table more undone next e kept added taken)) (record {
      book = kept.book;
      numbers = kept.numbers;
      contents = subst (λ (l : List (Numbered × ℕ)). IsContentsOf l (values_of table)) (sym is) kept.contents;
      indexed = indexed;
      named = kept.named;
    })

-- ---- some bindings less

pub book_removed : (table less : List (ℕ × Numbered)) (next : ℕ) (f : Filter) → less ≡ under_numbers (filter (is_not_matched f) (values_of table)) → book_of less next ≡ without_matching (book_of table next) f
book_removed table less next f is = ap (λ (t : List (ℕ × Numbered)). book_of t next) is ∙ ap (λ (l : List Numbered). record { entries = l; next = next }) (values_back (filter (is_not_matched f) (values_of table)))

pub kept_less : (index less_index : Index) (contents less_contents : List (Numbered × ℕ)) (table less picked : List (ℕ × Numbered)) (next : ℕ) (f : Filter) →
    IsKept index contents table next → picked ≡ under_numbers (filter (picks f) (values_of table)) → less ≡ without_numbers table (keys_of picked) →
    HasForgotten contents less_contents (values_of picked) → IsIndexed less_index (filter (is_not_matched f) (values_of table)) →
    IsKept less_index less_contents less next × (book_of less next ≡ without_matching (book_of table next) f)
kept_less index less_index contents less_contents table less picked next f kept is taken forgotten indexed =
    let es = values_of table in
    let table_is : less ≡ under_numbers (filter (is_not_matched f) es) = left_numbers f es table less picked kept.book.rising kept.numbers is taken in
    let values : values_of less ≡ filter (is_not_matched f) es = ap values_of table_is ∙ values_back (filter (is_not_matched f) es) in
    let book : book_of less next ≡ without_matching (book_of table next) f = book_removed table less next f table_is in (
      record {
        book = subst IsBook (sym book) (book_less (book_of table next) f kept.book);
        numbers = table_is ∙ ap under_numbers (sym values);
        contents = subst (IsContentsOf less_contents) (sym values) (left_contents f es (values_of picked) contents less_contents kept.book.distinct (ap values_of is ∙ values_back (filter (picks f) es)) forgotten kept.contents);
        indexed = subst (IsIndexed less_index) (sym values) indexed;
        named = subst (AllByRecursion IsNamed) (sym values) (named_filter (is_not_matched f) es kept.named);
      },
      book,
    )
