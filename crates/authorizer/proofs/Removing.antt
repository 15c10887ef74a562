-- Tables of numbers and of contents after a binding was put in or taken out.
use Rattle.std.proofs.Common.{◌≡◌, ℕ, ◌+◌, ◌<◌, ◌≤◌, List, [], ◌∷◌, ◌++◌, filter, Option, Some, None, Bool, true, false, cond, not, ◌||◌, refl, sym, ap, ◌∙◌, arith}
use Rattle.std.specs.declared.cmp.Ordering.{Ordering}
use Rattle.std.specs.declared.cmp.Ordering.TheVariants.{Equal, Greater}
use Rattle.std.specs.Ordering.{nat_cmp, match_ordering, is_eq}
use Rattle.std.specs.Cmp.{nat_cmp_is}
use Rattle.std.specs.BTreeMap.{insert_entry, is_at as is_key}
use Rattle.std.specs.List.{list_any}
use Rattle.std.specs.Map.{keys_of, values_of, remove_entry, lookup}
use Rattle.acl_binding.specs.declared.binding.Binding.{Binding}
use Rattle.acl_binding.specs.declared.binding.Numbered.{Numbered}
use Rattle.acl_binding.specs.declared.filter.Filter.{Filter}
use Rattle.acl_binding.specs.Binding.{same_binding}
use Rattle.acl_binding.specs.Book.{BookValue, IsBook, IsRising, AreBelow, AreDistinct, number_of, with_new_binding}
use Rattle.acl_binding.specs.Filter.{is_not_matched, without_matching}
use Rattle.acl_binding.proofs.Kept.{rising_filter, below_filter, distinct_filter, absent_filter}
use Rattle.acl_binding.proofs.Rising.{rising_from_less, rising_push, below_push, distinct_push}
use Rattle.acl_binding.proofs.Same.{same_is_equal}
use Rattle.authorizer.specs.Contents.{says_same, IsContentsOf, HasForgotten}
use Rattle.authorizer.specs.Picking.{under_numbers, without_numbers, picks}

-- ---- by number

-- a number above all others comes last
pub numbered_last : (es : List Numbered) (n : ℕ) (e : Numbered) → AreBelow n es → insert_entry nat_cmp (under_numbers es) n e ≡ under_numbers es ++ (n, e) ∷ []
numbered_last [] n e below = refl
numbered_last (x ∷ es) n e below =
    ap (λ (o : Ordering). match_ordering o ((n, e) ∷ under_numbers (x ∷ es)) ((x.number, e) ∷ under_numbers es) ((x.number, x) ∷ insert_entry nat_cmp (under_numbers es) n e)) (sym (nat_cmp_is n x.number Greater below.0))
    ∙ ap (λ (l : List (ℕ × Numbered)). (x.number, x) ∷ l) (numbered_last es n e below.1)

-- and is taken out again
pub last_undone : (es : List Numbered) (n : ℕ) (e : Numbered) → AreBelow n es → remove_entry (is_key (nat_cmp n)) (under_numbers es ++ (n, e) ∷ []) ≡ under_numbers es
last_undone [] n e below = ap (λ (o : Ordering). cond (is_eq o) [] ((n, e) ∷ [])) (sym (nat_cmp_is n n Equal refl))
last_undone (x ∷ es) n e below =
    ap (λ (o : Ordering). cond (is_eq o) (under_numbers es ++ (n, e) ∷ []) ((x.number, x) ∷ remove_entry (is_key (nat_cmp n)) (under_numbers es ++ (n, e) ∷ []))) (sym (nat_cmp_is n x.number Greater below.0))
    ∙ ap (λ (l : List (ℕ × Numbered)). (x.number, x) ∷ l) (last_undone es n e below.1)

-- what has greater numbers is taken out after it
without_after : (ys : List Numbered) (e : Numbered) (table : List (ℕ × Numbered)) → IsRising (e.number + 1) ys → without_numbers ((e.number, e) ∷ table) (keys_of (under_numbers ys)) ≡ (e.number, e) ∷ without_numbers table (keys_of (under_numbers ys))
without_after [] e table rising = refl
without_after (y ∷ ys) e table rising =
    let above : e.number < y.number = let least = rising.0 in omega arith in
    let later : e.number + 1 ≤ y.number + 1 = omega arith in
    ap (λ (o : Ordering). without_numbers (cond (is_eq o) table ((e.number, e) ∷ remove_entry (is_key (nat_cmp y.number)) table)) (keys_of (under_numbers ys))) (sym (nat_cmp_is y.number e.number Greater above))
    ∙ without_after ys e (remove_entry (is_key (nat_cmp y.number)) table) (rising_from_less ys (e.number + 1) (y.number + 1) later rising.1)

taken_out : (f : Filter) (es : List Numbered) (low : ℕ) → IsRising low es → without_numbers (under_numbers es) (keys_of (under_numbers (filter (picks f) es))) ≡ under_numbers (filter (is_not_matched f) es)
taken_out f [] low rising = refl
taken_out f (e ∷ es) low rising = by (picks f e) (taken_out f es (e.number + 1) rising.1) where
  by : (t : Bool) → without_numbers (under_numbers es) (keys_of (under_numbers (filter (picks f) es))) ≡ under_numbers (filter (is_not_matched f) es) →
      without_numbers ((e.number, e) ∷ under_numbers es) (keys_of (under_numbers (cond t (e ∷ filter (picks f) es) (filter (picks f) es)))) ≡ under_numbers (cond (not t) (e ∷ filter (is_not_matched f) es) (filter (is_not_matched f) es))
  by true rest = ap (λ (o : Ordering). without_numbers (cond (is_eq o) (under_numbers es) ((e.number, e) ∷ remove_entry (is_key (nat_cmp e.number)) (under_numbers es))) (keys_of (under_numbers (filter (picks f) es)))) (sym (nat_cmp_is e.number e.number Equal refl)) ∙ rest
  by false rest = without_after (filter (picks f) es) e (under_numbers es) (rising_filter (picks f) es (e.number + 1) rising.1) ∙ ap (λ (l : List (ℕ × Numbered)). (e.number, e) ∷ l) rest

pub left_numbers : (f : Filter) (es : List Numbered) (old new picked : List (ℕ × Numbered)) → IsRising 1 es → old ≡ under_numbers es → picked ≡ under_numbers (filter (picks f) es) → new ≡ without_numbers old (keys_of picked) → new ≡ under_numbers (filter (is_not_matched f) es)
left_numbers f es old new picked rising was is less = less ∙ (λ i. without_numbers (was i) (keys_of (is i))) ∙ taken_out f es 1 rising

pub values_back : (es : List Numbered) → values_of (under_numbers es) ≡ es
values_back [] = refl
values_back (e ∷ es) = ap (λ (l : List Numbered). e ∷ l) (values_back es)

-- ---- by content

abbrev or_else : Option ℕ → Option ℕ → Option ℕ
or_else None o = o
or_else (Some n) o = Some n

number_append : (es xs : List Numbered) (b : Binding) → number_of (es ++ xs) b ≡ or_else (number_of es b) (number_of xs b)
number_append [] xs b = refl
number_append (e ∷ es) xs b = by (same_binding e.binding b) (number_append es xs b) where
  by : (t : Bool) → number_of (es ++ xs) b ≡ or_else (number_of es b) (number_of xs b) → cond t (Some e.number) (number_of (es ++ xs) b) ≡ or_else (cond t (Some e.number) (number_of es b)) (number_of xs b)
  by true rest = refl
  by false rest = rest

-- what no other says comes last
pub contents_last : (old new : List (Numbered × ℕ)) (es : List Numbered) (e : Numbered) → number_of es e.binding ≡ None →
    ((x : Numbered) → lookup (says_same x) new ≡ cond (says_same e x) (Some e.number) (lookup (says_same x) old)) → IsContentsOf old es → IsContentsOf new (es ++ e ∷ [])
contents_last old new es e absent more is x =
    more x ∙ by (says_same e x) refl ∙ sym (number_append es (e ∷ []) x.binding) where
      by : (t : Bool) → same_binding e.binding x.binding ≡ t → cond t (Some e.number) (lookup (says_same x) old) ≡ or_else (number_of es x.binding) (cond (same_binding e.binding x.binding) (Some e.number) None)
      by true same =
          let none : number_of es x.binding ≡ None = ap (number_of es) (sym (same_is_equal e.binding x.binding same)) ∙ absent in
          sym ((λ i. or_else (none i) (cond (same i) (Some e.number) None)))
      by false apart = is x ∙ nothing (number_of es x.binding) ∙ sym (ap (λ (t : Bool). or_else (number_of es x.binding) (cond t (Some e.number) None)) apart) where
        nothing : (o : Option ℕ) → o ≡ or_else o None
        nothing None = refl
        nothing (Some n) = refl

absent_parts : (t : Bool) (n : ℕ) (rest : Option ℕ) → cond t (Some n) rest ≡ None → (t ≡ false) × (rest ≡ None)
absent_parts true n rest h = absurd (let clash : Some n ≡ None = h in cc)
absent_parts false n rest h = (refl, h)

-- the binding is one of these
abbrev is_said : List Numbered → Binding → Bool
is_said es b = list_any (λ (x : Numbered). same_binding x.binding b) es

not_said : (es : List Numbered) (b : Binding) → number_of es b ≡ None → is_said es b ≡ false
not_said [] b none = refl
not_said (e ∷ es) b none =
    let parts = absent_parts (same_binding e.binding b) e.number (number_of es b) none in
    ap (λ (t : Bool). t || is_said es b) parts.0 ∙ not_said es b parts.1

number_left : (p : Numbered → Bool) (es : List Numbered) (b : Binding) → AreDistinct es → cond (is_said (filter p es) b) None (number_of es b) ≡ number_of (filter (λ e. not (p e)) es) b
number_left p [] b distinct = refl
number_left p (e ∷ es) b distinct = by (same_binding e.binding b) (p e) refl (number_left p es b distinct.1) where
  others : List Numbered
  others = filter (λ x. not (p x)) es

  by : (t k : Bool) → same_binding e.binding b ≡ t → cond (is_said (filter p es) b) None (number_of es b) ≡ number_of others b →
      cond (is_said (cond k (e ∷ filter p es) (filter p es)) b) None (cond t (Some e.number) (number_of es b)) ≡ number_of (cond (not k) (e ∷ others) others) b
  by true k same rest = by_pick k where
    absent : number_of es b ≡ None
    absent = ap (number_of es) (sym (same_is_equal e.binding b same)) ∙ distinct.0

    by_pick : (k : Bool) → cond (is_said (cond k (e ∷ filter p es) (filter p es)) b) None (Some e.number) ≡ number_of (cond (not k) (e ∷ others) others) b
    by_pick true = ap (λ (t : Bool). cond (t || is_said (filter p es) b) None (Some e.number)) same ∙ sym (absent_filter (λ x. not (p x)) es b absent)
    by_pick false = ap (λ (t : Bool). cond t None (Some e.number)) (not_said (filter p es) b (absent_filter p es b absent)) ∙ sym (ap (λ (t : Bool). cond t (Some e.number) (number_of others b)) same)
  by false true apart rest = ap (λ (t : Bool). cond (t || is_said (filter p es) b) None (number_of es b)) apart ∙ rest
  by false false apart rest = rest ∙ sym (ap (λ (t : Bool). cond t (Some e.number) (number_of others b)) apart)

pub left_contents : (f : Filter) (es picked : List Numbered) (old new : List (Numbered × ℕ)) → AreDistinct es → picked ≡ filter (picks f) es → HasForgotten old new picked → IsContentsOf old es → IsContentsOf new (filter (is_not_matched f) es)
left_contents f es picked old new distinct is less was x =
    less x ∙ (λ i. cond (is_said (is i) x.binding) None (was x i)) ∙ number_left (picks f) es x.binding distinct

-- one after the other
pub forgets_one : (t r : Bool) (now next initial : Option ℕ) → next ≡ cond t None now → cond (t || r) None now ≡ initial → cond r None next ≡ initial
forgets_one true true now next initial less so_far = so_far
forgets_one true false now next initial less so_far = less ∙ so_far
forgets_one false true now next initial less so_far = so_far
forgets_one false false now next initial less so_far = less ∙ so_far

-- ---- the book

pub book_more : (book : BookValue) (b : Binding) → IsBook book → number_of book.entries b ≡ None → IsBook (with_new_binding book b)
book_more book b is absent = record {
  rising = rising_push book.entries 1 book.next b is.first is.rising is.below;
  below = below_push book.entries book.next b is.below;
  first = let first = is.first in omega arith;
  distinct = distinct_push book.entries book.next b is.distinct absent;
}

pub book_less : (book : BookValue) (f : Filter) → IsBook book → IsBook (without_matching book f)
book_less book f is = record {
  rising = rising_filter (is_not_matched f) book.entries 1 is.rising;
  below = below_filter (is_not_matched f) book.entries book.next is.below;
  first = is.first;
  distinct = distinct_filter (is_not_matched f) book.entries is.distinct;
}
