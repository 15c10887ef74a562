-- What is picked here and there stands in creation order.
use Rattle.std.proofs.Common.{◌≡◌, ℕ, ◌+◌, ◌<◌, ◌≤◌, List, [], ◌∷◌, map, filter, drop, drop-cons, length, get_or, Some, Bool, true, false, cond, ◌&&◌, ◌||◌, refl, sym, ap, subst, ◌∙◌, arith, add-one}
use Rattle.std.specs.declared.cmp.Ordering.{Ordering}
use Rattle.std.specs.declared.cmp.Ordering.TheVariants.{Less, Equal, Greater}
use Rattle.std.specs.Ordering.{nat_cmp, match_ordering}
use Rattle.std.specs.Cmp.{nat_cmp_is}
use Rattle.std.specs.BTreeMap.{insert_entry}
use Rattle.std.specs.List.{AllByRecursion}
use Rattle.std.specs.Map.{values_of}
use Rattle.acl_binding.specs.declared.binding.Binding.{Binding}
use Rattle.acl_binding.specs.declared.binding.Numbered.{Numbered}
use Rattle.acl_binding.specs.declared.filter.Filter.{Filter}
use Rattle.acl_binding.specs.Book.{IsRising}
use Rattle.acl_binding.specs.Filter.{matching_bindings}
use Rattle.acl_binding.proofs.Kept.{rising_filter}
use Rattle.acl_binding.proofs.Rising.{rising_from_less}
use Rattle.authorizer.specs.Looking.{bindings_about, IsNamed}
use Rattle.authorizer.specs.Picking.{under_numbers, with_entries, picks, stands_at, stands_in, AreAllAt, HasPicked}
use Rattle.authorizer.specs.declared.acl_key.AclKey.{AclKey}
use Rattle.authorizer.proofs.Findings.{same_filter, no_filter, each_of}
use Rattle.authorizer.proofs.Removing.{values_back}

-- ---- one binding in its place

-- before those of greater numbers
entered_first : (ys : List Numbered) (n : ℕ) (e : Numbered) → IsRising (n + 1) ys → insert_entry nat_cmp (under_numbers ys) n e ≡ (n, e) ∷ under_numbers ys
entered_first [] n e rising = refl
entered_first (y ∷ ys) n e rising =
    let above : n < y.number = let least = rising.0 in omega arith in
    ap (λ (o : Ordering). match_ordering o ((n, e) ∷ under_numbers (y ∷ ys)) ((y.number, e) ∷ under_numbers ys) ((y.number, y) ∷ insert_entry nat_cmp (under_numbers ys) n e)) (sym (nat_cmp_is n y.number Less above))

-- where it stands already
entered_again : (table : List (ℕ × Numbered)) (e : Numbered) → insert_entry nat_cmp ((e.number, e) ∷ table) e.number e ≡ (e.number, e) ∷ table
entered_again table e = ap (λ (o : Ordering). match_ordering o ((e.number, e) ∷ (e.number, e) ∷ table) ((e.number, e) ∷ table) ((e.number, e) ∷ insert_entry nat_cmp table e.number e)) (sym (nat_cmp_is e.number e.number Equal refl))

-- after one of a lesser number
entered_after : (ys : List Numbered) (e : Numbered) (table : List (ℕ × Numbered)) → IsRising (e.number + 1) ys → with_entries ((e.number, e) ∷ table) ys ≡ (e.number, e) ∷ with_entries table ys
entered_after [] e table rising = refl
entered_after (y ∷ ys) e table rising =
    let above : e.number < y.number = let least = rising.0 in omega arith in
    let later : e.number + 1 ≤ y.number + 1 = omega arith in
    ap (λ (o : Ordering). with_entries (match_ordering o ((y.number, y) ∷ (e.number, e) ∷ table) ((e.number, y) ∷ table) ((e.number, e) ∷ insert_entry nat_cmp table y.number y)) ys) (sym (nat_cmp_is y.number e.number Greater above))
    ∙ entered_after ys e (insert_entry nat_cmp table y.number y) (rising_from_less ys (e.number + 1) (y.number + 1) later rising.1)

-- ---- those of two tests

pub entered_both : (T U : Numbered → Bool) (es : List Numbered) (low : ℕ) → IsRising low es → with_entries (under_numbers (filter T es)) (filter U es) ≡ under_numbers (filter (λ e. T e || U e) es)
entered_both T U [] low rising = refl
entered_both T U (e ∷ es) low rising = by (T e) (U e) (entered_both T U es (e.number + 1) rising.1) where
  left : List (ℕ × Numbered)
  left = under_numbers (filter T es)

  both : List (ℕ × Numbered)
  both = under_numbers (filter (λ x. T x || U x) es)

  after : with_entries ((e.number, e) ∷ left) (filter U es) ≡ (e.number, e) ∷ with_entries left (filter U es)
  after = entered_after (filter U es) e left (rising_filter U es (e.number + 1) rising.1)

  by : (t u : Bool) → with_entries left (filter U es) ≡ both →
      with_entries (under_numbers (cond t (e ∷ filter T es) (filter T es))) (cond u (e ∷ filter U es) (filter U es)) ≡ under_numbers (cond (t || u) (e ∷ filter (λ x. T x || U x) es) (filter (λ x. T x || U x) es))
  by true true rest = ap (λ (l : List (ℕ × Numbered)). with_entries l (filter U es)) (entered_again left e) ∙ after ∙ ap (λ (l : List (ℕ × Numbered)). (e.number, e) ∷ l) rest
  by true false rest = after ∙ ap (λ (l : List (ℕ × Numbered)). (e.number, e) ∷ l) rest
  by false true rest = ap (λ (l : List (ℕ × Numbered)). with_entries l (filter U es)) (entered_first (filter T es) e.number e (rising_filter T es (e.number + 1) rising.1)) ∙ after ∙ ap (λ (l : List (ℕ × Numbered)). (e.number, e) ∷ l) rest
  by false false rest = rest

pub filter_both : (T U : Numbered → Bool) (es : List Numbered) → filter U (filter T es) ≡ filter (λ e. T e && U e) es
filter_both T U [] = refl
filter_both T U (e ∷ es) = by (T e) (filter_both T U es) where
  by : (t : Bool) → filter U (filter T es) ≡ filter (λ x. T x && U x) es → filter U (cond t (e ∷ filter T es) (filter T es)) ≡ cond (t && U e) (e ∷ filter (λ x. T x && U x) es) (filter (λ x. T x && U x) es)
  by true rest = ap (λ (l : List Numbered). cond (U e) (e ∷ l) l) rest
  by false rest = rest

-- the bindings at a place are looked at
pub picked_at : (f : Filter) (es : List Numbered) (here : Numbered → Bool) (old new : List (ℕ × Numbered)) (held : List Numbered) → IsRising 1 es → held ≡ filter here es → new ≡ with_entries old (filter (picks f) held) → HasPicked old new f es here
picked_at f es here old new held rising is says test was =
    says
    ∙ (λ i. with_entries (was i) (filter (picks f) (is i)))
    ∙ ap (with_entries (under_numbers (filter test es))) (filter_both here (picks f) es)
    ∙ entered_both test (λ e. here e && picks f e) es 1 rising

-- ---- one look after the other

two_looks : (t a b m : Bool) → ((t || (a && m)) || (b && m)) ≡ (t || ((a || b) && m))
two_looks true a b m = refl
two_looks false true b true = refl
two_looks false true true false = refl
two_looks false true false false = refl
two_looks false false b m = refl

pub picked_both : (f : Filter) (es : List Numbered) (A B : Numbered → Bool) (one two three : List (ℕ × Numbered)) → HasPicked one two f es A → HasPicked two three f es B → HasPicked one three f es (λ e. A e || B e)
picked_both f es A B one two three first second test was =
    second (λ e. test e || (A e && picks f e)) (first test was)
    ∙ ap (λ (T : Numbered → Bool). under_numbers (filter T es)) (λ i (e : Numbered). two_looks (test e) (A e) (B e) (picks f e) i)

-- ---- one place after the other

abbrev PickedSoFar : List AclKey → Filter → List Numbered → List (ℕ × Numbered) → List (ℕ × Numbered) → Type 0
PickedSoFar acl_keys f es old new = HasPicked old new f es (stands_in acl_keys)

pub picked_key : (acl_keys : List AclKey) (i : ℕ) (d : AclKey) (f : Filter) (es : List Numbered) (one two three : List (ℕ × Numbered)) (held : List Numbered) → i < length acl_keys → IsRising 1 es →
    held ≡ bindings_about (get_or acl_keys i d).kind (get_or acl_keys i d).pattern (get_or acl_keys i d).name.now es → two ≡ with_entries one (filter (picks f) held) →
    PickedSoFar (drop (i + 1) acl_keys) f es two three → PickedSoFar (drop i acl_keys) f es one three
picked_key acl_keys i d f es one two three held lt rising is says rest =
    let here = get_or acl_keys i d in
    let next : drop i acl_keys ≡ here ∷ drop (i + 1) acl_keys = rw add-one (drop-cons acl_keys i d lt) in
    subst (λ (ps : List AclKey). PickedSoFar ps f es one three) (sym next)
    (picked_both f es (stands_at here) (stands_in (drop (i + 1) acl_keys)) one two three (picked_at f es (stands_at here) one two held rising is says) rest)

nothing_more : (t m : Bool) → t ≡ (t || (false && m))
nothing_more true m = refl
nothing_more false m = refl

pub picked_nowhere : (acl_keys : List AclKey) (f : Filter) (es : List Numbered) (all : List (ℕ × Numbered)) → acl_keys ≡ [] → PickedSoFar acl_keys f es all all
picked_nowhere acl_keys f es all none =
    subst (λ (ps : List AclKey). PickedSoFar ps f es all all) (sym none) (λ test was. was ∙ ap (λ (T : Numbered → Bool). under_numbers (filter T es)) (λ i (e : Numbered). nothing_more (test e) (picks f e) i))

-- ---- all that is picked

-- where each that the filter picks is looked at
pub picked_all : (acl_keys : List AclKey) (f : Filter) (es : List Numbered) (none all : List (ℕ × Numbered)) → AreAllAt (Some acl_keys) f → AllByRecursion IsNamed es → none ≡ [] → HasPicked none all f es (stands_in acl_keys) → all ≡ under_numbers (filter (picks f) es)
picked_all acl_keys f es none all covers named nothing picked =
    picked (λ e. false) (nothing ∙ sym (ap under_numbers (no_filter (λ e. false) es (λ e. refl))))
    ∙ ap under_numbers (same_filter (λ e. stands_in acl_keys e && picks f e) (picks f) es (each_of IsNamed _ es (λ e n. by (stands_in acl_keys e) (picks f e) (covers e n)) named)) where
      by : (s m : Bool) → (m ≡ true → s ≡ true) → (s && m) ≡ m
      by true m h = refl
      by false false h = refl
      by false true h = h refl

-- the same of all bindings, which stand in order
pub picked_from_all : (f : Filter) (table all : List (ℕ × Numbered)) → IsRising 1 (values_of table) → all ≡ with_entries [] (filter (picks f) (values_of table)) → all ≡ under_numbers (filter (picks f) (values_of table))
picked_from_all f table all rising is =
    let es = values_of table in
    is ∙ sym (ap (λ (l : List (ℕ × Numbered)). with_entries l (filter (picks f) es)) (ap under_numbers (no_filter (λ e. false) es (λ e. refl))))
    ∙ entered_both (λ e. false) (picks f) es 1 rising

copied : (f : Filter) (es : List Numbered) → map (λ (e : Numbered). e.binding) (filter (picks f) es) ≡ matching_bindings es f
copied f [] = refl
copied f (e ∷ es) = by (picks f e) (copied f es) where
  by : (t : Bool) → map (λ (x : Numbered). x.binding) (filter (picks f) es) ≡ matching_bindings es f →
      map (λ (x : Numbered). x.binding) (cond t (e ∷ filter (picks f) es) (filter (picks f) es)) ≡ cond t (e.binding ∷ matching_bindings es f) (matching_bindings es f)
  by true rest = ap (λ (l : List Binding). e.binding ∷ l) rest
  by false rest = rest

pub copied_all : (f : Filter) (es : List Numbered) (all : List (ℕ × Numbered)) → all ≡ under_numbers (filter (picks f) es) → map (λ (e : Numbered). e.binding) (values_of all) ≡ matching_bindings es f
copied_all f es all is = ap (λ (l : List (ℕ × Numbered)). map (λ (e : Numbered). e.binding) (values_of l)) is ∙ ap (map (λ (e : Numbered). e.binding)) (values_back (filter (picks f) es)) ∙ copied f es
