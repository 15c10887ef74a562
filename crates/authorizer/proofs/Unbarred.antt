-- The names that are looked up are all whose denials stand over a binding, and the tables have all that lets write.
use Rattle.std.proofs.Common.{◌≡◌, ℕ, ◌+◌, ◌≤◌, List, [], ◌∷◌, ◌++◌, length, take, drop, filter, Some, None, Bool, true, false, cond, ◌&&◌, ◌||◌, not, refl, sym, ap, ◌∙◌}
use Rattle.std.specs.Prelude.{nat_eq, nat_lt, ◌==◌}
use Rattle.std.specs.List.{AllByRecursion, IsDistinct, list_any, starts_with}
use Rattle.std.specs.Map.{lookup, keys_of}
use Rattle.std.specs.Str.{bytes_eq, IsCharBoundary}
use Rattle.std.specs.String.{string_bytes, string_eq}
use Rattle.std.specs.Char.{len_utf8, encode_utf8}
use Rattle.std.specs.declared.string.String.{String}
use Rattle.std.specs.declared.alloc.Global.{Global}
use Rattle.std.proofs.lemmas.Bool.{or_left, or_right, true≢false}
use Rattle.std.proofs.lemmas.Bool.Decides.{Decides-ltb}
use Rattle.std.proofs.lemmas.Cmp.{nat_list_eq_equiv}
use Rattle.std.proofs.lemmas.List.Folds.{Any-from_list_any, list_any-from_Any}
use Rattle.acl_binding.specs.declared.words.Kind.{Kind}
use Rattle.acl_binding.specs.declared.words.Kind.TheVariants.{Topic}
use Rattle.acl_binding.specs.declared.words.Pattern.{Pattern}
use Rattle.acl_binding.specs.declared.words.Pattern.TheVariants.{Literal, Prefixed}
use Rattle.acl_binding.specs.declared.binding.Binding.{Binding}
use Rattle.acl_binding.specs.declared.binding.Numbered.{Numbered}
use Rattle.acl_binding.specs.Words.{kind_number, pattern_number}
use Rattle.acl_binding.specs.Binding.{star}
use Rattle.authorizer.specs.AnyTopic.{is_topics, bars_write, is_star, takes_name, stands_over, is_overridden_by_deny, is_overridden_by_name, is_of}
use Rattle.authorizer.specs.Index.{rows, bindings_under, nonempty}
use Rattle.authorizer.specs.Looking.{is_at, is_longer, bindings_about, IsNamed, IsTableOf, IsKindIndexed}
use Rattle.authorizer.specs.declared.index.KindIndex.{KindIndex}
use Rattle.authorizer.proofs.Findings.{allowed_parts, same_filter, no_filter, each_of}
use Rattle.authorizer.proofs.Looked.{held_about, one_longer}
use Rattle.authorizer.proofs.Prefixes.{not_longer}
use Rattle.authorizer.proofs.Tables.{is_text, found_rows, none_after}

-- ---- whether any of a list passes

any_filtered : (T p : Numbered → Bool) (es : List Numbered) → list_any p (filter T es) ≡ list_any (λ e. T e && p e) es
any_filtered T p [] = refl
any_filtered T p (e ∷ es) = by (T e) (any_filtered T p es) where
  by : (t : Bool) → list_any p (filter T es) ≡ list_any (λ x. T x && p x) es → list_any p (cond t (e ∷ filter T es) (filter T es)) ≡ ((t && p e) || list_any (λ x. T x && p x) es)
  by true rest = ap (λ (b : Bool). p e || b) rest
  by false rest = rest

any_either : (p q : Numbered → Bool) (es : List Numbered) → (list_any p es || list_any q es) ≡ list_any (λ e. p e || q e) es
any_either p q [] = refl
any_either p q (e ∷ es) = by (p e) (q e) (list_any p es) (list_any q es) _ (any_either p q es) where
  by : (a b x y z : Bool) → (x || y) ≡ z → ((a || x) || (b || y)) ≡ ((a || b) || z)
  by true b x y z h = refl
  by false true true y z h = refl
  by false true false y z h = refl
  by false false x y z h = h

none_of : (es : List Numbered) → list_any (λ e. false) es ≡ false
none_of [] = refl
none_of (e ∷ es) = none_of es

any_given : (b : Bool) (p : Numbered → Bool) (es : List Numbered) → (b && list_any p es) ≡ list_any (λ e. b && p e) es
any_given true p es = refl
any_given false p es = sym (none_of es)

any_same : (p q : Numbered → Bool) (es : List Numbered) → AllByRecursion (λ e. p e ≡ q e) es → list_any p es ≡ list_any q es
any_same p q [] h = refl
any_same p q (e ∷ es) h = ap (λ (b : Bool). b || list_any p es) h.0 ∙ ap (λ (b : Bool). q e || b) (any_same p q es h.1)

both_ways : (a b : Bool) → (a ≡ true → b ≡ true) → (b ≡ true → a ≡ true) → a ≡ b
both_ways true b there back = sym (there refl)
both_ways false true there back = back refl
both_ways false false there back = refl

-- ---- one beginning more

bar_step : (p : Numbered → Bool) (table : List (List ℕ × List Numbered)) (es : List Numbered) (name rest : List ℕ) (k c : ℕ) →
    AllByRecursion IsNamed es → IsTableOf table Topic Prefixed es → IsCharBoundary name k → drop k name ≡ encode_utf8 c ++ rest →
    (list_any p (bindings_under table (take (k + len_utf8 c) name)) || list_any p (filter (is_longer Topic name (k + len_utf8 c)) es)) ≡ list_any p (filter (is_longer Topic name k) es)
bar_step p table es name rest k c named is boundary next =
    ap (λ (h : List Numbered). list_any p h || list_any p (filter (is_longer Topic name (k + len_utf8 c)) es)) (held_about table Topic Prefixed es (take (k + len_utf8 c) name) is)
    ∙ allowed_parts (is_at Topic Prefixed (take (k + len_utf8 c) name)) (is_longer Topic name (k + len_utf8 c)) p es
    ∙ ap (list_any p) (same_filter _ (is_longer Topic name k) es (each_of IsNamed _ es (λ e n. one_longer Topic name rest k c e n.text boundary next) named))

-- it bars
pub bar_here : (p : Numbered → Bool) (table : List (List ℕ × List Numbered)) (es : List Numbered) (name rest : List ℕ) (k c : ℕ) →
    AllByRecursion IsNamed es → IsTableOf table Topic Prefixed es → IsCharBoundary name k → drop k name ≡ encode_utf8 c ++ rest →
    list_any p (bindings_under table (take (k + len_utf8 c) name)) ≡ true → list_any p (filter (is_longer Topic name k) es) ≡ true
bar_here p table es name rest k c named is boundary next here =
    sym (bar_step p table es name rest k c named is boundary next) ∙ or_left _ _ here

-- it doesn't
pub bar_later : (p : Numbered → Bool) (table : List (List ℕ × List Numbered)) (es : List Numbered) (name rest : List ℕ) (k c : ℕ) →
    AllByRecursion IsNamed es → IsTableOf table Topic Prefixed es → IsCharBoundary name k → drop k name ≡ encode_utf8 c ++ rest →
    list_any p (bindings_under table (take (k + len_utf8 c) name)) ≡ false → list_any p (filter (is_longer Topic name (k + len_utf8 c)) es) ≡ list_any p (filter (is_longer Topic name k) es)
bar_later p table es name rest k c named is boundary next here =
    sym (ap (λ (b : Bool). b || list_any p (filter (is_longer Topic name (k + len_utf8 c)) es)) here) ∙ bar_step p table es name rest k c named is boundary next

-- nothing is longer than the name
pub bar_end : (p : Numbered → Bool) (es : List Numbered) (name : List ℕ) (k : ℕ) → length name ≤ k → list_any p (filter (is_longer Topic name k) es) ≡ false
bar_end p es name k le = ap (list_any p) (no_filter (is_longer Topic name k) es (λ e. not_longer (kind_number e.binding.kind == kind_number Topic) (pattern_number e.binding.pattern == 4) name e.binding.name k le))

-- ---- what stands over a binding

or_true : (a : Bool) → (a || true) ≡ true
or_true true = refl
or_true false = refl

or_false : (a : Bool) → (a || false) ≡ a
or_false true = refl
or_false false = refl

and_true : (a : Bool) → (a && true) ≡ a
and_true true = refl
and_true false = refl

and_false : (a : Bool) → (a && false) ≡ false
and_false true = refl
and_false false = refl

and_swap : (a b c : Bool) → (a && (b && c)) ≡ (b && (a && c))
and_swap true true c = refl
and_swap true false c = refl
and_swap false true c = refl
and_swap false false c = refl

-- by the tests of the DENY: of topics, literal, prefixed, of the same name, beginning, not empty, barring; and whether the
-- ALLOW is literal
takes : (k l p n st lt b own : Bool) → (p ≡ true → lt ≡ true) →
    ((own && ((k && (l && n)) && b)) || ((k && (p && (st && lt))) && b)) ≡ (k && (b && ((p && st) || (l && (own && n)))))
takes false l p n st lt b true some = refl
takes false l p n st lt b false some = refl
takes true l p n st lt false own some = rw (and_false (l && n), and_false (p && (st && lt)), and_false own) refl
takes true l p n st lt true own some = rw (and_true (l && n), and_true (p && (st && lt))) (by_prefix p some) where
  by_prefix : (p : Bool) → (p ≡ true → lt ≡ true) → ((own && (l && n)) || (p && (st && lt))) ≡ ((p && st) || (l && (own && n)))
  by_prefix true some = ap (λ (x : Bool). (own && (l && n)) || (st && x)) (some refl) ∙ by_start st where
    by_start : (st : Bool) → ((own && (l && n)) || (st && true)) ≡ (st || (l && (own && n)))
    by_start true = or_true _
    by_start false = or_false _ ∙ and_swap own l n
  by_prefix false some = or_false _ ∙ and_swap own l n

stands : (k s b each t : Bool) → (((k && s) && b) || (not each && (k && (b && t)))) ≡ (k && (b && (s || (not each && t))))
stands false s b true t = refl
stands false s b false t = refl
stands true s false true t = or_false _ ∙ and_false s
stands true s false false t = or_false _ ∙ and_false s
stands true s true each t = ap (λ (x : Bool). x || (not each && t)) (and_true s)

module _ (k : KindIndex) (es : List Numbered) (who host : List ℕ) (b : Binding) (is : IsKindIndexed k Topic es) where
  abbrev bars : Numbered → Bool
  bars e = bars_write who host e.binding

  abbrev own : Bool
  own = pattern_number b.pattern == pattern_number Literal

  -- the names that are looked up for a binding
  pub barred_by_name : AllByRecursion IsNamed es → ((own && list_any bars (bindings_under k.literal b.name)) || list_any bars (filter (is_longer Topic b.name 0) es)) ≡ is_overridden_by_name es who host b
  barred_by_name named =
      (λ i. (own && here i) || any_filtered (is_longer Topic b.name 0) bars es i)
      ∙ ap (λ (x : Bool). x || list_any (λ e. is_longer Topic b.name 0 e && bars e) es) (any_given own (λ e. is_at Topic Literal b.name e && bars e) es)
      ∙ any_either (λ e. own && (is_at Topic Literal b.name e && bars e)) (λ e. is_longer Topic b.name 0 e && bars e) es
      ∙ any_same _ _ es (each_of IsNamed _ es (λ e n.
      takes (is_topics e.binding) (pattern_number e.binding.pattern == pattern_number Literal) (pattern_number e.binding.pattern == pattern_number Prefixed)
      (bytes_eq e.binding.name b.name) (starts_with nat_eq b.name e.binding.name) (nat_lt 0 (length e.binding.name)) (bars e) own (long e n)) named) where
        here : list_any bars (bindings_under k.literal b.name) ≡ list_any (λ e. is_at Topic Literal b.name e && bars e) es
        here = ap (list_any bars) (held_about k.literal Topic Literal es b.name is.literal) ∙ any_filtered (is_at Topic Literal b.name) bars es

        long : (e : Numbered) → IsNamed e → (pattern_number e.binding.pattern == pattern_number Prefixed) ≡ true → nat_lt 0 (length e.binding.name) ≡ true
        long e n is = (Decides-ltb 0 (length e.binding.name)).1 (n.some (prefixed e.binding.pattern is)) where
          prefixed : (x : Pattern) → (pattern_number x == pattern_number Prefixed) ≡ true → x ≡ Prefixed
          prefixed Literal is = absurd (true≢false (sym is))
          prefixed Prefixed is = refl

  -- ... and `*`
  pub barred_by : (list_any bars (bindings_under k.literal star) || (not (is_star b) && is_overridden_by_name es who host b)) ≡ is_overridden_by_deny es who host b
  barred_by =
      (λ i. every i || any_given (not (is_star b)) (λ e. is_topics e.binding && (bars e && takes_name e.binding b)) es i)
      ∙ any_either (λ e. is_at Topic Literal star e && bars e) (λ e. not (is_star b) && (is_topics e.binding && (bars e && takes_name e.binding b))) es
      ∙ any_same _ _ es (of_all es) where
        every : list_any bars (bindings_under k.literal star) ≡ list_any (λ e. is_at Topic Literal star e && bars e) es
        every = ap (list_any bars) (held_about k.literal Topic Literal es star is.literal) ∙ any_filtered (is_at Topic Literal star) bars es

        of_all : (es : List Numbered) → AllByRecursion (λ (e : Numbered). ((is_at Topic Literal star e && bars e) || (not (is_star b) && (is_topics e.binding && (bars e && takes_name e.binding b)))) ≡ (is_topics e.binding && (bars e && stands_over e.binding b))) es
        of_all [] = tt
        of_all (e ∷ es) = (stands (is_topics e.binding) (is_star e.binding) (bars e) (is_star b) (takes_name e.binding b), of_all es)

-- ---- what the tables have

-- a row of which any passes is found by its name
any_row : (p : Numbered → Bool) (es : List (String Global × List Numbered)) → IsDistinct string_eq (keys_of es) → list_any (λ (row : List ℕ × List Numbered). list_any p row.1) (rows es) ≡ true →
    (name : List ℕ) × (held : List Numbered) × (lookup (is_text name) es ≡ Some held) × (list_any p held ≡ true)
unfolding IsDistinct
any_row p [] apart any = absurd (true≢false (sym any))
any_row p (e ∷ es) apart any = by (list_any p e.1) refl (any_row p es apart.1) where
  by : (b : Bool) → list_any p e.1 ≡ b
      → (list_any (λ (row : List ℕ × List Numbered). list_any p row.1) (rows es) ≡ true → (name : List ℕ) × (held : List Numbered) × (lookup (is_text name) es ≡ Some held) × (list_any p held ≡ true))
      → (name : List ℕ) × (held : List Numbered) × (lookup (is_text name) (e ∷ es) ≡ Some held) × (list_any p held ≡ true)
  by true passes behind = (string_bytes e.0, e.1, ap (λ (b : Bool). cond b (Some e.1) (lookup (is_text (string_bytes e.0)) es)) (nat_list_eq_equiv.refl (string_bytes e.0)), passes)
  by false fails behind =
      let rest = behind (sym (ap (λ (b : Bool). b || list_any (λ (row : List ℕ × List Numbered). list_any p row.1) (rows es)) fails) ∙ any) in
      (rest.0, rest.1, ap (λ (b : Bool). cond b (Some e.1) (lookup (is_text rest.0) es)) (other rest.0 rest.1 rest.2 (bytes_eq rest.0 (string_bytes e.0)) refl) ∙ rest.2, rest.3) where
        other : (name : List ℕ) (held : List Numbered) → lookup (is_text name) es ≡ Some held → (b : Bool) → bytes_eq name (string_bytes e.0) ≡ b → bytes_eq name (string_bytes e.0) ≡ false
        other name held there true same = absurd (let clash : Some held ≡ None = sym there ∙ none_after e.0 name es same apart.0 in cc)
        other name held there false same = same

-- and so is one that is found
row_passes : (p : Numbered → Bool) (es : List (String Global × List Numbered)) (name : List ℕ) (held : List Numbered) → lookup (is_text name) es ≡ Some held → list_any p held ≡ true →
    list_any (λ (row : List ℕ × List Numbered). list_any p row.1) (rows es) ≡ true
row_passes p [] name held there passes = absurd (let clash : None ≡ Some held = there in cc)
row_passes p (e ∷ es) name held there passes = by (is_text name e.0) there (λ behind. row_passes p es name held behind passes) where
  by : (b : Bool) → cond b (Some e.1) (lookup (is_text name) es) ≡ Some held → (lookup (is_text name) es ≡ Some held → list_any (λ (row : List ℕ × List Numbered). list_any p row.1) (rows es) ≡ true)
      → list_any (λ (row : List ℕ × List Numbered). list_any p row.1) (rows (e ∷ es)) ≡ true
  by true there rest = or_left _ _ (let is : e.1 ≡ held = cc in ap (list_any p) is ∙ passes)
  by false there rest = or_right (list_any p e.1) _ (rest there)

filled : (xs held : List Numbered) → nonempty xs ≡ Some held → xs ≡ held
filled [] held h = absurd (let clash : None ≡ Some held = h in cc)
filled (x ∷ xs) held h = cc

is_filled : (p : Numbered → Bool) (xs : List Numbered) → list_any p xs ≡ true → nonempty xs ≡ Some xs
is_filled p [] h = absurd (true≢false (sym h))
is_filled p (x ∷ xs) h = refl

any_weaker : (p q : Numbered → Bool) (es : List Numbered) → ((e : Numbered) → p e ≡ true → q e ≡ true) → list_any p es ≡ true → list_any q es ≡ true
any_weaker p q es weaker any =
    let found = Any-from_list_any p es any in
    list_any-from_Any q es (found.0, found.1, found.2, found.3, weaker found.1 found.4)

pub any_of_rows : (p : Numbered → Bool) (es : List (String Global × List Numbered)) → list_any (λ (row : List ℕ × List Numbered). list_any p row.1) (rows es) ≡ list_any (λ (e : String Global × List Numbered). list_any p e.1) es
any_of_rows p [] = refl
any_of_rows p (e ∷ es) = ap (λ (b : Bool). list_any p e.1 || b) (any_of_rows p es)

-- a table has all of its kind and pattern
pub any_of_table : (p : Numbered → Bool) (table : List (String Global × List Numbered)) (kind : Kind) (pattern : Pattern) (es : List Numbered) → IsDistinct string_eq (keys_of table) → IsTableOf (rows table) kind pattern es →
    list_any (λ (row : List ℕ × List Numbered). list_any p row.1) (rows table) ≡ list_any (λ (e : Numbered). is_of kind pattern e && p e) es
any_of_table p table kind pattern es apart is = both_ways _ _ there back where
  there : list_any (λ (row : List ℕ × List Numbered). list_any p row.1) (rows table) ≡ true → list_any (λ (e : Numbered). is_of kind pattern e && p e) es ≡ true
  there any =
      let row = any_row p table apart any in
      let held : bindings_about kind pattern row.0 es ≡ row.1 = filled _ _ (sym (is row.0) ∙ sym (found_rows table row.0) ∙ row.2) in
      any_weaker (λ e. is_at kind pattern row.0 e && p e) _ es (λ e h. weaker (kind_number e.binding.kind == kind_number kind) (pattern_number e.binding.pattern == pattern_number pattern) (bytes_eq e.binding.name row.0) (p e) h)
      (sym (any_filtered (is_at kind pattern row.0) p es) ∙ ap (list_any p) held ∙ row.3) where
        weaker : (k t n x : Bool) → ((k && (t && n)) && x) ≡ true → ((k && t) && x) ≡ true
        weaker true true true x h = h
        weaker true true false x h = absurd (true≢false (sym h))
        weaker true false n x h = absurd (true≢false (sym h))
        weaker false t n x h = absurd (true≢false (sym h))

  back : list_any (λ (e : Numbered). is_of kind pattern e && p e) es ≡ true → list_any (λ (row : List ℕ × List Numbered). list_any p row.1) (rows table) ≡ true
  back any =
      let it = Any-from_list_any (λ (e : Numbered). is_of kind pattern e && p e) es any in
      let name = it.1.binding.name in
      let here : list_any p (bindings_about kind pattern name es) ≡ true =
      any_filtered (is_at kind pattern name) p es
      ∙ list_any-from_Any (λ e. is_at kind pattern name e && p e) es (it.0, it.1, it.2, it.3, named (kind_number it.1.binding.kind == kind_number kind) (pattern_number it.1.binding.pattern == pattern_number pattern) (bytes_eq it.1.binding.name name) (p it.1) (nat_list_eq_equiv.refl name) it.4) in
      row_passes p table name (bindings_about kind pattern name es) (found_rows table name ∙ is name ∙ is_filled p _ here) here where
        named : (k t n x : Bool) → n ≡ true → ((k && t) && x) ≡ true → ((k && (t && n)) && x) ≡ true
        named true true true x is h = h
        named true true false x is h = absurd (true≢false (sym is))
        named true false n x is h = absurd (true≢false (sym h))
        named false t n x is h = absurd (true≢false (sym h))

-- what the two tables of topics say
pub any_of_both : (p : Numbered → Bool) (es : List Numbered) →
    (list_any (λ (e : Numbered). is_of Topic Literal e && p e) es || list_any (λ (e : Numbered). is_of Topic Prefixed e && p e) es) ≡ list_any (λ (e : Numbered). is_topics e.binding && p e) es
any_of_both p es = any_either (λ e. is_of Topic Literal e && p e) (λ e. is_of Topic Prefixed e && p e) es ∙ any_same _ _ es (all es) where
  by : (k x : Bool) (pattern : Pattern) → (((k && (pattern_number pattern == pattern_number Literal)) && x) || ((k && (pattern_number pattern == pattern_number Prefixed)) && x)) ≡ (k && x)
  by false x pattern = refl
  by true x Literal = or_false x
  by true x Prefixed = refl

  all : (es : List Numbered) → AllByRecursion (λ (e : Numbered). ((is_of Topic Literal e && p e) || (is_of Topic Prefixed e && p e)) ≡ (is_topics e.binding && p e)) es
  all [] = tt
  all (e ∷ es) = (by (is_topics e.binding) (p e) e.binding.pattern, all es)
