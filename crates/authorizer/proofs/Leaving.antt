-- What the index has where the filter's bindings are taken out of those that are looked at.
use Rattle.std.proofs.Common.{◌≡◌, ℕ, ◌+◌, ◌<◌, List, [], ◌∷◌, length, take, get_or, filter, Some, Bool, true, false, cond, not, ◌&&◌, ◌||◌, refl, sym, ap, subst, ◌∙◌}
use Rattle.std.specs.Prelude.{◌==◌}
use Rattle.std.specs.List.{AllByRecursion}
use Rattle.std.specs.Option.{option_and_then}
use Rattle.std.specs.Str.{bytes_eq}
use Rattle.std.proofs.lemmas.Bool.{and_parts}
use Rattle.std.proofs.lemmas.Bool.Decides.{Decides-eqb}
use Rattle.std.proofs.lemmas.List.Folds.{list_any_more}
use Rattle.acl_binding.specs.declared.words.Kind.{Kind}
use Rattle.acl_binding.specs.declared.words.Pattern.{Pattern}
use Rattle.acl_binding.specs.declared.words.Pattern.TheVariants.{Literal, Prefixed}
use Rattle.acl_binding.specs.declared.binding.Numbered.{Numbered}
use Rattle.acl_binding.specs.declared.filter.Filter.{Filter}
use Rattle.acl_binding.specs.Filter.{is_not_matched}
use Rattle.acl_binding.specs.Words.{kind_number, pattern_number}
use Rattle.authorizer.specs.Index.{named_bindings, nonempty, HasLessAt}
use Rattle.authorizer.specs.Looking.{is_at, bindings_about, IsNamed, IsTableOf, IsKindIndexed, IsIndexed}
use Rattle.authorizer.specs.Picking.{picks, is_left, stands_at, stands_in, AreAllAt}
use Rattle.authorizer.specs.declared.index.KindIndex.{KindIndex}
use Rattle.authorizer.specs.declared.index.Index.{Index}
use Rattle.authorizer.specs.declared.acl_key.AclKey.{AclKey}
use Rattle.authorizer.proofs.Findings.{same_filter, each_of}
use Rattle.authorizer.proofs.Indexing.{filtered}
use Rattle.authorizer.proofs.Picks.{filter_both}
use Rattle.authorizer.proofs.Tables.{same_bytes}

of_all : (P : Numbered → Type 0) (es : List Numbered) → ((e : Numbered) → P e) → AllByRecursion P es
of_all P [] h = tt
of_all P (e ∷ es) h = (h e, of_all P es h)

-- where all of a part are looked at
left_here : (here looked m : Numbered → Bool) (es : List Numbered) → ((e : Numbered) → here e ≡ looked e) → filter (λ e. not (m e)) (filter here es) ≡ filter here (filter (λ e. not (looked e && m e)) es)
left_here here looked m es same =
    filter_both here (λ e. not (m e)) es
    ∙ same_filter (λ e. here e && not (m e)) (λ e. not (looked e && m e) && here e) es (of_all _ es (λ e. by (here e) (looked e) (m e) (same e)))
    ∙ sym (filter_both (λ e. not (looked e && m e)) here es) where
      by : (h l m : Bool) → h ≡ l → (h && not m) ≡ (not (l && m) && h)
      by true true true is = refl
      by true true false is = refl
      by true false m is = absurd (let clash : true ≡ false = is in cc)
      by false true m is = absurd (let clash : false ≡ true = is in cc)
      by false false m is = refl

-- where none of a part is looked at
left_there : (here looked m : Numbered → Bool) (es : List Numbered) → ((e : Numbered) → here e ≡ true → looked e ≡ false) → filter here es ≡ filter here (filter (λ e. not (looked e && m e)) es)
left_there here looked m es apart =
    same_filter here (λ e. not (looked e && m e) && here e) es (of_all _ es (λ e. by (here e) (looked e) (m e) (apart e)))
    ∙ sym (filter_both (λ e. not (looked e && m e)) here es) where
      by : (h l m : Bool) → (h ≡ true → l ≡ false) → h ≡ (not (l && m) && h)
      by true true m none = absurd (let clash : true ≡ false = none refl in cc)
      by true false m none = refl
      by false true true none = refl
      by false true false none = refl
      by false false m none = refl

-- ---- in one table

never : (a b : Bool) → b ≡ false → (a && b) ≡ false
never true b h = h
never false b h = refl

another_name : (own name other : List ℕ) → bytes_eq name other ≡ false → bytes_eq own other ≡ true → bytes_eq own name ≡ false
another_name own name other apart here = by (bytes_eq own name) refl where
  by : (b : Bool) → bytes_eq own name ≡ b → bytes_eq own name ≡ false
  by false is = is
  by true is = absurd (let clash : true ≡ false = sym here ∙ ap (λ (n : List ℕ). bytes_eq n other) (same_bytes own name is) ∙ apart in cc)

pub less_at : (old new : List (List ℕ × List Numbered)) (f : Filter) (kind : Kind) (pattern : Pattern) (name : List ℕ) (es : List Numbered) →
    HasLessAt old new name f → IsTableOf old kind pattern es → IsTableOf new kind pattern (filter (is_left f (is_at kind pattern name)) es)
less_at old new f kind pattern name es less is other = less other ∙ by (bytes_eq name other) refl where
  by : (b : Bool) → bytes_eq name other ≡ b →
      cond b (option_and_then (λ (held : List Numbered). nonempty (filter (is_not_matched f) held)) (named_bindings old other)) (named_bindings old other) ≡ nonempty (bindings_about kind pattern other (filter (is_left f (is_at kind pattern name)) es))
  by true same =
      ap (option_and_then (λ (held : List Numbered). nonempty (filter (is_not_matched f) held))) (is other)
      ∙ filtered (is_not_matched f) (bindings_about kind pattern other es)
      ∙ ap nonempty (left_here (is_at kind pattern other) (is_at kind pattern name) (picks f) es (λ e. ap (λ (n : List ℕ). is_at kind pattern n e) (sym (same_bytes name other same))))
  by false apart =
      is other
      ∙ ap nonempty (left_there (is_at kind pattern other) (is_at kind pattern name) (picks f) es (λ e here.
      let own = (and_parts (pattern_number e.binding.pattern == pattern_number pattern) _ (and_parts (kind_number e.binding.kind == kind_number kind) _ here).1).1 in
      never (kind_number e.binding.kind == kind_number kind) _ (never (pattern_number e.binding.pattern == pattern_number pattern) _ (another_name e.binding.name name other apart own))))

left_elsewhere : (table : List (List ℕ × List Numbered)) (kind : Kind) (pattern : Pattern) (es : List Numbered) (f : Filter) (looked : Numbered → Bool) →
    ((name : List ℕ) (e : Numbered) → is_at kind pattern name e ≡ true → looked e ≡ false) → IsTableOf table kind pattern es → IsTableOf table kind pattern (filter (is_left f looked) es)
left_elsewhere table kind pattern es f looked apart is name = is name ∙ ap nonempty (left_there (is_at kind pattern name) looked (picks f) es (apart name))

-- ---- in the tables of a kind

another_number : (n a b : ℕ) → (a == b) ≡ false → (n == a) ≡ true → (n == b) ≡ false
another_number n a b apart here = ap (λ (m : ℕ). m == b) ((Decides-eqb n a).0 here) ∙ apart

another_pattern : (kind : Kind) (own other : Pattern) (name : List ℕ) → (pattern_number own == pattern_number other) ≡ false → (at : List ℕ) (e : Numbered) → is_at kind own at e ≡ true → is_at kind other name e ≡ false
another_pattern kind own other name apart at e here =
    let pattern = (and_parts (pattern_number e.binding.pattern == pattern_number own) _ (and_parts (kind_number e.binding.kind == kind_number kind) _ here).1).0 in
    never (kind_number e.binding.kind == kind_number kind) _ (and_no _ _ (another_number (pattern_number e.binding.pattern) (pattern_number own) (pattern_number other) apart pattern)) where
      and_no : (a b : Bool) → a ≡ false → (a && b) ≡ false
      and_no true b h = absurd (let clash : true ≡ false = h in cc)
      and_no false b h = refl

pub literal_left : (k : KindIndex) (table : List (List ℕ × List Numbered)) (f : Filter) (name : List ℕ) → HasLessAt k.literal table name f →
    (kind : Kind) (es : List Numbered) → IsKindIndexed k kind es → IsKindIndexed (record { literal = table; prefixed = k.prefixed }) kind (filter (is_left f (is_at kind Literal name)) es)
literal_left k table f name less kind es is = record {
  literal = less_at k.literal table f kind Literal name es less is.literal;
  prefixed = left_elsewhere k.prefixed kind Prefixed es f (is_at kind Literal name) (another_pattern kind Prefixed Literal name refl) is.prefixed;
}

pub prefixed_left : (k : KindIndex) (table : List (List ℕ × List Numbered)) (f : Filter) (name : List ℕ) → HasLessAt k.prefixed table name f →
    (kind : Kind) (es : List Numbered) → IsKindIndexed k kind es → IsKindIndexed (record { literal = k.literal; prefixed = table }) kind (filter (is_left f (is_at kind Prefixed name)) es)
prefixed_left k table f name less kind es is = record {
  literal = left_elsewhere k.literal kind Literal es f (is_at kind Prefixed name) (another_pattern kind Literal Prefixed name refl) is.literal;
  prefixed = less_at k.prefixed table f kind Prefixed name es less is.prefixed;
}

another_kind : (kind other : Kind) (pattern : Pattern) (name : List ℕ) → (kind_number kind == kind_number other) ≡ false → (own : Pattern) (at : List ℕ) (e : Numbered) → is_at kind own at e ≡ true → is_at other pattern name e ≡ false
another_kind kind other pattern name apart own at e here =
    and_no _ _ (another_number (kind_number e.binding.kind) (kind_number kind) (kind_number other) apart (and_parts (kind_number e.binding.kind == kind_number kind) _ here).0) where
      and_no : (a b : Bool) → a ≡ false → (a && b) ≡ false
      and_no true b h = absurd (let clash : true ≡ false = h in cc)
      and_no false b h = refl

-- a place of the kind
pub kind_here : (k : KindIndex) (kind : Kind) (es : List Numbered) (f : Filter) (acl_key : AclKey) → acl_key.kind ≡ kind → IsKindIndexed k kind (filter (is_left f (is_at kind acl_key.pattern acl_key.name.now)) es) → IsKindIndexed k kind (filter (is_left f (stands_at acl_key)) es)
kind_here k kind es f acl_key of is = subst (λ (x : Kind). IsKindIndexed k kind (filter (is_left f (is_at x acl_key.pattern acl_key.name.now)) es)) (sym of) is

-- a place of another kind
pub kind_left : (k : KindIndex) (kind : Kind) (es : List Numbered) (f : Filter) (acl_key : AclKey) → (kind_number kind == kind_number acl_key.kind) ≡ false → IsKindIndexed k kind es → IsKindIndexed k kind (filter (is_left f (stands_at acl_key)) es)
kind_left k kind es f acl_key apart is = record {
  literal = left_elsewhere k.literal kind Literal es f (stands_at acl_key) (another_kind kind acl_key.kind acl_key.pattern acl_key.name.now apart Literal) is.literal;
  prefixed = left_elsewhere k.prefixed kind Prefixed es f (stands_at acl_key) (another_kind kind acl_key.kind acl_key.pattern acl_key.name.now apart Prefixed) is.prefixed;
}

-- ---- one place after the other

all_left : (es : List Numbered) → filter (λ e. true) es ≡ es
all_left [] = refl
all_left (e ∷ es) = ap (λ (l : List Numbered). e ∷ l) (all_left es)

pub left_nowhere : (index : Index) (f : Filter) (es : List Numbered) → IsIndexed index es → IsIndexed index (filter (is_left f (stands_in [])) es)
left_nowhere index f es is = subst (IsIndexed index) (sym (all_left es)) is

left_both : (f : Filter) (A B : Numbered → Bool) (es : List Numbered) → filter (is_left f B) (filter (is_left f A) es) ≡ filter (is_left f (λ e. A e || B e)) es
left_both f A B es =
    filter_both (is_left f A) (is_left f B) es
    ∙ same_filter (λ e. is_left f A e && is_left f B e) (is_left f (λ e. A e || B e)) es (of_all _ es (λ e. by (A e) (B e) (picks f e))) where
      by : (a b m : Bool) → (not (a && m) && not (b && m)) ≡ not ((a || b) && m)
      by true b true = refl
      by true true false = refl
      by true false false = refl
      by false b m = refl

pub left_key : (index : Index) (f : Filter) (acl_keys : List AclKey) (i : ℕ) (d : AclKey) (es : List Numbered) → i < length acl_keys →
    IsIndexed index (filter (is_left f (stands_at (get_or acl_keys i d))) (filter (is_left f (stands_in (take i acl_keys))) es)) → IsIndexed index (filter (is_left f (stands_in (take (i + 1) acl_keys))) es)
left_key index f acl_keys i d es lt now =
    subst (IsIndexed index)
    (left_both f (stands_in (take i acl_keys)) (stands_at (get_or acl_keys i d)) es
    ∙ ap (λ (T : Numbered → Bool). filter (is_left f T) es) (λ j (e : Numbered). sym (list_any_more (λ (p : AclKey). stands_at p e) acl_keys i d lt) j)) now

-- all that the filter picks stands at the places
pub left_all : (acl_keys : List AclKey) (f : Filter) (es : List Numbered) → AreAllAt (Some acl_keys) f → AllByRecursion IsNamed es → filter (is_left f (stands_in acl_keys)) es ≡ filter (is_not_matched f) es
left_all acl_keys f es covers named = same_filter (is_left f (stands_in acl_keys)) (is_not_matched f) es (each_of IsNamed _ es (λ e n. by (stands_in acl_keys e) (picks f e) (covers e n)) named) where
  by : (s m : Bool) → (m ≡ true → s ≡ true) → not (s && m) ≡ not m
  by true m h = refl
  by false false h = refl
  by false true h = ap (λ (s : Bool). not s) (h refl)
