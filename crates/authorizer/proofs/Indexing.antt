-- The tables of an index after an edit of the book.
use Rattle.std.proofs.Common.{◌≡◌, ℕ, List, [], ◌∷◌, ◌++◌, filter, Option, Some, Bool, true, false, cond, ◌&&◌, refl, sym, ap, ◌∙◌, arith, append-nil}
use Rattle.std.specs.Prelude.{◌==◌}
use Rattle.std.specs.Option.{unwrap_or, option_and_then}
use Rattle.std.proofs.lemmas.List.Elements.{filter-append}
use Rattle.acl_binding.specs.declared.words.Kind.{Kind}
use Rattle.acl_binding.specs.declared.words.Pattern.{Pattern}
use Rattle.acl_binding.specs.declared.words.Pattern.TheVariants.{Literal, Prefixed}
use Rattle.acl_binding.specs.declared.binding.Numbered.{Numbered}
use Rattle.acl_binding.specs.declared.filter.Filter.{Filter}
use Rattle.acl_binding.specs.Filter.{is_not_matched}
use Rattle.acl_binding.specs.Words.{kind_number, pattern_number}
use Rattle.std.specs.Str.{bytes_eq}
use Rattle.authorizer.specs.Index.{named_bindings, bindings_under, nonempty, HasMore, HasSame, HasLess}
use Rattle.authorizer.specs.Looking.{is_at, bindings_about, IsTableOf, IsKindIndexed}
use Rattle.authorizer.specs.declared.index.KindIndex.{KindIndex}
use Rattle.authorizer.proofs.Tables.{same_bytes}

pub unwrapped : (xs : List Numbered) → unwrap_or (nonempty xs) [] ≡ xs
unwrapped [] = refl
unwrapped (x ∷ xs) = refl

pub pushed : (xs : List Numbered) (e : Numbered) → Some (xs ++ e ∷ []) ≡ nonempty (xs ++ e ∷ [])
pushed [] e = refl
pushed (x ∷ xs) e = refl

self_eq : (n : ℕ) → (n == n) ≡ true
self_eq n = grind arith

and_right : (a b : Bool) → b ≡ false → (a && b) ≡ false
and_right true b h = h
and_right false b h = refl

and_left : (a b : Bool) → a ≡ false → (a && b) ≡ false
and_left true b h = absurd (let clash : true ≡ false = h in cc)
and_left false b h = refl

and_both : (a b c : Bool) → a ≡ true → b ≡ true → (a && (b && c)) ≡ c
and_both true true c h k = refl
and_both true false c h k = absurd (let clash : false ≡ true = k in cc)
and_both false b c h k = absurd (let clash : false ≡ true = h in cc)

-- what the end adds
about_push : (kind : Kind) (pattern : Pattern) (name : List ℕ) (es : List Numbered) (e : Numbered) → bindings_about kind pattern name (es ++ e ∷ []) ≡ bindings_about kind pattern name es ++ cond (is_at kind pattern name e) (e ∷ []) []
about_push kind pattern name es e = filter-append (is_at kind pattern name) es (e ∷ [])

pub more_here : (old new : List (List ℕ × List Numbered)) (kind : Kind) (pattern : Pattern) (es : List Numbered) (e : Numbered) →
    kind_number e.binding.kind ≡ kind_number kind → pattern_number e.binding.pattern ≡ pattern_number pattern →
    HasMore old new e.binding.name e → IsTableOf old kind pattern es → IsTableOf new kind pattern (es ++ e ∷ [])
more_here old new kind pattern es e k p more table name =
    let test : is_at kind pattern name e ≡ bytes_eq e.binding.name name = and_both _ _ _ (ap (λ (n : ℕ). n == kind_number kind) k ∙ self_eq (kind_number kind)) (ap (λ (n : ℕ). n == pattern_number pattern) p ∙ self_eq (pattern_number pattern)) in
    more name ∙ by (bytes_eq e.binding.name name) refl
    ∙ sym (ap (λ (b : Bool). nonempty (bindings_about kind pattern name es ++ cond b (e ∷ []) [])) test)
    ∙ sym (ap nonempty (about_push kind pattern name es e)) where
      by : (b : Bool) → bytes_eq e.binding.name name ≡ b → cond b (Some (bindings_under old e.binding.name ++ e ∷ [])) (named_bindings old name) ≡ nonempty (bindings_about kind pattern name es ++ cond b (e ∷ []) [])
      by true same =
          let held : bindings_under old e.binding.name ≡ bindings_about kind pattern name es =
          ap (λ (o : Option (List Numbered)). unwrap_or o []) (table e.binding.name) ∙ unwrapped (bindings_about kind pattern e.binding.name es) ∙ ap (λ (n : List ℕ). bindings_about kind pattern n es) (same_bytes e.binding.name name same) in
          ap (λ (h : List Numbered). Some (h ++ e ∷ [])) held ∙ pushed (bindings_about kind pattern name es) e
      by false same = table name ∙ ap nonempty (sym (append-nil (bindings_about kind pattern name es)))

pub more_elsewhere : (table : List (List ℕ × List Numbered)) (kind : Kind) (pattern : Pattern) (es : List Numbered) (e : Numbered) →
    ((name : List ℕ) → is_at kind pattern name e ≡ false) → IsTableOf table kind pattern es → IsTableOf table kind pattern (es ++ e ∷ [])
more_elsewhere table kind pattern es e other is name =
    is name ∙ ap nonempty (sym (append-nil (bindings_about kind pattern name es)))
    ∙ sym (ap (λ (b : Bool). nonempty (bindings_about kind pattern name es ++ cond b (e ∷ []) [])) (other name))
    ∙ sym (ap nonempty (about_push kind pattern name es e))

pub other_pattern : (kind : Kind) (pattern : Pattern) (e : Numbered) → (pattern_number e.binding.pattern == pattern_number pattern) ≡ false → (name : List ℕ) → is_at kind pattern name e ≡ false
other_pattern kind pattern e h name = and_right _ _ (and_left _ _ h)

-- tables that kept what they had
pub literal_same : (old : KindIndex) (table : List (List ℕ × List Numbered)) → HasSame old.literal table →
    (kind : Kind) (es : List Numbered) → IsKindIndexed old kind es → IsKindIndexed (record { literal = table; prefixed = old.prefixed }) kind es
literal_same old table same kind es is = record { literal = λ name. same name ∙ is.literal name; prefixed = is.prefixed }

pub prefixed_same : (old : KindIndex) (table : List (List ℕ × List Numbered)) → HasSame old.prefixed table →
    (kind : Kind) (es : List Numbered) → IsKindIndexed old kind es → IsKindIndexed (record { literal = old.literal; prefixed = table }) kind es
prefixed_same old table same kind es is = record { literal = is.literal; prefixed = λ name. same name ∙ is.prefixed name }

pub literal_added : (old : KindIndex) (table : List (List ℕ × List Numbered)) (e : Numbered) → e.binding.pattern ≡ Literal → HasMore old.literal table e.binding.name e →
    (kind : Kind) (es : List Numbered) → kind_number e.binding.kind ≡ kind_number kind → IsKindIndexed old kind es → IsKindIndexed (record { literal = table; prefixed = old.prefixed }) kind (es ++ e ∷ [])
literal_added old table e p more kind es k is = record {
  literal = more_here old.literal table kind Literal es e k (ap pattern_number p) more is.literal;
  prefixed = more_elsewhere old.prefixed kind Prefixed es e (other_pattern kind Prefixed e (ap (λ (x : Pattern). pattern_number x == 4) p)) is.prefixed;
}

pub prefixed_added : (old : KindIndex) (table : List (List ℕ × List Numbered)) (e : Numbered) → e.binding.pattern ≡ Prefixed → HasMore old.prefixed table e.binding.name e →
    (kind : Kind) (es : List Numbered) → kind_number e.binding.kind ≡ kind_number kind → IsKindIndexed old kind es → IsKindIndexed (record { literal = old.literal; prefixed = table }) kind (es ++ e ∷ [])
prefixed_added old table e p more kind es k is = record {
  literal = more_elsewhere old.literal kind Literal es e (other_pattern kind Literal e (ap (λ (x : Pattern). pattern_number x == 3) p)) is.literal;
  prefixed = more_here old.prefixed table kind Prefixed es e k (ap pattern_number p) more is.prefixed;
}

-- a binding of another kind leaves a kind's tables
pub other_kind : (k : KindIndex) (kind : Kind) (es : List Numbered) (e : Numbered) → (kind_number e.binding.kind == kind_number kind) ≡ false → IsKindIndexed k kind es → IsKindIndexed k kind (es ++ e ∷ [])
other_kind k kind es e other is = record {
  literal = more_elsewhere k.literal kind Literal es e (λ name. and_left _ _ other) is.literal;
  prefixed = more_elsewhere k.prefixed kind Prefixed es e (λ name. and_left _ _ other) is.prefixed;
}

-- ---- what `clean` leaves

pub filter_swap : (p s : Numbered → Bool) (es : List Numbered) → filter s (filter p es) ≡ filter p (filter s es)
filter_swap p s [] = refl
filter_swap p s (e ∷ es) = by (filter_swap p s es) (p e) (s e) refl refl where
  by : filter s (filter p es) ≡ filter p (filter s es) → (a b : Bool) → p e ≡ a → s e ≡ b → filter s (cond a (e ∷ filter p es) (filter p es)) ≡ filter p (cond b (e ∷ filter s es) (filter s es))
  by rest true true pe se = ap (λ (b : Bool). cond b (e ∷ filter s (filter p es)) (filter s (filter p es))) se ∙ ap (λ (l : List Numbered). e ∷ l) rest ∙ sym (ap (λ (b : Bool). cond b (e ∷ filter p (filter s es)) (filter p (filter s es))) pe)
  by rest true false pe se = ap (λ (b : Bool). cond b (e ∷ filter s (filter p es)) (filter s (filter p es))) se ∙ rest
  by rest false true pe se = rest ∙ sym (ap (λ (b : Bool). cond b (e ∷ filter p (filter s es)) (filter p (filter s es))) pe)
  by rest false false pe se = rest

pub filtered : (s : Numbered → Bool) (xs : List Numbered) → option_and_then (λ held. nonempty (filter s held)) (nonempty xs) ≡ nonempty (filter s xs)
filtered s [] = refl
filtered s (x ∷ xs) = refl

pub less_table : (old new : List (List ℕ × List Numbered)) (f : Filter) (kind : Kind) (pattern : Pattern) (es : List Numbered) → HasLess old new f → IsTableOf old kind pattern es → IsTableOf new kind pattern (filter (is_not_matched f) es)
less_table old new f kind pattern es less is name =
    less name ∙ ap (option_and_then (λ (held : List Numbered). nonempty (filter (is_not_matched f) held))) (is name)
    ∙ filtered (is_not_matched f) (bindings_about kind pattern name es) ∙ ap nonempty (filter_swap (is_at kind pattern name) (is_not_matched f) es)
