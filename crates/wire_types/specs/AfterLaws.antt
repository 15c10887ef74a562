-- The laws of what stands after its count.
use Rattle.std.proofs.Common.{◌≡◌, ℕ, ◌<◌, ◌≤◌, true, false, cond, ltb, List, [], ◌∷◌, ◌++◌, length, take, drop, Option, Some, None, Ok, Err, refl, sym, ap, subst, ◌∙◌, append_assoc, arith}
use Rattle.std.specs.Str.{IsUtf8, is_utf8}
use Rattle.std.proofs.lemmas.Str.{IsUtf8-from_is_utf8, is_utf8-from_IsUtf8}
use Rattle.std.proofs.lemmas.Bool.{ltb-false, le-ltb}
use Rattle.std.proofs.lemmas.List.{length-append, length-take, take-append-drop, take_at, drop_at}
use Rattle.wire_types.specs.declared.fault.Malformed.TheVariants.{Short, Utf8}
use Rattle.wire_types.specs.Reading.{front_at, utf8_at, many_at, items_at, after_count_at, null_or, after_null_count_at}
use Rattle.wire_types.specs.Spelling.{many_written, many_fit, after_count_written, after_count_fits, after_null_count_written, after_null_count_put, after_null_count_fits, after_null_count_left, left_after, then_left, many_left}
use Rattle.wire_types.specs.Grammar.{IsBytes, AreMany, IsAfter, IsNullAfter, Grammar, Content}
use Rattle.wire_types.specs.NumberLaws.{bind_ok, guard_ok, pass_ok, ok_is, IsBytes-front, IsBytes-rest}
use Rattle.wire_types.specs.BudgetLaws.{left_of_parts, left_after_nothing}
use Rattle.wire_types.specs.ListLaws.{many-sound, many-complete, many-at_least, if_ok, and_parts}

-- ---- so many bytes

pub front-sound : (n : ℕ) (bytes t rest : List ℕ) → front_at n bytes ≡ Ok (t, rest)
    → (text : List ℕ) × (bytes ≡ text ++ rest) × (length t ≡ n) × (text ≡ t)
unfolding front_at
front-sound n bytes t rest e =
    let g = guard_ok (ltb (length bytes) n) Short (take n bytes, drop n bytes) (t, rest) e in
    let enough : n ≤ length bytes = ltb-false _ _ g.0 in
    let P : List ℕ × List ℕ
    → Type 0 = λ x. (text : List ℕ) × (bytes ≡ text ++ x.1) × (length x.0 ≡ n) × (text ≡ x.0) in
    subst P g.1
    (take n bytes, sym (take-append-drop n bytes), omega (arith, length-take n bytes), refl)

pub front-complete : (text rest t : List ℕ) → text ≡ t
    → front_at (length t) (text ++ rest) ≡ Ok (t, rest)
unfolding front_at
front-complete text rest t is =
    let enough : ltb (length (t ++ rest)) (length t)
    ≡ false = le-ltb _ _ (omega (arith, length-append t rest)) in
    rw is (rw (enough, take_at t rest (length t) refl, drop_at t rest (length t) refl) refl)

-- ---- so many bytes of text

pub utf8-sound : (n : ℕ) (bytes t rest : List ℕ) → utf8_at n bytes ≡ Ok (t, rest)
    → (text : List ℕ) × (bytes ≡ text ++ rest) × (length t ≡ n) × ((text ≡ t) × IsUtf8 t)
unfolding utf8_at
utf8-sound n bytes t rest e =
    let a = bind_ok (front_at n bytes) (λ x. cond (is_utf8 x.0) (Ok x) (Err Utf8)) (t, rest) e in
    let p = pass_ok (is_utf8 a.0.0) Utf8 a.0 (t, rest) a.2 in
    let q = front-sound n bytes t rest (a.1 ∙ ap (λ (x : List ℕ × List ℕ). Ok x) p.1) in (
      q.0,
      q.1,
      q.2,
      (q.3, subst (λ (x : List ℕ × List ℕ). IsUtf8 x.0) p.1 (IsUtf8-from_is_utf8 a.0.0 p.0)),
    )

pub utf8-complete : (text rest t : List ℕ) → (text ≡ t) × IsUtf8 t
    → utf8_at (length t) (text ++ rest) ≡ Ok (t, rest)
unfolding utf8_at
utf8-complete text rest t h =
    let fits : is_utf8 t ≡ true = is_utf8-from_IsUtf8 t h.1 in
    rw (front-complete text rest t h.0) (rw fits refl)

-- ---- so many items

pub items-sound : {A : Type 0} (g : Grammar A) (n : ℕ) (bytes : List ℕ) (xs : List A)
    (rest : List ℕ)
    → items_at g.reading n bytes ≡ Ok (xs, rest)
    → (text : List ℕ) × (bytes ≡ text ++ rest) × (length xs ≡ n) × AreMany g.Spells text xs
unfolding items_at
items-sound g n bytes xs rest e =
    many-sound g n bytes xs rest
    (if_ok (ltb (length bytes) n) Short (many_at g.reading n bytes) (xs, rest) e).1

pub items-complete : {A : Type 0} (g : Grammar A) (text rest : List ℕ) (xs : List A)
    → AreMany g.Spells text xs → items_at g.reading (length xs) (text ++ rest) ≡ Ok (xs, rest)
unfolding items_at
items-complete g text rest xs h =
    let enough : ltb (length (text ++ rest)) (length xs)
    ≡ false = le-ltb _ _ (omega (arith, many-at_least g text xs h, length-append text rest)) in
    rw enough (many-complete g text rest xs h)

pub items-lefts : {A : Type 0} (g : Grammar A) (xs : List A) (budget : ℕ)
    → many_left g.left xs budget
    ≡ left_after (many_fit g.fits xs) (length (many_written g.written xs)) budget
unfolding many_left many_fit many_written
items-lefts g [] budget = left_after_nothing budget
items-lefts g (x ∷ xs) budget =
    left_of_parts (g.fits x) (many_fit g.fits xs) (g.written x) (many_written g.written xs) budget
    (g.left x budget) (many_left g.left xs) (g.lefts x budget) (items-lefts g xs)

-- ---- after a count

pub after_count-sound : {A : Type 0} (c : Grammar ℕ) (k : Content A) (bytes : List ℕ) (x : A)
    (rest : List ℕ)
    → after_count_at c.reading k.reading bytes ≡ Ok (x, rest)
    → (text : List ℕ) × (bytes ≡ text ++ rest) × IsAfter k.count c.Spells k.Spells text x
unfolding after_count_at
after_count-sound c k bytes x rest e =
    let a = bind_ok (c.reading bytes) (λ n. k.reading n.0 n.1) (x, rest) e in
    let p = c.sound bytes a.0.0 a.0.1 a.1 in
    let q = k.sound a.0.0 a.0.1 x rest a.2 in
    let regrouped : bytes
    ≡ (p.0 ++ q.0)
    ++ rest = p.1 ∙ ap (λ (t : List ℕ). p.0 ++ t) q.1 ∙ sym (append_assoc p.0 q.0 rest) in
    (p.0 ++ q.0, regrouped, (p.0, q.0, refl, subst (c.Spells p.0) (sym q.2) p.2, q.3))

pub after_count-complete : {A : Type 0} (c : Grammar ℕ) (k : Content A) (text rest : List ℕ) (x : A)
    → IsAfter k.count c.Spells k.Spells text x
    → after_count_at c.reading k.reading (text ++ rest) ≡ Ok (x, rest)
unfolding after_count_at
after_count-complete c k text rest x h =
    let regrouped : text ++ rest
    ≡ h.0 ++ (h.1 ++ rest) = ap (λ (t : List ℕ). t ++ rest) h.2 ∙ append_assoc h.0 h.1 rest in
    ap (after_count_at c.reading k.reading) regrouped
    ∙ rw (c.complete h.0 (h.1 ++ rest) (k.count x) h.3) (k.complete h.1 rest x h.4)

pub after_count-puts : {A : Type 0} (c : Grammar ℕ) (k : Content A) (old : List ℕ) (x : A)
    → c.put old (k.count x) ++ k.written x
    ≡ old ++ after_count_written k.count c.written k.written x
unfolding after_count_written
after_count-puts c k old x =
    ap (λ (t : List ℕ). t ++ k.written x) (c.puts old (k.count x))
    ∙ append_assoc old (c.written (k.count x)) (k.written x)

pub after_count-lefts : {A : Type 0} (c : Grammar ℕ) (k : Content A) (x : A) (budget : ℕ)
    → then_left (c.left (k.count x) budget) (k.left x)
    ≡ left_after (after_count_fits k.count c.fits k.fits x)
    (length (after_count_written k.count c.written k.written x)) budget
unfolding after_count_fits after_count_written
after_count-lefts c k x budget =
    left_of_parts (c.fits (k.count x)) (k.fits x) (c.written (k.count x)) (k.written x) budget
    (c.left (k.count x) budget) (k.left x) (c.lefts (k.count x) budget) (k.lefts x)

pub after_count-canonical : {A : Type 0} (c : Grammar ℕ) (k : Content A) (x : A)
    → c.InType (k.count x) × k.InType x → after_count_fits k.count c.fits k.fits x ≡ true
    → IsAfter k.count c.Spells k.Spells (after_count_written k.count c.written k.written x) x
unfolding after_count_fits after_count_written
after_count-canonical c k x types fits =
    let p = and_parts (c.fits (k.count x)) (k.fits x) fits in (
      c.written (k.count x),
      k.written x,
      refl,
      c.canonical (k.count x) types.0 p.0,
      k.canonical x types.1 p.1,
    )

pub after_count-shortest : {A : Type 0} (c : Grammar ℕ) (k : Content A) (text : List ℕ) (x : A)
    → IsBytes text → IsAfter k.count c.Spells k.Spells text x
    → (c.InType (k.count x) × k.InType x) × (after_count_fits k.count c.fits k.fits x ≡ true)
    × (length (after_count_written k.count c.written k.written x) ≤ length text)
unfolding after_count_fits after_count_written
after_count-shortest c k text x bytes h =
    let parts_bytes : IsBytes (h.0 ++ h.1) = subst IsBytes h.2 bytes in
    let p = c.shortest h.0 (k.count x) (IsBytes-front h.0 h.1 parts_bytes) h.3 in
    let q = k.shortest h.1 x (IsBytes-rest h.0 h.1 parts_bytes) h.4 in (
      (p.0, q.0),
      rw (p.1, q.1) refl,
      omega (
        arith,
        p.2,
        q.2,
        length-append (c.written (k.count x)) (k.written x),
        length-append h.0 h.1,
        ap length h.2,
      ),
    )

pub after_count-some : {A : Type 0} (c : Grammar ℕ) (k : Content A) (text : List ℕ) (x : A)
    → IsAfter k.count c.Spells k.Spells text x → 0 < length text
after_count-some c k text x h =
    omega (arith, c.some_bytes h.0 (k.count x) h.3, length-append h.0 h.1, ap length h.2)

-- ---- after a count that may be null

null_or-sound : {A : Type 0} (c : Grammar (Option ℕ)) (k : Content A) (n : Option ℕ)
    (bytes : List ℕ) (o : Option A) (rest front : List ℕ)
    → c.Spells front n → null_or k.reading n bytes ≡ Ok (o, rest)
    → (text : List ℕ) × (front ++ bytes ≡ text ++ rest)
    × IsNullAfter k.count c.Spells k.Spells text o
unfolding null_or
null_or-sound {A} c k None bytes o rest front h e =
    subst
    (λ (x : Option A × List ℕ). (text : List ℕ) × (front ++ bytes ≡ text ++ x.1)
    × IsNullAfter k.count c.Spells k.Spells text x.0)
    (ok_is (None, bytes) (o, rest) e) (front, refl, h)
null_or-sound {A} c k (Some n) bytes o rest front h e =
    let a = bind_ok (k.reading n bytes) (λ x. Ok (Some x.0, x.1)) (o, rest) e in
    let q = k.sound n bytes a.0.0 a.0.1 a.1 in
    let made : Option A × List ℕ = (Some a.0.0, a.0.1) in
    let regrouped : front ++ bytes
    ≡ (front ++ q.0)
    ++ a.0.1 = ap (λ (x : List ℕ). front ++ x) q.1 ∙ sym (append_assoc front q.0 a.0.1) in
    let counted : c.Spells front (Some (k.count a.0.0)) = subst (λ (m : ℕ). c.Spells front (Some m))
    (sym q.2) h in
    subst
    (λ (x : Option A × List ℕ). (text : List ℕ) × (front ++ bytes ≡ text ++ x.1)
    × IsNullAfter k.count c.Spells k.Spells text x.0)
    (ok_is made (o, rest) a.2) (front ++ q.0, regrouped, (front, q.0, refl, counted, q.3))

pub after_null_count-sound : {A : Type 0} (c : Grammar (Option ℕ)) (k : Content A) (bytes : List ℕ)
    (o : Option A) (rest : List ℕ)
    → after_null_count_at c.reading k.reading bytes ≡ Ok (o, rest)
    → (text : List ℕ) × (bytes ≡ text ++ rest) × IsNullAfter k.count c.Spells k.Spells text o
unfolding after_null_count_at
after_null_count-sound c k bytes o rest e =
    let a = bind_ok (c.reading bytes) (λ n. null_or k.reading n.0 n.1) (o, rest) e in
    let p = c.sound bytes a.0.0 a.0.1 a.1 in
    let q = null_or-sound c k a.0.0 a.0.1 o rest p.0 p.2 a.2 in
    (q.0, p.1 ∙ q.1, q.2)

pub after_null_count-complete : {A : Type 0} (c : Grammar (Option ℕ)) (k : Content A)
    (text rest : List ℕ) (o : Option A)
    → IsNullAfter k.count c.Spells k.Spells text o
    → after_null_count_at c.reading k.reading (text ++ rest) ≡ Ok (o, rest)
unfolding after_null_count_at null_or
after_null_count-complete c k text rest None h = rw (c.complete text rest None h) refl
after_null_count-complete c k text rest (Some x) h =
    let regrouped : text ++ rest
    ≡ h.0 ++ (h.1 ++ rest) = ap (λ (t : List ℕ). t ++ rest) h.2 ∙ append_assoc h.0 h.1 rest in
    ap (after_null_count_at c.reading k.reading) regrouped
    ∙ rw (c.complete h.0 (h.1 ++ rest) (Some (k.count x)) h.3, k.complete h.1 rest x h.4) refl

pub after_null_count-puts : {A : Type 0} (c : Grammar (Option ℕ)) (k : Content A) (old : List ℕ)
    (o : Option A)
    → after_null_count_put k.count c.put k.written old o
    ≡ old ++ after_null_count_written k.count c.written k.written o
unfolding after_null_count_put after_null_count_written
after_null_count-puts c k old None = c.puts old None
after_null_count-puts c k old (Some x) =
    ap (λ (t : List ℕ). t ++ k.written x) (c.puts old (Some (k.count x)))
    ∙ append_assoc old (c.written (Some (k.count x))) (k.written x)

pub after_null_count-lefts : {A : Type 0} (c : Grammar (Option ℕ)) (k : Content A) (o : Option A)
    (budget : ℕ)
    → after_null_count_left k.count c.left k.left o budget
    ≡ left_after (after_null_count_fits k.count c.fits k.fits o)
    (length (after_null_count_written k.count c.written k.written o)) budget
unfolding after_null_count_left after_null_count_fits after_null_count_written
after_null_count-lefts c k None budget = c.lefts None budget
after_null_count-lefts c k (Some x) budget =
    left_of_parts (c.fits (Some (k.count x))) (k.fits x) (c.written (Some (k.count x)))
    (k.written x) budget (c.left (Some (k.count x)) budget) (k.left x)
    (c.lefts (Some (k.count x)) budget) (k.lefts x)

-- what the Rust type of a value that may be null gives
abbrev pub NullInType : {A : Type 0} → (A → ℕ) → (Option ℕ → Type 0) → (A → Type 0) → Option A
    → Type 0
NullInType count P Q None = P None
NullInType count P Q (Some x) = P (Some (count x)) × Q x

pub after_null_count-canonical : {A : Type 0} (c : Grammar (Option ℕ)) (k : Content A)
    (o : Option A)
    → NullInType k.count c.InType k.InType o → after_null_count_fits k.count c.fits k.fits o ≡ true
    → IsNullAfter k.count c.Spells k.Spells (after_null_count_written k.count c.written k.written o)
    o
unfolding after_null_count_fits after_null_count_written
after_null_count-canonical c k None types fits = c.canonical None types fits
after_null_count-canonical c k (Some x) types fits =
    let p = and_parts (c.fits (Some (k.count x))) (k.fits x) fits in (
      c.written (Some (k.count x)),
      k.written x,
      refl,
      c.canonical (Some (k.count x)) types.0 p.0,
      k.canonical x types.1 p.1,
    )

pub after_null_count-shortest : {A : Type 0} (c : Grammar (Option ℕ)) (k : Content A)
    (text : List ℕ) (o : Option A)
    → IsBytes text → IsNullAfter k.count c.Spells k.Spells text o
    → NullInType k.count c.InType k.InType o
    × (after_null_count_fits k.count c.fits k.fits o ≡ true)
    × (length (after_null_count_written k.count c.written k.written o) ≤ length text)
unfolding after_null_count_fits after_null_count_written
after_null_count-shortest c k text None bytes h = c.shortest text None bytes h
after_null_count-shortest c k text (Some x) bytes h =
    let parts_bytes : IsBytes (h.0 ++ h.1) = subst IsBytes h.2 bytes in
    let p = c.shortest h.0 (Some (k.count x)) (IsBytes-front h.0 h.1 parts_bytes) h.3 in
    let q = k.shortest h.1 x (IsBytes-rest h.0 h.1 parts_bytes) h.4 in (
      (p.0, q.0),
      rw (p.1, q.1) refl,
      omega (
        arith,
        p.2,
        q.2,
        length-append (c.written (Some (k.count x))) (k.written x),
        length-append h.0 h.1,
        ap length h.2,
      ),
    )

pub after_null_count-some : {A : Type 0} (c : Grammar (Option ℕ)) (k : Content A) (text : List ℕ)
    (o : Option A)
    → IsNullAfter k.count c.Spells k.Spells text o → 0 < length text
after_null_count-some c k text None h = c.some_bytes text None h
after_null_count-some c k text (Some x) h =
    omega (arith, c.some_bytes h.0 (Some (k.count x)) h.3, length-append h.0 h.1, ap length h.2)
