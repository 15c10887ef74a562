-- A count above the number of bytes left is Short, as what stands after one is.
use Rattle.std.proofs.Common.{◌≡◌, ℕ, Bool, true, false, cond, ltb, List, length, Ok, Err, refl, ap, subst, ◌∙◌}
use Rattle.wire_types.specs.declared.fault.Malformed.{Malformed}
use Rattle.wire_types.specs.declared.fault.Malformed.TheVariants.{Short}
use Rattle.wire_types.specs.Reading.{Found, ◌>>=◌, front_at, utf8_at, many_at, items_at, after_count_at, counted_at}
use Rattle.wire_types.specs.NumberLaws.{bind_ok, guard_ok}

-- ---- a count that is taken

taken : (count : List ℕ → Found ℕ) (bytes rest : List ℕ) (n : ℕ) → counted_at count bytes ≡ Ok (n, rest) → (count bytes ≡ Ok (n, rest)) × (ltb (length rest) n ≡ false)
unfolding counted_at
taken count bytes rest n e =
    let a = bind_ok (count bytes) (λ m. cond (ltb (length m.1) m.0) (Err Short) (Ok m)) (n, rest) e in
    let g = guard_ok (ltb (length a.0.1) a.0.0) Short a.0 (n, rest) a.2 in
    (a.1 ∙ ap (λ (m : ℕ × List ℕ). Ok m) g.1, subst (λ (m : ℕ × List ℕ). ltb (length m.1) m.0 ≡ false) g.1 g.0)

pub content_after : {A : Type 0} (count : List ℕ → Found ℕ) (content : ℕ → List ℕ → Found A) (bytes rest : List ℕ) (n : ℕ) → counted_at count bytes ≡ Ok (n, rest) → after_count_at count content bytes ≡ content n rest
unfolding after_count_at
content_after count content bytes rest n e = rw (taken count bytes rest n e).0 refl

pub many_after : {A : Type 0} (count : List ℕ → Found ℕ) (one : List ℕ → Found A) (bytes rest : List ℕ) (n : ℕ) → counted_at count bytes ≡ Ok (n, rest) → after_count_at count (items_at one) bytes ≡ many_at one n rest
unfolding items_at
many_after count one bytes rest n e = content_after count (items_at one) bytes rest n e ∙ rw (taken count bytes rest n e).1 refl

-- ---- a count that is refused

-- what is Short where there are fewer bytes than were announced
abbrev pub NeedsBytes : {A : Type 0} → (ℕ → List ℕ → Found A) → Type 0
NeedsBytes content = (n : ℕ) (bytes : List ℕ) → ltb (length bytes) n ≡ true → content n bytes ≡ Err Short

refused_above : {A : Type 0} (content : ℕ → List ℕ → Found A) → NeedsBytes content → (m : ℕ × List ℕ) (above : Bool) (e : Malformed) → ltb (length m.1) m.0 ≡ above → cond above (Err Short) (Ok m) ≡ Err e → content m.0 m.1 ≡ Err e
refused_above content needs m true e is given = needs m.0 m.1 is ∙ cc
refused_above content needs m false e is given = absurd cc

refused_found : {A : Type 0} (content : ℕ → List ℕ → Found A) → NeedsBytes content → (found : Found ℕ) (e : Malformed) → (found >>= λ m. cond (ltb (length m.1) m.0) (Err Short) (Ok m)) ≡ Err e → (found >>= λ m. content m.0 m.1) ≡ Err e
refused_found content needs (Err d) e given = cc
refused_found content needs (Ok m) e given = refused_above content needs m (ltb (length m.1) m.0) e refl given

pub refused : {A : Type 0} (count : List ℕ → Found ℕ) (content : ℕ → List ℕ → Found A) → NeedsBytes content → (bytes : List ℕ) (e : Malformed) → counted_at count bytes ≡ Err e → after_count_at count content bytes ≡ Err e
unfolding counted_at after_count_at
refused count content needs bytes e given = refused_found content needs (count bytes) e given

pub many_refused : {A : Type 0} (count : List ℕ → Found ℕ) (one : List ℕ → Found A) (bytes : List ℕ) (e : Malformed) → counted_at count bytes ≡ Err e → after_count_at count (items_at one) bytes ≡ Err e
unfolding items_at
many_refused count one = refused count (items_at one) (λ n bytes above. rw above refl)

pub front_refused : (count : List ℕ → Found ℕ) (bytes : List ℕ) (e : Malformed) → counted_at count bytes ≡ Err e → after_count_at count front_at bytes ≡ Err e
unfolding front_at
front_refused count = refused count front_at (λ n bytes above. rw above refl)

pub utf8_refused : (count : List ℕ → Found ℕ) (bytes : List ℕ) (e : Malformed) → counted_at count bytes ≡ Err e → after_count_at count utf8_at bytes ≡ Err e
unfolding front_at utf8_at
utf8_refused count = refused count utf8_at (λ n bytes above. rw above refl)
