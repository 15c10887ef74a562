-- What stands at the front of what a reader has left.
use Rattle.std.proofs.Common.{◌≡◌, ℕ, ◌+◌, ◌<◌, ◌≤◌, ◌==◌, nat_lt, ◌||◌, Bool, true, false, cond, List, [], ◌∷◌, ◌++◌, length, take, drop, Option, Some, None, refl, ap, sym, ◌∙◌, arith, length-append, append_assoc, append-nil, ◌⊎◌, inl, inr}
use Rattle.std.proofs.Math.Seq.{take-append_seam, drop-append_seam}
use Rattle.std.proofs.lemmas.Bool.{ltb-true, ltb-false}
use Rattle.std.proofs.lemmas.Bool.Decides.{nat_tests}
use Rattle.std.specs.Int.{from_be_bytes, w32}
use Rattle.std.specs.Io.KnownBytes.{Consumes}
use Rattle.frame_streams.specs.declared.fault.FrameFault.{FrameFault}
use Rattle.frame_streams.specs.declared.fault.FrameFault.TheVariants as fault
use Rattle.frame_streams.specs.Frames.{Nothing, Part, Bad, Whole, size_of, front_after_size, front_of, Lacks, Arrives, kept_bytes}
use Rattle.frame_streams.specs.Reads.{HeadLacks, BodyLacks, Took, ReadsPast}

take_front : (n : ℕ) (xs front ys : List ℕ) → xs ≡ front ++ ys → length front ≡ n → take n xs ≡ front
take_front n xs front ys h l = ap (take n) h ∙ ap (λ m. take m (front ++ ys)) (sym l) ∙ take-append_seam front ys

drop_front : (n : ℕ) (xs front ys : List ℕ) → xs ≡ front ++ ys → length front ≡ n → drop n xs ≡ ys
drop_front n xs front ys h l = ap (drop n) h ∙ ap (λ m. drop m (front ++ ys)) (sym l) ∙ drop-append_seam front ys

-- after a head
pub headed : (limit : ℕ) (input head ys : List ℕ) → input ≡ head ++ ys → length head ≡ 4 → front_of limit input ≡ front_after_size limit (from_be_bytes w32 head) ys
headed limit input head ys h l =
    let len : length input ≡ 4 + length ys = omega (arith, ap length h, length-append head ys) in
    let some : (length input == 0) ≡ false = grind (arith, nat_tests) in
    let four : nat_lt (length input) 4 ≡ false = grind (arith, nat_tests) in
    let s : size_of input ≡ from_be_bytes w32 head = ap (from_be_bytes w32) (take_front 4 input head ys h l) in
    let rest : drop 4 input ≡ ys = drop_front 4 input head ys h l in
    rw (some, four) (ap (λ n. front_after_size limit n (drop 4 input)) s ∙ ap (front_after_size limit (from_be_bytes w32 head)) rest)

whole_front : (limit size : ℕ) (body zs : List ℕ) → 8 ≤ size → size ≤ limit → length body ≡ size → front_after_size limit size (body ++ zs) ≡ Whole body zs
whole_front limit size body zs least most l =
    let a : nat_lt size 8 ≡ false = grind (arith, nat_tests) in
    let b : nat_lt limit size ≡ false = grind (arith, nat_tests) in
    let len = length-append body zs in
    let c : nat_lt (length (body ++ zs)) size ≡ false = grind (arith, nat_tests) in
    rw (a, b, c) (ap (λ x. Whole x (drop size (body ++ zs))) (take_front size (body ++ zs) body zs refl l) ∙ ap (Whole body) (drop_front size (body ++ zs) body zs refl l))

bad_front : (limit size : ℕ) (ys : List ℕ) → (size < 8) ⊎ (limit < size) → front_after_size limit size ys ≡ Bad
bad_front limit size ys (inl small) = let a : nat_lt size 8 ≡ true = grind (arith, nat_tests) in rw a refl
bad_front limit size ys (inr large) =
    let b : nat_lt limit size ≡ true = grind (arith, nat_tests) in
    let either : (nat_lt size 8 || nat_lt limit size) ≡ true = grind (arith, nat_tests) in
    rw either refl

part_front : (limit size : ℕ) (ys : List ℕ) → 8 ≤ size → size ≤ limit → length ys < size → front_after_size limit size ys ≡ Part
part_front limit size ys least most short =
    let a : nat_lt size 8 ≡ false = grind (arith, nat_tests) in
    let b : nat_lt limit size ≡ false = grind (arith, nat_tests) in
    let c : nat_lt (length ys) size ≡ true = grind (arith, nat_tests) in
    rw (a, b, c) refl

-- what is kept of a frame that begins with these bytes
kept_front : (most size : ℕ) (body more : List ℕ) → length body + length more ≡ size → (most < size → length body ≡ 8) → (size ≤ most → length body ≡ size) → body ≡ kept_bytes most (body ++ more)
kept_front most size body more long some all = by_test (nat_lt most (length (body ++ more))) refl where
  total : length (body ++ more) ≡ size
  total = length-append body more ∙ long

  no_more : (rest : List ℕ) → length rest ≡ 0 → body ≡ body ++ rest
  no_more [] none = sym (append-nil body)
  no_more (x ∷ rest) none = absurd (omega arith)

  by_test : (t : Bool) → nat_lt most (length (body ++ more)) ≡ t → body ≡ cond t (take 8 (body ++ more)) (body ++ more)
  by_test true e = sym (take_front 8 (body ++ more) body more refl (some (omega (arith, ltb-true most (length (body ++ more)) e, total))))
  by_test false e = no_more more (omega (arith, long, all (omega (arith, ltb-false most (length (body ++ more)) e, total))))

-- a head and a body are the frame that comes next
pub framed : (a b c : Option (List ℕ)) (head body : List ℕ) (limit most size : ℕ)
    → length head ≡ 4 → size ≡ from_be_bytes w32 head → 8 ≤ size → size ≤ limit → (most < size → length body ≡ 8) → (size ≤ most → length body ≡ size)
    → Consumes a b head → ReadsPast b c body size → Took a c (Arrives limit most (record { kept = body; size = size }))
framed None b c head body limit most size l is least within some all h r = tt
framed (Some xs) None c head body limit most size l is least within some all h r = absurd h
framed (Some xs) (Some ys) None head body limit most size l is least within some all h r = absurd r.2
framed (Some xs) (Some ys) (Some zs) head body limit most size l is least within some all h (more, long, r) =
    let total : length (body ++ more) ≡ size = length-append body more ∙ long in (
      head ++ (body ++ more),
      zs,
      h ∙ ap (λ t. head ++ t) r ∙ sym (append_assoc head (body ++ more) zs),
      refl,
      (
        body ++ more,
        (kept_front most size body more long some all, sym total),
        λ tail. headed limit ((head ++ (body ++ more)) ++ tail) head ((body ++ more) ++ tail) (append_assoc head (body ++ more) tail) l ∙ ap (λ n. front_after_size limit n ((body ++ more) ++ tail)) (sym is)
            ∙ whole_front limit size (body ++ more) tail least within total,
      ),
    )

-- no head comes
none_front : (limit : ℕ) (p : List ℕ) → length p ≡ 0 → front_of limit p ≡ Nothing
none_front limit p h = let a : (length p == 0) ≡ true = grind (arith, nat_tests) in rw a refl

few_front : (limit : ℕ) (p : List ℕ) → 0 < length p → length p < 4 → front_of limit p ≡ Part
few_front limit p some short =
    let a : (length p == 0) ≡ false = grind (arith, nat_tests) in
    let b : nat_lt (length p) 4 ≡ true = grind (arith, nat_tests) in
    rw (a, b) refl

short_front : (limit : ℕ) (p : List ℕ) → length p < 4 → (front_of limit p ≡ Nothing) ⊎ (front_of limit p ≡ Part)
short_front limit [] short = inl refl
short_front limit (x ∷ xs) short = inr (few_front limit (x ∷ xs) (omega arith) short)

lacks_head : (limit : ℕ) (w : FrameFault) (p rest : List ℕ) → HeadLacks w p rest → Lacks limit w p rest
lacks_head limit fault.Closed p rest h = (none_front limit p h.0, h.1)
lacks_head limit fault.Cut p rest h = (few_front limit p h.0 h.1, h.2)
lacks_head limit fault.ReadFault p rest h = short_front limit p h
lacks_head limit fault.BadFrame p rest h = absurd h
lacks_head limit fault.NoMemory p rest h = absurd h

pub no_head : (limit : ℕ) (a b : Option (List ℕ)) (w : FrameFault) → Took a b (HeadLacks w) → Took a b (Lacks limit w)
no_head limit None b w h = tt
no_head limit (Some input) b w (p, rest, whole, after, lacks) = (p, rest, whole, after, lacks_head limit w p rest lacks)

-- the head tells a size that no frame has
pub bad : (a b : Option (List ℕ)) (head : List ℕ) (limit size : ℕ) → length head ≡ 4 → size ≡ from_be_bytes w32 head → (size < 8) ⊎ (limit < size) → Consumes a b head → Took a b (Lacks limit fault.BadFrame)
bad None b head limit size l is out h = tt
bad (Some xs) None head limit size l is out h = absurd h
bad (Some xs) (Some ys) head limit size l is out h = (head, ys, h, refl, λ tail. headed limit (head ++ tail) head tail refl l ∙ ap (λ n. front_after_size limit n tail) (sym is) ∙ bad_front limit size tail out)

-- no body comes
lacks_body : (limit size : ℕ) (w : FrameFault) (head p rest : List ℕ) → front_of limit (head ++ p) ≡ front_after_size limit size p → 8 ≤ size → size ≤ limit → BodyLacks size w p rest → Lacks limit w (head ++ p) rest
lacks_body limit size fault.Cut head p rest e least most h = (e ∙ part_front limit size p least most h.0, h.1)
lacks_body limit size fault.ReadFault head p rest e least most h = inr (e ∙ part_front limit size p least most h)
lacks_body limit size fault.NoMemory head p rest e least most h = tt
lacks_body limit size fault.Closed head p rest e least most h = absurd h
lacks_body limit size fault.BadFrame head p rest e least most h = absurd h

pub no_body : (a b c : Option (List ℕ)) (head : List ℕ) (limit size : ℕ) (w : FrameFault)
    → length head ≡ 4 → size ≡ from_be_bytes w32 head → 8 ≤ size → size ≤ limit → Consumes a b head → Took b c (BodyLacks size w) → Took a c (Lacks limit w)
no_body None b c head limit size w l is least most h lacks = tt
no_body (Some xs) None c head limit size w l is least most h lacks = absurd h
no_body (Some xs) (Some ys) c head limit size w l is least most h (p, rest, whole, after, lacks) = (
  head ++ p,
  rest,
  h ∙ ap (λ t. head ++ t) whole ∙ sym (append_assoc head p rest),
  after,
  lacks_body limit size w head p rest (headed limit (head ++ p) head p refl l ∙ ap (λ n. front_after_size limit n p) (sym is)) least most lacks,
)
