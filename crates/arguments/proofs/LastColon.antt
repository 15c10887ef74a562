-- Which texts are an address with a port: the last colon cuts them.
use Rattle.std.proofs.Common.{◌≡◌, ◌∙◌, ◌≢◌, ◌↔◌, ◌==◌, ◌+◌, ◌<◌, ℕ, zero, suc, Bool, false, IsTrue, List, [], ◌∷◌, ◌++◌, length, get_or, drop, Result, Ok, Err, is_ok, refl, sym, ap, ap₂, subst, inl, inr, arith, length-append, length-drop, get_or-drop, take-append-drop}
use Rattle.std.proofs.Math.Seq.{get_or-append_seam}
use Rattle.std.proofs.lemmas.Bool.{both_ways, cases_Bool, eqb-false, eqb-true}
use Rattle.std.proofs.lemmas.Str.Parse.{digit_at, without_leading_plus_none, without_leading_plus_plus}
use Rattle.std.proofs.lemmas.Str.Pattern.{NoCharPasses-char, drop_at_char}
use Rattle.std.specs.Int.{IsInRange}
use Rattle.std.specs.Str.{NoCharPasses}
use Rattle.std.specs.Str.Parse.{AllDigits, ParsesUnsigned, without_leading_plus}
use Rattle.std.specs.Str.Pattern.{RFindsChar, SplitsAroundMatch}
use Rattle.arguments.specs.Serving.{IsAddress, IsHost, IsPort}

-- no colon stands in the text
abbrev Lacks : List ℕ → Type 0
Lacks text = (i : ℕ) → i < length text → get_or text i 0 ≢ 58

-- ---- ports

digits_lack : (ds : List ℕ) → AllDigits 10 ds → Lacks ds
digits_lack ds digits i l colon =
    let digit : IsInRange 48 57 (get_or ds i 0) = digit_at ds i digits l in
    omega (arith, digit.1)

plus_lacks : (port : List ℕ) → get_or port 0 0 ≡ 43 → AllDigits 10 (drop 1 port) → Lacks port
plus_lacks port plus digits zero l colon =
    let first : get_or port 0 0 ≡ 58 = colon in
    omega arith
plus_lacks port plus digits (suc i) l colon =
    let back : 1 + i ≡ suc i = omega arith in
    digits_lack (drop 1 port) digits i (omega (arith, length-drop 1 port)) (get_or-drop 1 port i 0 ∙ ap (λ n. get_or port n 0) back ∙ colon)

port_lacks : (port : List ℕ) → AllDigits 10 (without_leading_plus port) → Lacks port
port_lacks port digits =
    elim (cases_Bool (get_or port 0 0 == 43)) [
      | inl is ↦
          let plus : get_or port 0 0 ≡ 43 = eqb-true (get_or port 0 0) 43 is in
          plus_lacks port plus (subst (AllDigits 10) (without_leading_plus_plus port plus) digits)
      | inr other ↦ digits_lack port (subst (AllDigits 10) (without_leading_plus_none port (eqb-false (get_or port 0 0) 43 other)) digits)
    ]

-- a number of 16 bits is read from a port, and from nothing else
pub port_read : {E : Type 0} → (text : List ℕ) (r : Result ℕ E) → ParsesUnsigned 16 10 text r → IsTrue (is_ok r) ↔ IsPort text
port_read text (Ok number) read = ((λ _. (number, omega (arith, read.0.1, read.1), (read.0.0, read.1))), λ _. refl)
port_read text (Err error) refused = (
  λ yes. absurd (both_ways false refl yes),
  λ port. absurd (refused (port.2.0, omega (arith, port.1, port.2.1))),
)

-- ---- the last colon

-- it stands between a host and a port
lacking : (text host port : List ℕ) → Lacks text → text ≡ host ++ 58 ∷ port → ⊥
lacking text host port free split =
    free (length host) (omega (arith, ap length split, length-append host (58 ∷ port))) (ap (λ l. get_or l (length host) 0) split ∙ get_or-append_seam host 58 port 0)

parts_same : (x y : ℕ) (xs ys : List ℕ) → x ∷ xs ≡ y ∷ ys → (x ≡ y) × (xs ≡ ys)
parts_same x y xs ys same = ((cc), (cc))

-- a text has one last colon
last_same : (front back host port : List ℕ) → Lacks back → Lacks port → front ++ 58 ∷ back ≡ host ++ 58 ∷ port → (front ≡ host) × (back ≡ port)
last_same [] back [] port free lacks same = (refl, (parts_same 58 58 back port same).1)
last_same [] back (y ∷ host) port free lacks same = absurd (lacking back host port free (parts_same 58 y back (host ++ 58 ∷ port) same).1)
last_same (x ∷ front) back [] port free lacks same = absurd (lacking port front back lacks (sym (parts_same x 58 (front ++ 58 ∷ back) port same).1))
last_same (x ∷ front) back (y ∷ host) port free lacks same =
    let both = parts_same x y (front ++ 58 ∷ back) (host ++ 58 ∷ port) same in
    let rest = last_same front back host port free lacks both.1 in
    (ap₂ (λ (z : ℕ) (zs : List ℕ). z ∷ zs) both.0 rest.0, rest.1)

-- ---- addresses

-- a text without a colon is none
pub colon_missing : (text : List ℕ) → NoCharPasses (λ d. d == 58) text → IsTrue false ↔ IsAddress text
colon_missing text free = (
  λ yes. absurd (both_ways false refl yes),
  λ address. absurd (lacking text address.host address.port (λ i. NoCharPasses-char 58 text i free (omega arith)) address.split),
)

-- a text that its last colon cuts into these
module _ (text front back : List ℕ) (cut : SplitsAroundMatch (RFindsChar 58) text front back) where
  cut_is : text ≡ front ++ 58 ∷ back
  cut_is =
      sym (take-append-drop cut.0 text)
      ∙ ap₂ (λ (a b : List ℕ). a ++ b) (sym cut.3) (drop_at_char 58 text cut.0 cut.1 cut.2.1 (omega arith) ∙ ap (λ (l : List ℕ). 58 ∷ l) (sym cut.4))

  back_lacks : Lacks back
  back_lacks i = NoCharPasses-char 58 back i (subst (NoCharPasses (λ d. d == 58)) (sym cut.4) cut.2.0) (omega arith)

  -- is cut into its host and its port
  parts_of : (address : IsAddress text) → (front ≡ address.host) × (back ≡ address.port)
  parts_of address = last_same front back address.host address.port back_lacks (port_lacks address.port address.numbered.2.0.1) (sym cut_is ∙ address.split)

  pub with_host : IsHost front → (is_port : Bool) → (IsTrue is_port ↔ IsPort back) → IsTrue is_port ↔ IsAddress text
  with_host some is_port port = (
    λ yes. record { host = front; port = back; split = cut_is; named = some; numbered = port.0 yes },
    λ address. port.1 (subst IsPort (sym (parts_of address).1) address.numbered),
  )

  pub without_host : (IsHost front → ⊥) → (b : Bool) → b ≡ false → IsTrue b ↔ IsAddress text
  without_host none b fails = (
    λ yes. absurd (both_ways b fails yes),
    λ address. absurd (none (subst IsHost (sym (parts_of address).0) address.named)),
  )
