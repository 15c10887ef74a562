-- A header has 61 bytes.
use Rattle.std.proofs.Common.{◌≡◌, ℕ, ◌+◌, ◌≤◌, List, length, drop, Ok, sym, ap, ◌∙◌, arith}
use Rattle.std.specs.Int.{Width, w8, w16, w32, w64, byte_len}
use Rattle.std.proofs.lemmas.List.{length-append, drop_at}
use Rattle.wire_types.specs.Grammar.{AreBoth, IsInt, IsNat}
use Rattle.record_batch.specs.declared.header.BatchHeader.{BatchHeader}
use Rattle.record_batch.specs.BatchHeader.{batch_header}

-- each spelling has so many bytes
abbrev pub HasSize : {A : Type 0} → (List ℕ → A → Type 0) → ℕ → Type 0
HasSize {A} P n = (text : List ℕ) (x : A) → P text x → length text ≡ n

pub int_size : (w : Width) → HasSize (IsInt w) (byte_len w)
int_size w text z h = h.0

pub nat_size : (w : Width) → HasSize (IsNat w) (byte_len w)
nat_size w text n h = h.0

pub both_size : {A B : Type 0} (P : List ℕ → A → Type 0) (Q : List ℕ → B → Type 0) (m n : ℕ) → HasSize P m → HasSize Q n → HasSize (AreBoth P Q) (m + n)
both_size P Q m n p q text x h = omega (arith, p h.0 x.0 h.3, q h.1 x.1 h.4, length-append h.0 h.1, ap length h.2)

pub header_size : HasSize batch_header.Spells 61
header_size text h is =
    both_size (IsInt w64) _ 8 53 (int_size w64)
    (both_size (IsInt w32) _ 4 49 (int_size w32)
    (both_size (IsInt w32) _ 4 45 (int_size w32)
    (both_size (IsInt w8) _ 1 44 (int_size w8)
    (both_size (IsNat w32) _ 4 40 (nat_size w32)
    (both_size (IsInt w16) _ 2 38 (int_size w16)
    (both_size (IsInt w32) _ 4 34 (int_size w32)
    (both_size (IsInt w64) _ 8 26 (int_size w64)
    (both_size (IsInt w64) _ 8 18 (int_size w64)
    (both_size (IsInt w64) _ 8 10 (int_size w64)
    (both_size (IsInt w16) _ 2 8 (int_size w16)
    (both_size (IsInt w32) (IsInt w32) 4 4 (int_size w32) (int_size w32)))))))))))) text _ is

-- what is read is those bytes, and the rest is left
pub header_rest : (bytes rest : List ℕ) (h : BatchHeader) → batch_header.reading bytes ≡ Ok (h, rest) → (61 ≤ length bytes) × (rest ≡ drop 61 bytes)
header_rest bytes rest h e =
    let p = batch_header.sound bytes h rest e in
    let size : length p.0 ≡ 61 = header_size p.0 h p.2 in
    (omega (arith, size, length-append p.0 rest, ap length p.1), sym (ap (drop 61) p.1 ∙ drop_at p.0 rest 61 size))

pub first_is : (bytes front rest : List ℕ) (h : BatchHeader) → front ≡ bytes → batch_header.reading front ≡ Ok (h, rest) → batch_header.reading bytes ≡ Ok (h, drop 61 bytes)
first_is bytes front rest h same e =
    let here : batch_header.reading bytes ≡ Ok (h, rest) = ap batch_header.reading (sym same) ∙ e in
    here ∙ ap (λ (t : List ℕ). Ok (h, t)) (header_rest bytes rest h here).1

pub first_long : (bytes front rest : List ℕ) (h : BatchHeader) → front ≡ bytes → batch_header.reading front ≡ Ok (h, rest) → 61 ≤ length bytes
first_long bytes front rest h same e = (header_rest bytes rest h (ap batch_header.reading (sym same) ∙ e)).0
