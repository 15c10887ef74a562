-- The tables of the code hold the remainders of the bytes, with no zero bytes after them, one, and so on up to seven, and with 16 to 23.
use Rattle.std.proofs.Common.{◌≡◌, ℕ, ◌+◌, ◌*◌, ◌^◌, ◌<◌, List, [], get_or, map, refl, ap, ◌∙◌, arith}
use Rattle.std.specs.List.{range_with_len}
use Rattle.std.proofs.lemmas.List.FromFn.{get_or-map-range_with_len}
use Rattle.record_batch.specs.Crc.{bit_shift_by}
use Rattle.record_batch.specs.declared.far_table.TheConstants.{FAR_REMAINDERS}
use Rattle.record_batch.specs.declared.table.TheConstants.{BYTE_REMAINDERS}

-- those of all bytes, each with so many zero bytes after it
abbrev remainders_before : ℕ → List ℕ
remainders_before zeros = map (bit_shift_by (8 * (zeros + 1))) (range_with_len 0 256)

are_remainders : BYTE_REMAINDERS ≡ map remainders_before (range_with_len 0 8)
unfolding bit_shift_by
are_remainders = refl

pub remainder_at : (byte zeros : ℕ) → byte < 2 ^ 8 → zeros < 8 → get_or (get_or BYTE_REMAINDERS zeros []) byte 0 ≡ bit_shift_by (8 * (zeros + 1)) byte
remainder_at byte zeros byte_fits zeros_fit =
    ap (λ (tables : List (List ℕ)). get_or (get_or tables zeros []) byte 0) are_remainders
    ∙ ap (λ (table : List ℕ). get_or table byte 0) (get_or-map-range_with_len remainders_before 0 8 zeros zeros [] zeros_fit (omega arith))
    ∙ get_or-map-range_with_len (bit_shift_by (8 * (zeros + 1))) 0 256 byte byte 0 byte_fits (omega arith)

are_far_remainders : FAR_REMAINDERS ≡ map (λ zeros. remainders_before (zeros + 16)) (range_with_len 0 8)
unfolding bit_shift_by
are_far_remainders = refl

pub far_remainder_at : (byte zeros : ℕ) → byte < 2 ^ 8 → zeros < 8 → get_or (get_or FAR_REMAINDERS zeros []) byte 0 ≡ bit_shift_by (8 * (zeros + 17)) byte
far_remainder_at byte zeros byte_fits zeros_fit =
    let all : zeros + 16 + 1 ≡ zeros + 17 = omega arith in
    ap (λ (tables : List (List ℕ)). get_or (get_or tables zeros []) byte 0) are_far_remainders
    ∙ ap (λ (table : List ℕ). get_or table byte 0) (get_or-map-range_with_len (λ zeros. remainders_before (zeros + 16)) 0 8 zeros zeros [] zeros_fit (omega arith))
    ∙ get_or-map-range_with_len (bit_shift_by (8 * (zeros + 16 + 1))) 0 256 byte byte 0 byte_fits (omega arith)
    ∙ ap (λ (n : ℕ). bit_shift_by (8 * n) byte) all
