-- CRC-32C (RFC 3720, section 12.1 and appendix B.4), bit by bit.
use Rattle.std.specs.Prelude.{ℕ, zero, suc, ◌/◌, ◌%◌, ◌==◌, List, [], ◌∷◌, bit_xor, if◌then◌else◌}

-- the reflected polynomial
abbrev pub polynomial : ℕ
polynomial = 0x82f63b78

-- the lowest bit is shifted out, and where it was set the polynomial is added
abbrev pub bit_shift : ℕ → ℕ
bit_shift c = if c % 2 == 1 then bit_xor (c / 2) polynomial else c / 2

-- k bits are shifted out
unfoldable pub bit_shift_by : ℕ → ℕ → ℕ
bit_shift_by zero c = c
bit_shift_by (suc k) c = bit_shift_by k (bit_shift c)

-- a byte comes in
abbrev pub crc_step : ℕ → ℕ → ℕ
crc_step c byte = bit_shift_by 8 (bit_xor c byte)

-- the remainder c after these bytes
unfoldable pub crc_after : ℕ → List ℕ → ℕ
crc_after c [] = c
crc_after c (byte ∷ bytes) = crc_after (crc_step c byte) bytes

-- it starts and ends with all bits inverted
abbrev pub crc32c : List ℕ → ℕ
crc32c bytes = bit_xor (crc_after 0xffffffff bytes) 0xffffffff
