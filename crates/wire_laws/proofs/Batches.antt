-- The attributes of a batch: each test tells its bit, and no other test does.
use Rattle.std.proofs.Common.{◌≡◌, ◌<◌, ◌*◌, ◌/◌, ◌%◌, ◌==◌, ℕ, zero, suc, pos, Bool, true, false, refl, ap, ◌∙◌, arith, lit<}
use Rattle.std.specs.Int.{w16, cast_unsigned}
use Rattle.record_batch.specs.declared.header.BatchHeader.{BatchHeader}
use Rattle.record_batch.specs.declared.transaction_result.TransactionResult.TheVariants.{Abort, Commit}
use Rattle.record_batch.specs.BatchHeader.{is_uncompressed, has_append_time, is_transactional, is_control}
use Rattle.record_batch.specs.Batch.{marker_type}
use Rattle.wire_laws.specs.Tables.{IsTheOnly}
use Rattle.wire_laws.specs.Batches.{NumbersOutcomes}
use Rattle.wire_laws.specs.BatchRules.{bit, attributes_of, TellsUncompressed, TellsAppendTime, TellsTransactional, TellsControl}
use Rattle.wire_laws.specs.WrongBatches.{control_is_0x40, transactional_is_0x20, append_time_is_0x10, compression_is_0x01}

-- ---- each test tells its bit

low_bits : (n c : ℕ) (a t k : Bool) (above : ℕ) → c < 8 → n ≡ attributes_of c a t k above → n % 8 ≡ c
low_bits n c false false false above lt e = omega (arith, lt, e)
low_bits n c false false true above lt e = omega (arith, lt, e)
low_bits n c false true false above lt e = omega (arith, lt, e)
low_bits n c false true true above lt e = omega (arith, lt, e)
low_bits n c true false false above lt e = omega (arith, lt, e)
low_bits n c true false true above lt e = omega (arith, lt, e)
low_bits n c true true false above lt e = omega (arith, lt, e)
low_bits n c true true true above lt e = omega (arith, lt, e)

bit_3 : (n c : ℕ) (a t k : Bool) (above : ℕ) → c < 8 → n ≡ attributes_of c a t k above → n / 8 % 2 ≡ bit 1 a
bit_3 n c false false false above lt e = omega (arith, lt, e)
bit_3 n c false false true above lt e = omega (arith, lt, e)
bit_3 n c false true false above lt e = omega (arith, lt, e)
bit_3 n c false true true above lt e = omega (arith, lt, e)
bit_3 n c true false false above lt e = omega (arith, lt, e)
bit_3 n c true false true above lt e = omega (arith, lt, e)
bit_3 n c true true false above lt e = omega (arith, lt, e)
bit_3 n c true true true above lt e = omega (arith, lt, e)

bit_4 : (n c : ℕ) (a t k : Bool) (above : ℕ) → c < 8 → n ≡ attributes_of c a t k above → n / 16 % 2 ≡ bit 1 t
bit_4 n c false false false above lt e = omega (arith, lt, e)
bit_4 n c false false true above lt e = omega (arith, lt, e)
bit_4 n c false true false above lt e = omega (arith, lt, e)
bit_4 n c false true true above lt e = omega (arith, lt, e)
bit_4 n c true false false above lt e = omega (arith, lt, e)
bit_4 n c true false true above lt e = omega (arith, lt, e)
bit_4 n c true true false above lt e = omega (arith, lt, e)
bit_4 n c true true true above lt e = omega (arith, lt, e)

bit_5 : (n c : ℕ) (a t k : Bool) (above : ℕ) → c < 8 → n ≡ attributes_of c a t k above → n / 32 % 2 ≡ bit 1 k
bit_5 n c false false false above lt e = omega (arith, lt, e)
bit_5 n c false false true above lt e = omega (arith, lt, e)
bit_5 n c false true false above lt e = omega (arith, lt, e)
bit_5 n c false true true above lt e = omega (arith, lt, e)
bit_5 n c true false false above lt e = omega (arith, lt, e)
bit_5 n c true false true above lt e = omega (arith, lt, e)
bit_5 n c true true false above lt e = omega (arith, lt, e)
bit_5 n c true true true above lt e = omega (arith, lt, e)

is_bit : (b : Bool) → (bit 1 b == 1) ≡ b
is_bit false = refl
is_bit true = refl

pub uncompressed-told : TellsUncompressed is_uncompressed
uncompressed-told h c a t k above has = ap (λ m. m == 0) (low_bits (cast_unsigned w16 h.attributes) c a t k above has.0 has.1)

pub append_time-told : TellsAppendTime has_append_time
append_time-told h c a t k above has = ap (λ m. m == 1) (bit_3 (cast_unsigned w16 h.attributes) c a t k above has.0 has.1) ∙ is_bit a

pub transactional-told : TellsTransactional is_transactional
transactional-told h c a t k above has = ap (λ m. m == 1) (bit_4 (cast_unsigned w16 h.attributes) c a t k above has.0 has.1) ∙ is_bit t

pub control-told : TellsControl is_control
control-told h c a t k above has = ap (λ m. m == 1) (bit_5 (cast_unsigned w16 h.attributes) c a t k above has.0 has.1) ∙ is_bit k

-- ---- no other test does

bit_of : (value m : ℕ) → m < 2 → bit value (m == 1) ≡ m * value
bit_of value zero lt = omega arith
bit_of value (suc zero) lt = omega arith
bit_of value (suc (suc m)) lt = absurd (omega (arith, lt))

below_two : (m : ℕ) → m % 2 < 2
below_two m = omega arith

-- each number is the attributes that its bits say
parts : (n : ℕ) → n ≡ attributes_of (n % 8) (n / 8 % 2 == 1) (n / 16 % 2 == 1) (n / 32 % 2 == 1) (n / 64)
parts n =
    let a = bit_of 8 (n / 8 % 2) (below_two (n / 8)) in
    let t = bit_of 16 (n / 16 % 2) (below_two (n / 16)) in
    let k = bit_of 32 (n / 32 % 2) (below_two (n / 32)) in
    omega (arith, a, t, k)

below_eight : (n : ℕ) → n % 8 < 8
below_eight n = omega arith

pub uncompressed-only : IsTheOnly TellsUncompressed is_uncompressed
uncompressed-only test law h =
    let n = cast_unsigned w16 h.attributes in
    law h (n % 8) (n / 8 % 2 == 1) (n / 16 % 2 == 1) (n / 32 % 2 == 1) (n / 64) (below_eight n, parts n)

pub append_time-only : IsTheOnly TellsAppendTime has_append_time
append_time-only test law h =
    let n = cast_unsigned w16 h.attributes in
    law h (n % 8) (n / 8 % 2 == 1) (n / 16 % 2 == 1) (n / 32 % 2 == 1) (n / 64) (below_eight n, parts n)

pub transactional-only : IsTheOnly TellsTransactional is_transactional
transactional-only test law h =
    let n = cast_unsigned w16 h.attributes in
    law h (n % 8) (n / 8 % 2 == 1) (n / 16 % 2 == 1) (n / 32 % 2 == 1) (n / 64) (below_eight n, parts n)

pub control-only : IsTheOnly TellsControl is_control
control-only test law h =
    let n = cast_unsigned w16 h.attributes in
    law h (n % 8) (n / 8 % 2 == 1) (n / 16 % 2 == 1) (n / 32 % 2 == 1) (n / 64) (below_eight n, parts n)

-- ---- other bits are refuted

-- a header with these attributes
with_attributes : ℕ → BatchHeader
with_attributes n = record {
  base_offset = pos 0;
  batch_length = pos 0;
  partition_leader_epoch = pos 0;
  magic = pos 0;
  crc = 0;
  attributes = pos n;
  last_offset_delta = pos 0;
  base_timestamp = pos 0;
  max_timestamp = pos 0;
  producer_id = pos 0;
  producer_epoch = pos 0;
  base_sequence = pos 0;
  record_count = pos 0;
}

pub not_0x40 : ¬ TellsControl control_is_0x40
unfolding with_attributes
not_0x40 law = let clash : false ≡ true = law (with_attributes 0x20) 0 false false true 0 (lit< tt, refl) in cc

pub not_0x20 : ¬ TellsTransactional transactional_is_0x20
unfolding with_attributes
not_0x20 law = let clash : false ≡ true = law (with_attributes 0x10) 0 false true false 0 (lit< tt, refl) in cc

pub not_0x10 : ¬ TellsAppendTime append_time_is_0x10
unfolding with_attributes
not_0x10 law = let clash : false ≡ true = law (with_attributes 0x08) 0 true false false 0 (lit< tt, refl) in cc

pub not_0x01 : ¬ TellsUncompressed compression_is_0x01
unfolding with_attributes
not_0x01 law = let clash : true ≡ false = law (with_attributes 0x02) 2 false false false 0 (lit< tt, refl) in cc

-- ---- the types of control records

pub outcomes-only : IsTheOnly NumbersOutcomes marker_type
outcomes-only rule law Abort = law.0
outcomes-only rule law Commit = law.1.0
