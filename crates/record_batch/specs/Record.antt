-- The grammar of records (Kafka documentation, "Message Format", "Record"): a length, and parts
-- that fill it exactly.
use Rattle.std.specs.Prelude.{◌≡◌, ℕ, zero, suc, ℤ, pos, ◌+◌, List, [], ◌∷◌, ◌++◌, Option, Result, Ok, refl}
use Rattle.std.proofs.Common.{lit<, arith}
use Rattle.wire_types.specs.declared.fault.Malformed.{Malformed}
use Rattle.wire_types.specs.Reading.{Found, ◌>>=◌}
use Rattle.wire_types.specs.Grammar.{Grammar}
use Rattle.wire_types.specs.Spelling.{int_written}
use Rattle.wire_types.specs.ListLaws.{IsLeast}
use Rattle.wire_types.specs.Combinators.{◌⨟◌, struct, skipped_value}
use Rattle.wire_types.specs.Schema.{int8, varint, varlong, varint_count, varint_bytes, varint_nullable_bytes, varint_array}
use Rattle.record_batch.specs.declared.record.Header.{Header}
use Rattle.record_batch.specs.declared.record.Rec.{Rec}
use Rattle.record_batch.specs.Combinators.{fixed_number}
use Rattle.record_batch.specs.CombinatorLaws.{IsSized, sized_at, whole_value}

-- a header of a record: its key is never null
abbrev pub header : Grammar Header
header = struct
    (λ (x : List ℕ × Option (List ℕ)). record { key = x.0; value = x.1 })
    (λ h. (h.key, h.value))
    (λ x. refl) (λ h. refl)
    (varint_bytes ⨟ varint_nullable_bytes)

pub no_attributes : IsLeast int8 (pos 0) 1
unfolding int_written
no_attributes = record {
  in_type = record { sfits = lit< tt };
  fits = refl;
  sized = refl;
  shortest = λ text x h. omega (arith, h.0);
}

-- what stands before a record's key: attributes that say nothing, the timestamp's delta, and the
-- offset's, which is the record's place in its batch
abbrev pub record_head : ℕ → Grammar ℤ
record_head place = struct
    (λ (x : Unit {0} × (ℤ × Unit {0})). x.1.0)
    (λ delta. (tt, (delta, tt)))
    (λ x. refl) (λ delta. refl)
    (skipped_value int8 (pos 0) 1 no_attributes ⨟ varlong ⨟ fixed_number varint (pos place))

-- what follows a record's length
abbrev pub record_parts : ℕ → Grammar Rec
record_parts place = struct
    (λ (x : ℤ × (Option (List ℕ) × (Option (List ℕ) × List Header))). record {
      timestamp_delta = x.0;
      key = x.1.0;
      value = x.1.1.0;
      headers = x.1.1.1;
    })
    (λ r. (r.timestamp_delta, (r.key, (r.value, r.headers))))
    (λ x. refl) (λ r. refl)
    (record_head place ⨟ varint_nullable_bytes ⨟ varint_nullable_bytes ⨟ varint_array header)

-- the record at this place
abbrev pub IsRecord : ℕ → List ℕ → Rec → Type 0
IsRecord place = IsSized varint_count.Spells (record_parts place).Spells

-- records at this place, the next, and so on
abbrev pub AreRecords : ℕ → List ℕ → List Rec → Type 0
AreRecords place text [] = text ≡ []
AreRecords place text (r ∷ rs) =
    (a b : List ℕ) × (text ≡ a ++ b) × IsRecord place a r × AreRecords (place + 1) b rs

-- ---- reading them

abbrev pub record_at : ℕ → List ℕ → Found Rec
record_at place = sized_at varint_count.reading (record_parts place).reading

-- so many records from this place on
unfoldable pub records_at : ℕ → ℕ → List ℕ → Found (List Rec)
records_at place zero bytes = Ok ([], bytes)
records_at place (suc n) bytes =
    record_at place bytes >>= λ r. records_at (place + 1) n r.1 >>= λ rs. Ok (r.0 ∷ rs.0, rs.1)

-- so many records and no more bytes
abbrev pub all_records : ℕ → List ℕ → Result (List Rec) Malformed
all_records n bytes = whole_value (records_at 0 n bytes)
