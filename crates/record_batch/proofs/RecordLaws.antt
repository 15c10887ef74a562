-- Records are found exactly where they are spelled.
use Rattle.std.proofs.Common.{◌≡◌, ℕ, zero, suc, ◌+◌, List, [], ◌∷◌, ◌++◌, length, Ok, refl, sym, ap, subst, ◌∙◌, append_assoc}
use Rattle.std.proofs.lemmas.List.{append-nil}
use Rattle.wire_types.specs.Reading.{◌>>=◌}
use Rattle.wire_types.specs.NumberLaws.{bind_ok, ok_is}
use Rattle.wire_types.specs.Schema.{varint_count}
use Rattle.record_batch.specs.declared.record.Rec.{Rec}
use Rattle.record_batch.specs.CombinatorLaws.{whole_value, whole_ok, sized-sound, sized-complete}
use Rattle.record_batch.specs.Record.{record_parts, record_at, records_at, all_records, AreRecords}

pub records-sound : (place n : ℕ) (bytes : List ℕ) (rs : List Rec) (rest : List ℕ) → records_at place n bytes ≡ Ok (rs, rest)
    → (text : List ℕ) × (bytes ≡ text ++ rest) × (length rs ≡ n) × AreRecords place text rs
unfolding records_at
records-sound place zero bytes rs rest e =
    subst (λ (y : List Rec × List ℕ). (text : List ℕ) × (bytes ≡ text ++ y.1) × (length y.0 ≡ 0) × AreRecords place text y.0) (ok_is ([], bytes) (rs, rest) e) ([], refl, refl, refl)
records-sound place (suc n) bytes rs rest e =
    let a = bind_ok (record_at place bytes) (λ r. records_at (place + 1) n r.1 >>= λ ys. Ok (r.0 ∷ ys.0, ys.1)) (rs, rest) e in
    let b = bind_ok (records_at (place + 1) n a.0.1) (λ ys. Ok (a.0.0 ∷ ys.0, ys.1)) (rs, rest) a.2 in
    let p = sized-sound varint_count (record_parts place) bytes a.0.0 a.0.1 a.1 in
    let q = records-sound (place + 1) n a.0.1 b.0.0 b.0.1 b.1 in
    let made : List Rec × List ℕ = (a.0.0 ∷ b.0.0, b.0.1) in
    let regrouped : bytes ≡ (p.0 ++ q.0) ++ b.0.1 = p.1 ∙ ap (λ (t : List ℕ). p.0 ++ t) q.1 ∙ sym (append_assoc p.0 q.0 b.0.1) in
    subst (λ (y : List Rec × List ℕ). (text : List ℕ) × (bytes ≡ text ++ y.1) × (length y.0 ≡ suc n) × AreRecords place text y.0) (ok_is made (rs, rest) b.2)
    (p.0 ++ q.0, regrouped, ap suc q.2, (p.0, q.0, refl, p.2, q.3))

pub records-complete : (place : ℕ) (text rest : List ℕ) (rs : List Rec) → AreRecords place text rs → records_at place (length rs) (text ++ rest) ≡ Ok (rs, rest)
unfolding records_at
records-complete place text rest [] h = rw h refl
records-complete place text rest (r ∷ rs) h =
    let regrouped : text ++ rest ≡ h.0 ++ (h.1 ++ rest) = ap (λ (t : List ℕ). t ++ rest) h.2 ∙ append_assoc h.0 h.1 rest in
    ap (records_at place (suc (length rs))) regrouped ∙ rw (sized-complete varint_count (record_parts place) h.0 (h.1 ++ rest) r h.3, records-complete (place + 1) h.1 rest rs h.4) refl

-- bytes that are just so many records
pub all-sound : (n : ℕ) (bytes : List ℕ) (rs : List Rec) → all_records n bytes ≡ Ok rs → (length rs ≡ n) × AreRecords 0 bytes rs
all-sound n bytes rs e =
    let p = records-sound 0 n bytes rs [] (whole_ok (records_at 0 n bytes) rs e) in
    (p.2, subst (λ (t : List ℕ). AreRecords 0 t rs) (sym (p.1 ∙ append-nil p.0)) p.3)

pub all-complete : (bytes : List ℕ) (rs : List Rec) → AreRecords 0 bytes rs → all_records (length rs) bytes ≡ Ok rs
unfolding whole_value
all-complete bytes rs h =
    let all : records_at 0 (length rs) bytes ≡ Ok (rs, []) = ap (records_at 0 (length rs)) (sym (append-nil bytes)) ∙ records-complete 0 bytes [] rs h in
    rw all refl
