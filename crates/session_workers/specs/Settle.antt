-- When the receipts of all ends are those of a trail.
use Rattle.std.specs.Prelude.{◌≡◌, ℕ, ◌<◌, ◌≤◌, ◌==◌, Bool, false, List, length, codes, Vec, slice_get, slice_index_or, count_by, sum_by, All, Any, IsSomeAnd, if◌then◌else◌}
use Rattle.std.specs.declared.alloc.Global.{Global}
use Rattle.audit_trail.specs.declared.trail.Entry.{Entry}
use Rattle.request_handlers.specs.Receipt.{ReceiptValue}
use Rattle.session_workers.specs.declared.settlement.SettleFault.{SettleFault}
use Rattle.session_workers.specs.declared.settlement.SettleFault.TheVariants.{Stray, Twice, Missing, NoMemory}

-- the event and the reply of the receipt are the trail's at its place
abbrev pub IsInTrail : List Entry → ReceiptValue → Type 0
IsInTrail trail r =
    IsSomeAnd (slice_get trail r.place) (λ entry. (entry.event ≡ r.event) × (entry.reply ≡ r.reply))

-- how many receipts hold a place
abbrev pub times_held : ℕ → List ReceiptValue → ℕ
times_held place = count_by (λ r. r.place == place)

-- how many receipts of all ends hold a place
abbrev pub times_in : ℕ → List (Vec ReceiptValue Global) → ℕ
times_in place = sum_by (λ v. times_held place v.items)

-- all receipts are the trail's
abbrev pub AreInTrail : List Entry → List (Vec ReceiptValue Global) → Type 0
AreInTrail trail = All (λ v. All (IsInTrail trail) v.items)

-- each receipt is the trail's, and each place is held once
pub record Settles (trail : List Entry) (ends : List (Vec ReceiptValue Global)) : Type 0 where
  pub told : AreInTrail trail ends
  pub once : (place : ℕ) → place < length trail → times_in place ends ≡ 1

-- where each fault comes: strays are looked for first, and an allocation may fail only after that
abbrev pub Faults : List Entry → List (Vec ReceiptValue Global) → SettleFault → Type 0
Faults trail ends Stray = Any (λ v. Any (λ r. ¬ IsInTrail trail r) v.items) ends
Faults trail ends Twice = AreInTrail trail ends × ((place : ℕ) × (1 < times_in place ends))
Faults trail ends Missing =
    AreInTrail trail ends × ((place : ℕ) → place < length trail → times_in place ends ≤ 1)
    × ((place : ℕ) × (place < length trail) × (times_in place ends ≡ 0))
Faults trail ends NoMemory = AreInTrail trail ends

-- how often a place was ticked off
abbrev pub tick_count : List Bool → ℕ → ℕ
tick_count seen place = if slice_index_or seen place false then 1 else 0

-- the fault's name, as it is printed
abbrev pub fault_name : SettleFault → List ℕ
fault_name Stray = codes "Stray"
fault_name Twice = codes "Twice"
fault_name Missing = codes "Missing"
fault_name NoMemory = codes "NoMemory"
