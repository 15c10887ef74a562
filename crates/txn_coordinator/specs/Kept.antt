-- What the coordinator keeps beside its plain lists.
use Rattle.std.specs.Prelude.{◌≡◌, ℕ, Bool, List, is_some, unwrap_or}
use Rattle.std.specs.List.{count_by}
use Rattle.std.specs.HashMap.{HashMap, get_by_text}
use Rattle.std.specs.Str.{bytes_eq}
use Rattle.std.specs.declared.string.String.{String}
use Rattle.std.specs.declared.alloc.Global.{Global}
use Rattle.keyed_tables.specs.Keyed.{AreKeyed, each_changed}
use Rattle.txn_coordinator.specs.declared.transaction.Transaction.{Transaction}
use Rattle.txn_coordinator.specs.declared.marker.PendingMarker.{PendingMarker}
use Rattle.txn_coordinator.specs.Expiry.{fenced_if_due}

-- ---- the records

-- the records, and how many more there is room for
pub record RecordsValue : Type 0 where
  pub list : List Transaction
  pub room : ℕ

abbrev pub id_of : Transaction → List ℕ
id_of t = t.id

-- each record stands under its id
abbrev pub AreIds : List (String Global × Transaction) → Type 0
AreIds es = AreKeyed id_of es

-- the records, each under its id, once those that are due at this moment are fenced
abbrev pub all_expired : ℕ → List (String Global × Transaction) → List (String Global × Transaction)
all_expired moment es = each_changed (fenced_if_due moment) es

-- ---- how many markers each id owes

abbrev pub pending_count_of : List PendingMarker → List ℕ → ℕ
pending_count_of owed id = count_by (λ (m : PendingMarker). bytes_eq m.id id) owed

-- whether a table has the id, and what it counts of it: nothing where it hasn't
abbrev pub has_count : {S : Type 0} → HashMap (String Global) ℕ S → List ℕ → Bool
has_count counts id = is_some (get_by_text counts id)

abbrev pub count_of : {S : Type 0} → HashMap (String Global) ℕ S → List ℕ → ℕ
count_of counts id = unwrap_or (get_by_text counts id) 0

-- a table counts the markers of each id
abbrev pub AreCounts : {S : Type 0} → HashMap (String Global) ℕ S → List PendingMarker → Type 0
AreCounts counts owed = (id : List ℕ) → count_of counts id ≡ pending_count_of owed id
