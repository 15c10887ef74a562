-- All that the transaction coordinator keeps, and what a call comes to (KIP-98, 'Transaction
-- Coordinator').
use Rattle.std.specs.Prelude.{ℕ, ℤ, pos, negsuc, Bool, List, [], ◌∷◌, ◌++◌, length, slice_get, Option, Some, None, if◌then◌else◌}
use Rattle.std.specs.List.{find}
use Rattle.std.specs.Str.{bytes_eq}
use Rattle.wire_types.specs.declared.error_code.ErrorCode.{ErrorCode}
use Rattle.wire_types.specs.declared.error_code.ErrorCode.TheVariants as codes
use Rattle.txn_coordinator.specs.declared.producer_id.ProducerIdAndEpoch.{ProducerIdAndEpoch}
use Rattle.txn_coordinator.specs.declared.producer_id.ProducerIdAnswer.{ProducerIdAnswer}
use Rattle.txn_coordinator.specs.declared.producer_id.ProducerIdOwner.{ProducerIdOwner}
use Rattle.txn_coordinator.specs.declared.producer_id.ProducerIdOwner.TheVariants.{Never, Free, Owned}
use Rattle.txn_coordinator.specs.declared.transaction.Transaction.{Transaction}
use Rattle.txn_coordinator.specs.declared.marker.PendingMarker.{PendingMarker}
use Rattle.txn_coordinator.specs.Transition.{Transition, Stays, Puts}
use Rattle.txn_coordinator.specs.Words.{no_producer}

pub record CoordinatorValue : Type 0 where
  -- a record for each transactional id, in the order of creation
  pub transactions : List Transaction
  -- the producer ids given out, from 0 up, each with the transactional id that it was given to, or
  -- none
  pub given : List (Option (List ℕ))
  -- the markers that are pending, the front one first
  pub warrants : List PendingMarker

abbrev pub no_transactions : CoordinatorValue
no_transactions = record { transactions = []; given = []; warrants = [] }

-- ---- records

abbrev pub has_id : List ℕ → Transaction → Bool
has_id id t = bytes_eq t.id id

-- the record of a transactional id, if it has one
abbrev pub id_record : List Transaction → List ℕ → Option Transaction
id_record ts id = find (has_id id) ts

-- in place of the record of the same id, else at the end
abbrev pub records_with : List Transaction → Transaction → List Transaction
records_with [] r = r ∷ []
records_with (t ∷ ts) r = if has_id r.id t then r ∷ ts else t ∷ records_with ts r

-- ---- producer ids

-- the next one to be given out
abbrev pub fresh_producer_id : CoordinatorValue → ℤ
fresh_producer_id c = pos (length c.given)

-- to whom a producer id was given: never (None), to no transactional id (Some None), to this one
abbrev pub owner : CoordinatorValue → ℤ → Option (Option (List ℕ))
owner c (pos n) = slice_get c.given n
owner c (negsuc n) = None

abbrev pub given_by : Option (Option (List ℕ)) → ProducerIdOwner
given_by None = Never
given_by (Some None) = Free
given_by (Some (Some id)) = Owned

-- one is given out to no transactional id
abbrev pub given_free : CoordinatorValue → CoordinatorValue
given_free c = record c { given = c.given ++ None ∷ [] }

-- ---- what a call comes to: a code, and a record that is put with what is given out and owed for
-- it

abbrev pub transition_code : Transition → ErrorCode
transition_code (Stays code) = code
transition_code (Puts code t given owed) = code

-- the owners of the producer ids that are given out for it
abbrev pub given_for : Transition → List (Option (List ℕ))
given_for (Stays code) = []
given_for (Puts code t given owed) = given

-- the markers that are pending for it
abbrev pub pending_markers_for : Transition → List PendingMarker
pending_markers_for (Stays code) = []
pending_markers_for (Puts code t given owed) = owed

abbrev pub records_after : List Transaction → Transition → List Transaction
records_after ts (Stays code) = ts
records_after ts (Puts code t given owed) = records_with ts t

abbrev pub apply_transition : CoordinatorValue → Transition → CoordinatorValue
apply_transition c (Stays code) = c
apply_transition c (Puts code t given owed) =
    record {
      transactions = records_with c.transactions t;
      given = c.given ++ given;
      warrants = c.warrants ++ owed;
    }

-- where there is no error, the pair of the id as it then is; else none
abbrev pub answered_id_and_epoch : ErrorCode → Option Transaction → ProducerIdAndEpoch
answered_id_and_epoch codes.None (Some t) = t.pair
answered_id_and_epoch code found = no_producer

-- a call that is refused
abbrev pub refusal_answer : ErrorCode → ProducerIdAnswer
refusal_answer code = record { code = code; pair = no_producer }

abbrev pub id_and_epoch_answer : ErrorCode → Option Transaction → ProducerIdAnswer
id_and_epoch_answer code found = record { code = code; pair = answered_id_and_epoch code found }

-- what a call for this id is answered that answers a pair
abbrev pub transition_answer : CoordinatorValue → List ℕ → Transition → ProducerIdAnswer
transition_answer c id transition =
    id_and_epoch_answer (transition_code transition)
    (id_record (apply_transition c transition).transactions id)
