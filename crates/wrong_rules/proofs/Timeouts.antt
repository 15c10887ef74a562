-- An InitProducerId takes the timeout that it asks for, and wrong ones keep another.
use Rattle.std.proofs.Common.{◌≡◌, ℕ, ℤ, pos, Bool, true, false, ◌&&◌, List, [], ◌∷◌, Option, Some, None, refl, sym, ap, ◌∙◌, arith}
use Rattle.std.specs.Prelude.{nat_le, int_le, if◌then◌else◌}
use Rattle.std.specs.Option.{option_map}
use Rattle.wire_types.specs.declared.error_code.ErrorCode.TheVariants as codes
use Rattle.txn_coordinator.specs.declared.transaction.TransactionState.{TransactionState}
use Rattle.txn_coordinator.specs.declared.transaction.TransactionState.TheVariants.{Empty, Ongoing, PrepareCommit, PrepareAbort, CompleteCommit, CompleteAbort}
use Rattle.txn_coordinator.specs.declared.transaction.Transaction.{Transaction}
use Rattle.txn_coordinator.specs.Transition.{Transition, Stays}
use Rattle.txn_coordinator.specs.Words.{is_empty, next_id_and_epoch}
use Rattle.txn_coordinator.specs.Coordinator.{CoordinatorValue, no_transactions, has_id, id_record, records_with, fresh_producer_id, transition_code, apply_transition}
use Rattle.txn_coordinator.specs.InitProducerId.{timeout_within, new_transaction, init_in, init_for, init}
use Rattle.txn_coordinator.proofs.Table.{recorded_id}
use Rattle.acl_binding.proofs.Same.{itself_bytes}
use Rattle.wrong_rules.specs.Timeouts.{timeout_of, TakesTheTimeout, init_keeping_first, init_with}

-- ---- the right one has it

recorded_put : (ts : List Transaction) (t : Transaction) → id_record (records_with ts t) t.id ≡ Some t
recorded_put ts t = by_list ts where
  own : has_id t.id t ≡ true
  own = itself_bytes t.id

  by_list : (ts : List Transaction) → id_record (records_with ts t) t.id ≡ Some t
  by_list [] = rw own
  by_list (x ∷ xs) = by_first (has_id t.id x) refl (by_list xs) where
    by_first : (b : Bool) → has_id t.id x ≡ b → id_record (records_with xs t) t.id ≡ Some t → id_record (if b then t ∷ xs else x ∷ records_with xs t) t.id ≡ Some t
    by_first true same rest = rw own
    by_first false other rest = rw other rest

module _ (c : CoordinatorValue) (id : List ℕ) (n : ℕ) where
  Takes : Transition → Type 0
  Takes transition = transition_code transition ≡ codes.None → timeout_of (apply_transition c transition) id ≡ Some n

  put : (t : Transaction) → t.id ≡ id → option_map (λ (u : Transaction). u.timeout) (id_record (records_with c.transactions t) id) ≡ Some t.timeout
  put t named =
      ap (λ (i : List ℕ). option_map (λ (u : Transaction). u.timeout) (id_record (records_with c.transactions t) i)) (sym named)
      ∙ ap (option_map (λ (u : Transaction). u.timeout)) (recorded_put c.transactions t)

  in_state : (s : TransactionState) (t : Transaction) (next : ℤ) → t.id ≡ id → Takes (init_in s t next n)
  unfolding Takes
  in_state Empty t next named h = put (record t { pair = next_id_and_epoch t.pair next; timeout = n; state = Empty; kept = None }) named
  in_state CompleteCommit t next named h = put (record t { pair = next_id_and_epoch t.pair next; timeout = n; state = Empty; kept = None }) named
  in_state CompleteAbort t next named h = put (record t { pair = next_id_and_epoch t.pair next; timeout = n; state = Empty; kept = None }) named
  in_state Ongoing t next named h = absurd (let clash : codes.ConcurrentTransactions ≡ codes.None = h in cc)
  in_state PrepareCommit t next named h = absurd (let clash : codes.ConcurrentTransactions ≡ codes.None = h in cc)
  in_state PrepareAbort t next named h = absurd (let clash : codes.ConcurrentTransactions ≡ codes.None = h in cc)

  by_found : (fits : Bool) (found : Option Transaction) (next : ℤ) → id_record c.transactions id ≡ found → Takes (init_for (if fits then Some n else None) found id next)
  unfolding Takes
  by_found false found next is h = absurd (let clash : codes.InvalidTransactionTimeout ≡ codes.None = h in cc)
  by_found true None next is h = put (new_transaction id next n) refl
  by_found true (Some t) next is h = in_state t.state t next (recorded_id c.transactions id t is) h

  by_name : (none : Bool) (greatest : ℤ) → Takes (if none then Stays codes.InvalidRequest else init_for (timeout_within (pos n) greatest) (id_record c.transactions id) id (fresh_producer_id c))
  unfolding Takes
  by_name true greatest h = absurd (let clash : codes.InvalidRequest ≡ codes.None = h in cc)
  by_name false greatest h = by_found (nat_le 1 n && int_le (pos n) greatest) (id_record c.transactions id) (fresh_producer_id c) refl h

  takes : (greatest : ℤ) → Takes (init c id (pos n) greatest)
  unfolding Takes
  takes greatest h = by_name (is_empty id) greatest h

pub takes_the_timeout : TakesTheTimeout init
unfolding Takes
takes_the_timeout c id n greatest h = takes c id n greatest h

-- ---- wrong ones: the id `t` with a timeout of 10, and then of 60

abbrev t : List ℕ
t = 116 ∷ []

abbrev once : CoordinatorValue
once = apply_transition no_transactions (init no_transactions t (pos 10) (pos 900000))

pub not_the_first : ¬ TakesTheTimeout init_keeping_first
not_the_first law = let clash : ◌≡◌ {A = Option ℕ} (Some 10) (Some 60) = law once t 60 (pos 900000) refl in cc

same : (n m : ℕ) → Some n ≡ Some m → n ≡ m
same n m h = cc

-- a family of wrong ones: whatever number each id has, it isn't the one that was asked for
pub not_one_for_all : (n : ℕ) → ¬ TakesTheTimeout (init_with n)
not_one_for_all n law =
    let ten = same n 10 (law no_transactions t 10 (pos 900000) refl) in
    let twenty = same n 20 (law no_transactions t 20 (pos 900000) refl) in
    omega (arith, ten, twenty)
