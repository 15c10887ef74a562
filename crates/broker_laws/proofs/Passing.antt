-- What a batch is that the broker's check lets in.
use Rattle.std.proofs.Common.{◌≡◌, ℕ, ℤ, pos, negsuc, List, length, eqb, Option, Some, None, Result, Ok, Err, Bool, true, false, cond, refl, sym, subst, ◌∙◌}
use Rattle.std.specs.Prelude.{◌&&◌, not, int_lt}
use Rattle.std.specs.Ordering.{int_eq}
use Rattle.acl_binding.specs.declared.words.Kind.{Kind}
use Rattle.acl_binding.specs.declared.words.Kind.TheVariants as kinds
use Rattle.wire_types.specs.declared.error_code.ErrorCode.{ErrorCode}
use Rattle.wire_types.specs.declared.error_code.ErrorCode.TheVariants as codes
use Rattle.record_batch.specs.declared.header.BatchHeader.{BatchHeader}
use Rattle.record_batch.specs.declared.fault.BatchFault.{BatchFault}
use Rattle.record_batch.specs.BatchHeader.{batch_header, is_transactional}
use Rattle.record_batch.specs.Batch.{BatchData, has_producer}
use Rattle.record_batch.specs.Faults.{first_fault, IsData}
use Rattle.record_batch.proofs.Lawful.{faultless_is_batch}
use Rattle.txn_coordinator.specs.declared.producer_id.ProducerIdAndEpoch.{ProducerIdAndEpoch}
use Rattle.txn_coordinator.specs.declared.target.Target.{Target}
use Rattle.txn_coordinator.specs.declared.transaction.Transaction.{Transaction}
use Rattle.txn_coordinator.specs.Words.{has_target, is_ongoing}
use Rattle.txn_coordinator.specs.Coordinator.{CoordinatorValue, id_record, owner, given_by}
use Rattle.txn_coordinator.specs.Holding.{is_usable, holding_code_of, holding_code}
use Rattle.walk.specs.Codes.{permission_code}
use Rattle.txn_laws.specs.Small.{is_no_error, is_free}
use Rattle.data_handlers.specs.Sent.{batch_or_fault_by, batch_or_fault}
use Rattle.data_handlers.specs.SentLaws.{sent_is}
use Rattle.data_handlers.specs.Judged.{are_acks, given_code, producer_code, batch_or_error_by, batch_or_error, batch_in, batch_to_append}
use Rattle.broker_world.specs.Codes.{code_unless_none}

-- ---- the batch

-- data without a marker, whose producer passes
pub record IsPassed (c : CoordinatorValue) (id : Option (List ℕ)) (target : Target) (b : BatchData) : Type 0 where
  pub data_alone : IsData b
  pub none : producer_code c id target b.header ≡ None

sent_data : (most : ℕ) (bytes : List ℕ) (b : BatchData) → batch_or_fault most bytes ≡ Ok b → IsData b
sent_data most bytes b whole = by_fault (first_fault most bytes) refl whole where
  by_fault : (f : Option BatchFault) → first_fault most bytes ≡ f → batch_or_fault_by f bytes (batch_header.reading bytes) ≡ Ok b → IsData b
  by_fault (Some fault) e is = absurd (let clash : Err fault ≡ Ok b = is in cc)
  by_fault None e is =
      let some = (faultless_is_batch most bytes).0 e in
      let twice : Ok some.0 ≡ Ok b = sym (sent_is most bytes some.0 some.2 some.3.unmarked some.1 e) ∙ whole in
      let same : some.0 ≡ b = cc in
      subst IsData same some.3

by_code : (c : CoordinatorValue) (id : Option (List ℕ)) (target : Target) (x b : BatchData) (o : Option ErrorCode) → producer_code c id target x.header ≡ o → batch_or_error_by o x ≡ Ok b → (x ≡ b) × (producer_code c id target x.header ≡ None)
by_code c id target x b (Some code) e is = absurd (let clash : Err code ≡ Ok b = is in cc)
by_code c id target x b None e is = let same : x ≡ b = cc in (same, e)

passed_is : (c : CoordinatorValue) (id : Option (List ℕ)) (target : Target) (most : ℕ) (bytes : List ℕ) (b : BatchData) (r : Result BatchData BatchFault) → batch_or_fault most bytes ≡ r → batch_or_error c id target r ≡ Ok b → IsPassed c id target b
passed_is c id target most bytes b (Err fault) e is = absurd (let clash : batch_or_error c id target (Err fault) ≡ Ok b = is in cc)
passed_is c id target most bytes b (Ok x) e is =
    let parts = by_code c id target x b (producer_code c id target x.header) refl is in
    subst (IsPassed c id target) parts.0 (record { data_alone = sent_data most bytes x e; none = parts.1 })

records_passed : (c : CoordinatorValue) (id : Option (List ℕ)) (target : Target) (most : ℕ) (records : Option (List ℕ)) (b : BatchData) → batch_in most c id target records ≡ Ok b → IsPassed c id target b
records_passed c id target most None b is = absurd (let clash : Err codes.InvalidRecord ≡ Ok b = is in cc)
records_passed c id target most (Some bytes) b is = by_empty (eqb (length bytes) 0) is where
  by_empty : (empty : Bool) → cond empty (Err codes.InvalidRecord) (batch_or_error c id target (batch_or_fault most bytes)) ≡ Ok b → IsPassed c id target b
  by_empty true is = absurd (let clash : Err codes.InvalidRecord ≡ Ok b = is in cc)
  by_empty false is = passed_is c id target most bytes b (batch_or_fault most bytes) refl is

pub judged_passed : (most : ℕ) (c : CoordinatorValue) (id : Option (List ℕ)) (acks : ℤ) (target : Target) (records : Option (List ℕ)) (b : BatchData) → batch_to_append most c id acks target records ≡ Ok b → IsPassed c id target b
judged_passed most c id acks target records b is = by_acks (are_acks acks) is where
  by_acks : (known : Bool) → cond known (batch_in most c id target records) (Err codes.InvalidRequiredAcks) ≡ Ok b → IsPassed c id target b
  by_acks true is = records_passed c id target most records b is
  by_acks false is = absurd (let clash : Err codes.InvalidRequiredAcks ≡ Ok b = is in cc)

-- ---- its producer

and_not : (x t : Bool) → t ≡ true → (x && not t) ≡ true → ⊥
and_not true true e h = cc
and_not true false e h = cc
and_not false t e h = cc

-- a batch of a transaction has a producer id
pub transactional_id : (h : BatchHeader) → has_producer h ≡ true → is_transactional h ≡ true → int_lt h.producer_id (pos 0) ≡ false
transactional_id h has e = by_sign (int_lt h.producer_id (pos 0)) has where
  by_sign : (s : Bool) → cond s (int_eq h.producer_id (negsuc 0) && not (is_transactional h)) (not (int_lt h.producer_epoch (pos 0)) && not (int_lt h.base_sequence (pos 0))) ≡ true → s ≡ false
  by_sign true both = absurd (and_not (int_eq h.producer_id (negsuc 0)) (is_transactional h) e both)
  by_sign false both = refl

-- ---- what the checks tell

found_holds : (found : Option Transaction) (pair : ProducerIdAndEpoch) (target : Target) → code_unless_none (holding_code_of found pair target) ≡ None → is_no_error (holding_code_of found pair target) ≡ true
found_holds None pair target h = absurd (let clash : Some codes.InvalidProducerIdMapping ≡ None = h in cc)
found_holds (Some t) pair target h = by_tests (int_eq t.pair.producer pair.producer) (int_eq t.pair.epoch pair.epoch && is_usable target pair.epoch) (is_ongoing t.state && has_target t target) h where
  by_tests : (a b d : Bool) → code_unless_none (cond a (cond b (cond d codes.None codes.InvalidTxnState) codes.InvalidProducerEpoch) codes.InvalidProducerIdMapping) ≡ None
      → is_no_error (cond a (cond b (cond d codes.None codes.InvalidTxnState) codes.InvalidProducerEpoch) codes.InvalidProducerIdMapping) ≡ true
  by_tests true true true h = refl
  by_tests true true false h = absurd (let clash : Some codes.InvalidTxnState ≡ None = h in cc)
  by_tests true false d h = absurd (let clash : Some codes.InvalidProducerEpoch ≡ None = h in cc)
  by_tests false b d h = absurd (let clash : Some codes.InvalidProducerIdMapping ≡ None = h in cc)

pub held_holds : (c : CoordinatorValue) (id : List ℕ) (pair : ProducerIdAndEpoch) (target : Target) → code_unless_none (holding_code c id pair target) ≡ None → is_no_error (holding_code c id pair target) ≡ true
held_holds c id pair target h = found_holds (id_record c.transactions id) pair target h

given_free : (o : Option (Option (List ℕ))) → given_code (given_by o) ≡ None → is_free o ≡ true
given_free None h = absurd (let clash : Some codes.InvalidProducerIdMapping ≡ None = h in cc)
given_free (Some None) h = refl
given_free (Some (Some id)) h = absurd (let clash : Some codes.InvalidTxnState ≡ None = h in cc)

pub owner_free : (c : CoordinatorValue) (producer : ℤ) → given_code (given_by (owner c producer)) ≡ None → is_free (owner c producer) ≡ true
owner_free c producer h = given_free (owner c producer) h

-- ---- what is refused is told an error

pub never_none : (k : Kind) → permission_code k ≡ codes.None → ⊥
never_none kinds.Topic h = cc
never_none kinds.Group h = cc
never_none kinds.Cluster h = cc
never_none kinds.TransactionalId h = cc

found_error : (found : Option Transaction) (pair : ProducerIdAndEpoch) (target : Target) → code_unless_none (holding_code_of found pair target) ≡ Some codes.None → ⊥
found_error None pair target h = let clash : Some codes.InvalidProducerIdMapping ≡ Some codes.None = h in cc
found_error (Some t) pair target h = by_tests (int_eq t.pair.producer pair.producer) (int_eq t.pair.epoch pair.epoch && is_usable target pair.epoch) (is_ongoing t.state && has_target t target) h where
  by_tests : (a b d : Bool) → code_unless_none (cond a (cond b (cond d codes.None codes.InvalidTxnState) codes.InvalidProducerEpoch) codes.InvalidProducerIdMapping) ≡ Some codes.None → ⊥
  by_tests true true true h = let clash : None ≡ Some codes.None = h in cc
  by_tests true true false h = let clash : Some codes.InvalidTxnState ≡ Some codes.None = h in cc
  by_tests true false d h = let clash : Some codes.InvalidProducerEpoch ≡ Some codes.None = h in cc
  by_tests false b d h = let clash : Some codes.InvalidProducerIdMapping ≡ Some codes.None = h in cc

pub held_error : (c : CoordinatorValue) (id : List ℕ) (pair : ProducerIdAndEpoch) (target : Target) → code_unless_none (holding_code c id pair target) ≡ Some codes.None → ⊥
held_error c id pair target h = found_error (id_record c.transactions id) pair target h
