-- The moves of a Produce lead where its partitions do.
use Rattle.std.proofs.Common.{◌≡◌, ℕ, ℤ, pos, List, [], ◌∷◌, ◌++◌, map, Option, Some, None, Result, Ok, Err, Bool, true, false, cond, refl, sym, ap, ◌∙◌}
use Rattle.std.specs.Prelude.{int_lt}
use Rattle.std.proofs.lemmas.List.{map-append}
use Rattle.acl_binding.specs.declared.question.Caller.{Caller}
use Rattle.wire_types.specs.declared.error_code.ErrorCode.{ErrorCode}
use Rattle.wire_types.specs.declared.error_code.ErrorCode.TheVariants as codes
use Rattle.record_batch.specs.declared.transaction_result.TransactionResult.{TransactionResult}
use Rattle.record_batch.specs.BatchHeader.{is_transactional}
use Rattle.record_batch.specs.Batch.{BatchData}
use Rattle.producer_state.specs.declared.judgment.Judgment.{Judgment}
use Rattle.producer_state.specs.declared.judgment.Judgment.TheVariants.{Next, Repeat, Refused}
use Rattle.producer_state.specs.Sequences.{judgment_of as judged_by_log}
use Rattle.partition_log.specs.Log.{at_end}
use Rattle.msg_data.specs.declared.produce.ProduceRequest.{ProduceRequest}
use Rattle.msg_data.specs.declared.produce.ProducedRecords.{ProducedRecords}
use Rattle.walk.specs.Steps.{topics_world}
use Rattle.txn_coordinator.specs.declared.producer_id.ProducerIdAndEpoch.{ProducerIdAndEpoch}
use Rattle.txn_coordinator.specs.declared.target.TopicPartition.{TopicPartition}
use Rattle.txn_coordinator.specs.declared.target.Target.TheVariants.{Partition}
use Rattle.txn_coordinator.specs.Coordinator.{owner, given_by}
use Rattle.txn_laws.specs.Small.{World as SmallWorld, world_with_entry}
use Rattle.txn_laws.specs.Small.Entry.{Data, Other}
use Rattle.txn_laws.specs.Small.Move.{Send, Plain}
use Rattle.txn_laws.specs.Kept.{kept_world_after_moves}
use Rattle.broker_world.specs.World.{World, TopicValue, LogValue, rules_of}
use Rattle.broker_world.specs.First.{non_negative}
use Rattle.broker_world.specs.Logs.{log_at, with_log, log_by, topics_with_batch_by}
use Rattle.data_handlers.specs.Judged.{id_and_epoch_of, partition_at, held_code, given_code, batch_to_append, topics_produced}
use Rattle.data_handlers.specs.Produce.{producing_rule}
use Rattle.broker_laws.specs.Entries.{entry_by, entry_of, small_world}
use Rattle.broker_laws.specs.Moves.{topics_moves, store_moves, append_moves, moves_by, log_moves, batch_moves, produced_moves}
use Rattle.broker_laws.proofs.Logs.{entries_with, entries_kept}
use Rattle.broker_laws.proofs.Walks.{walk_moved}
use Rattle.broker_laws.proofs.Passing.{IsPassed, judged_passed, transactional_id, held_holds, owner_free}

-- ---- a batch

-- the world with these topics
abbrev at : World → List TopicValue → SmallWorld
at w topics = small_world (record w { topics = topics })

-- the batch of a producer id
pair_entry : (b : BatchData) → b.marker ≡ None → int_lt b.header.producer_id (pos 0) ≡ false → entry_of b ≡ Data (id_and_epoch_of b.header)
pair_entry b unmarked low =
    ap (λ (m : Option TransactionResult). entry_by m (id_and_epoch_of b.header)) unmarked
    ∙ ap (λ s. cond s Other (Data (id_and_epoch_of b.header))) low

other_entry : (b : BatchData) → b.marker ≡ None → int_lt b.header.producer_id (pos 0) ≡ true → entry_of b ≡ Other
other_entry b unmarked low =
    ap (λ (m : Option TransactionResult). entry_by m (id_and_epoch_of b.header)) unmarked
    ∙ ap (λ s. cond s Other (Data (id_and_epoch_of b.header))) low

stored_moved : (s : SmallWorld) (id : Option (List ℕ)) (pair : ProducerIdAndEpoch) (p : TopicPartition) → held_code s.coordinator id pair (Partition p) ≡ None → world_with_entry s (Partition p) (Data pair) ≡ kept_world_after_moves s (store_moves id pair (Partition p))
stored_moved s None pair p none = absurd (let clash : Some codes.InvalidTxnState ≡ None = none in cc)
stored_moved s (Some id) pair p none = sym (ap (λ k. cond k (world_with_entry s (Partition p) (Data pair)) s) (held_holds s.coordinator id pair (Partition p) none))

sent_moved : (s : SmallWorld) (pair : ProducerIdAndEpoch) (p : TopicPartition) → given_code (given_by (owner s.coordinator pair.producer)) ≡ None → world_with_entry s (Partition p) (Data pair) ≡ kept_world_after_moves s (Send pair (Partition p) ∷ [])
sent_moved s pair p none = sym (ap (λ k. cond k (world_with_entry s (Partition p) (Data pair)) s) (owner_free s.coordinator pair.producer none))

-- the batch's move is the entry that it is
passed_moved : (s : SmallWorld) (id : Option (List ℕ)) (p : TopicPartition) (b : BatchData) → IsPassed s.coordinator id (Partition p) b → world_with_entry s (Partition p) (entry_of b) ≡ kept_world_after_moves s (append_moves id (Partition p) b.header)
passed_moved s id p b is = by_kind (is_transactional b.header) (int_lt b.header.producer_id (pos 0)) refl refl is.none where
  by_kind : (k l : Bool) → is_transactional b.header ≡ k → int_lt b.header.producer_id (pos 0) ≡ l
      → cond k (held_code s.coordinator id (id_and_epoch_of b.header) (Partition p)) (cond l None (given_code (given_by (owner s.coordinator b.header.producer_id)))) ≡ None
      → world_with_entry s (Partition p) (entry_of b) ≡ kept_world_after_moves s (cond k (store_moves id (id_and_epoch_of b.header) (Partition p)) (cond l (Plain (Partition p) ∷ []) (Send (id_and_epoch_of b.header) (Partition p) ∷ [])))
  by_kind true l kind sign none =
      ap (world_with_entry s (Partition p)) (pair_entry b is.data_alone.unmarked (transactional_id b.header is.data_alone.producer kind))
      ∙ stored_moved s id (id_and_epoch_of b.header) p none
  by_kind false true kind sign none = ap (world_with_entry s (Partition p)) (other_entry b is.data_alone.unmarked sign)
  by_kind false false kind sign none =
      ap (world_with_entry s (Partition p)) (pair_entry b is.data_alone.unmarked sign) ∙ sent_moved s (id_and_epoch_of b.header) p none

-- ---- a log

grown : (log : LogValue) (b : BatchData) → map entry_of (log ++ at_end log b ∷ []) ≡ map entry_of log ++ entry_of b ∷ []
grown log b = map-append entry_of log (at_end log b ∷ [])

judged_moved : (w : World) (id : Option (List ℕ)) (topics : List TopicValue) (name : List ℕ) (i : ℤ) (log : LogValue) (b : BatchData) → log_at topics name i ≡ Some log → IsPassed w.coordinator id (partition_at name i) b
    → (j : Judgment) → at w (with_log topics name i (log_by j log b)) ≡ kept_world_after_moves (at w topics) (moves_by j (append_moves id (partition_at name i) b.header))
judged_moved w id topics name i log b there is Next =
    (λ k. record { coordinator = w.coordinator; entries = λ t. entries_with topics w.groups name i log (log ++ at_end log b ∷ []) (entry_of b) there (grown log b) t k; moment = w.moment })
    ∙ passed_moved (at w topics) id (record { topic = name; index = i }) b is
judged_moved w id topics name i log b there is (Repeat offset) = λ k. record { coordinator = w.coordinator; entries = λ t. entries_kept topics w.groups name i log there t k; moment = w.moment }
judged_moved w id topics name i log b there is (Refused code) = λ k. record { coordinator = w.coordinator; entries = λ t. entries_kept topics w.groups name i log there t k; moment = w.moment }

batch_moved : (w : World) (id : Option (List ℕ)) (topics : List TopicValue) (name : List ℕ) (i : ℤ) (r : Result BatchData ErrorCode) → ((b : BatchData) → r ≡ Ok b → IsPassed w.coordinator id (partition_at name i) b)
    → at w (topics_produced r topics name i) ≡ kept_world_after_moves (at w topics) (batch_moves id (partition_at name i) r (log_at topics name i))
batch_moved w id topics name i (Err code) is = refl
batch_moved w id topics name i (Ok b) is = by_log (log_at topics name i) refl where
  by_log : (o : Option LogValue) → log_at topics name i ≡ o → at w (topics_with_batch_by topics name i b o) ≡ kept_world_after_moves (at w topics) (log_moves id (partition_at name i) b o)
  by_log None e = refl
  by_log (Some log) e = judged_moved w id topics name i log b e (is b refl) (judged_by_log log b)

-- ---- the walk

pub produce_moved : (w : World) (caller : Caller) (r : ProduceRequest) → at w (topics_world (producing_rule w caller r) (rules_of w) w.topics r.topics) ≡ kept_world_after_moves (small_world w) (topics_moves (producing_rule w caller r) (rules_of w) (produced_moves w r) w.topics r.topics)
produce_moved w caller r = walk_moved (producing_rule w caller r) (rules_of w) (produced_moves w r) (at w) part w.topics r.topics where
  part : (topics : List TopicValue) (name : List ℕ) (p : ProducedRecords) → at w ((producing_rule w caller r).after topics name p) ≡ kept_world_after_moves (at w topics) (produced_moves w r topics name p)
  part topics name p =
      let target = partition_at name p.index in
      let batch = batch_to_append (non_negative w.node.max_batch) w.coordinator r.transactional_id r.acks target p.records in
      batch_moved w r.transactional_id topics name p.index batch (λ b. judged_passed (non_negative w.node.max_batch) w.coordinator r.transactional_id r.acks target p.records b)
