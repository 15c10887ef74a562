-- A pair that an id has left writes nothing more, and is refused.
use Rattle.std.proofs.Common.{◌≡◌, ℕ, ℤ, pos, negsuc, List, ◌∷◌, Option, Some, None, Err, Bool, true, false, cond, refl, sym, ap, subst, ◌∙◌, arith}
use Rattle.std.specs.Prelude.{◌&&◌, int_lt}
use Rattle.std.specs.Ordering.{int_eq}
use Rattle.std.proofs.lemmas.Int.{ints}
use Rattle.wire_types.specs.declared.error_code.ErrorCode.{ErrorCode}
use Rattle.wire_types.specs.declared.error_code.ErrorCode.TheVariants as codes
use Rattle.record_batch.specs.declared.header.BatchHeader.{BatchHeader}
use Rattle.record_batch.specs.BatchHeader.{is_transactional}
use Rattle.txn_coordinator.specs.declared.producer_id.ProducerIdAndEpoch.{ProducerIdAndEpoch}
use Rattle.txn_coordinator.specs.declared.target.TopicPartition.{TopicPartition}
use Rattle.txn_coordinator.specs.declared.target.Target.{Target}
use Rattle.txn_coordinator.specs.declared.target.Target.TheVariants.{Partition, Group}
use Rattle.txn_coordinator.specs.declared.transaction.Transaction.{Transaction}
use Rattle.record_batch.specs.declared.transaction_result.TransactionResult.{TransactionResult}
use Rattle.txn_coordinator.specs.declared.ending.EndForm.{EndForm}
use Rattle.txn_coordinator.specs.declared.ending.EndForm.TheVariants.{Plain, Fencing, Raising}
use Rattle.txn_coordinator.specs.Transition.{Stays}
use Rattle.txn_coordinator.specs.Words.{last_epoch, is_empty, with_next_epoch}
use Rattle.txn_coordinator.specs.Preparing.{producer_refusal}
use Rattle.txn_coordinator.specs.Coordinator.{CoordinatorValue, id_record, owner, given_by, fresh_producer_id, transition_code}
use Rattle.txn_coordinator.specs.Adding.{with_partitions, with_group, open_by, open_found, open_transaction, growth_transition, add_partitions, add_group}
use Rattle.txn_coordinator.specs.EndTxn.{other_epoch, is_kept, is_again, end_again, end_by, end_found, end}
use Rattle.txn_laws.specs.Small.{World as SmallWorld, Move, world_after_moves}
use Rattle.txn_laws.specs.Sound.{IsFenced, IsOrdered, IsSound}
use Rattle.txn_laws.specs.Laws.{IsSilent, HasIdAndEpoch as HadPair, Refuses}
use Rattle.txn_laws.proofs.Targets.{same_number}
use Rattle.txn_laws.proofs.Moves.{held, free_is, one_owner, moves_sound, moves_fence}
use Rattle.txn_laws.proofs.Fences.{gone_past, fencing_law, refusal_law}
use Rattle.producer_state.proofs.Numbers.{lt_is}
use Rattle.broker_world.specs.World.{World}
use Rattle.data_handlers.specs.Judged.{id_and_epoch_of, held_code, given_code, producer_code}
use Rattle.txn_handlers.specs.TxnOffsetCommit.{Staging, staging_of, staging_refusal}
use Rattle.api_dispatch.specs.Step.{world_after_events}
use Rattle.broker_laws.specs.Entries.{entries_in}
use Rattle.broker_laws.specs.Moves.{moves_of_all}
use Rattle.broker_laws.specs.Laws.{InReached, IsRepeated, TurnsAway, FencedWriteNothing, NoDataAfterAGreaterMarker}
use Rattle.broker_laws.proofs.Passing.{held_holds, owner_free}
use Rattle.broker_laws.proofs.Noted.{stages_nothing}
use Rattle.broker_laws.proofs.Failing.{requests_fail}
use Rattle.broker_laws.proofs.Reached.{full, IsGood, good_reached, good, reached_moved}

-- ---- no check lets it in

-- no record has the pair
not_own : (s : SmallWorld) (id own : List ℕ) (pair : ProducerIdAndEpoch) (t : Transaction) → IsSound s → IsFenced s.coordinator id (with_next_epoch pair) → id_record s.coordinator.transactions own ≡ Some t → t.pair.producer ≡ pair.producer → t.pair.epoch ≡ pair.epoch → ⊥
not_own s id own pair t sound f found producer epoch =
    let c = s.coordinator in
    let mine : owner c pair.producer ≡ Some (Some own) = ap (owner c) (sym producer) ∙ sound.owned own t found in
    let one : own ≡ id = one_owner c pair.producer own id mine f.owned in
    let twice : Some t ≡ Some f.transaction = sym found ∙ ap (id_record c.transactions) one ∙ f.found in
    let record_is : f.transaction ≡ t = cc in
    let reached = f.reached (ap (λ (y : Transaction). y.pair.producer) record_is ∙ producer) in
    let epochs : f.transaction.pair.epoch ≡ pair.epoch = ap (λ (y : Transaction). y.pair.epoch) record_is ∙ epoch in
    omega (arith, ints)

not_stored : (s : SmallWorld) (id : List ℕ) (pair : ProducerIdAndEpoch) → IsSound s → IsFenced s.coordinator id (with_next_epoch pair) → (own : Option (List ℕ)) (target : Target) → held_code s.coordinator own pair target ≡ None → ⊥
not_stored s id pair sound f None target none = let clash : Some codes.InvalidTxnState ≡ None = none in cc
not_stored s id pair sound f (Some own) target none =
    let h = held s.coordinator own pair target (id_record s.coordinator.transactions own) refl (held_holds s.coordinator own pair target none) in
    not_own s id own pair h.transaction sound f h.found h.producer_is h.epoch_is

owner_low : (c : CoordinatorValue) (p : ℤ) (id : List ℕ) → owner c p ≡ Some (Some id) → int_lt p (pos 0) ≡ true → ⊥
owner_low c (pos n) id owned low = let below = lt_is (pos n) (pos 0) low in omega (arith, ints)
owner_low c (negsuc n) id owned low = let clash : None ≡ Some (Some id) = owned in cc

not_sent : (s : SmallWorld) (id : List ℕ) (pair : ProducerIdAndEpoch) → IsFenced s.coordinator id (with_next_epoch pair) → given_code (given_by (owner s.coordinator pair.producer)) ≡ None → ⊥
not_sent s id pair f none =
    let free = free_is (owner s.coordinator pair.producer) (owner_free s.coordinator pair.producer none) in
    let clash : Some None ≡ Some (Some id) = sym free ∙ f.owned in
    let inner : None ≡ Some id = cc in
    absurd cc

not_passed : (s : SmallWorld) (id : List ℕ) (pair : ProducerIdAndEpoch) → IsSound s → IsFenced s.coordinator id (with_next_epoch pair) → (own : Option (List ℕ)) (target : Target) (k : Bool)
    → cond k (held_code s.coordinator own pair target) (cond (int_lt pair.producer (pos 0)) None (given_code (given_by (owner s.coordinator pair.producer)))) ≡ None → ⊥
not_passed s id pair sound f own target true none = not_stored s id pair sound f own target none
not_passed s id pair sound f own target false none = by_sign (int_lt pair.producer (pos 0)) refl none where
  by_sign : (l : Bool) → int_lt pair.producer (pos 0) ≡ l → cond l None (given_code (given_by (owner s.coordinator pair.producer))) ≡ None → ⊥
  by_sign true e none = owner_low s.coordinator pair.producer id f.owned e
  by_sign false e none = not_sent s id pair f none

batch_refused : (s : SmallWorld) (id : List ℕ) (pair : ProducerIdAndEpoch) → IsSound s → IsFenced s.coordinator id (with_next_epoch pair) → (own : Option (List ℕ)) (target : Target) (h : BatchHeader) → id_and_epoch_of h ≡ pair → producer_code s.coordinator own target h ≡ None → ⊥
batch_refused s id pair sound f own target h same none =
    not_passed s id (id_and_epoch_of h) sound (subst (λ p. IsFenced s.coordinator id (with_next_epoch p)) (sym same) f) own target (is_transactional h) none

-- ---- no call comes in with it

-- what the pair of a call is told that isn't the record's
abbrev told : Bool → Bool → Bool → ErrorCode → Option ErrorCode
told a b l other = cond a (cond (b && l) None (Some other)) (Some codes.InvalidProducerIdMapping)

-- what opens no transaction grows none
not_opened : (s : SmallWorld) (id : List ℕ) (pair : ProducerIdAndEpoch) → IsSound s → IsFenced s.coordinator id (with_next_epoch pair) → (own : List ℕ) (moment : ℕ) (grow : Transaction → Transaction) → transition_code (growth_transition grow (open_transaction s.coordinator own pair moment)) ≡ codes.None → ⊥
not_opened s id pair sound f own moment grow none = by_empty (is_empty own) none where
  by_tests : (t : Transaction) (a b l : Bool) → (a ≡ true → b ≡ true → ⊥) → transition_code (growth_transition grow (open_by (told a b l codes.InvalidProducerEpoch) t moment)) ≡ codes.None → ⊥
  by_tests t true true l differ none = differ refl refl
  by_tests t true false l differ none = let clash : codes.InvalidProducerEpoch ≡ codes.None = none in cc
  by_tests t false b l differ none = let clash : codes.InvalidProducerIdMapping ≡ codes.None = none in cc

  by_found : (found : Option Transaction) → id_record s.coordinator.transactions own ≡ found → transition_code (growth_transition grow (open_found found pair moment)) ≡ codes.None → ⊥
  by_found None e none = let clash : codes.InvalidProducerIdMapping ≡ codes.None = none in cc
  by_found (Some t) e none =
      by_tests t (int_eq t.pair.producer pair.producer) (int_eq t.pair.epoch pair.epoch) (int_lt pair.epoch last_epoch)
      (λ producer epoch. not_own s id own pair t sound f e (same_number t.pair.producer pair.producer producer) (same_number t.pair.epoch pair.epoch epoch)) none

  by_empty : (b : Bool) → transition_code (growth_transition grow (cond b (Err codes.InvalidRequest) (open_found (id_record s.coordinator.transactions own) pair moment))) ≡ codes.None → ⊥
  by_empty true none = let clash : codes.InvalidRequest ≡ codes.None = none in cc
  by_empty false none = by_found (id_record s.coordinator.transactions own) refl none

addition_refused : (s : SmallWorld) (id : List ℕ) (pair : ProducerIdAndEpoch) → IsSound s → IsFenced s.coordinator id (with_next_epoch pair) → (own : List ℕ) (moment : ℕ) (p : TopicPartition) (ps : List TopicPartition) → transition_code (add_partitions s.coordinator own pair moment (p ∷ ps)) ≡ codes.None → ⊥
addition_refused s id pair sound f own moment p ps none = not_opened s id pair sound f own moment (with_partitions (p ∷ ps)) none

other_told : (form : EndForm) → other_epoch form ≡ codes.None → ⊥
other_told Plain h = let clash : codes.InvalidProducerEpoch ≡ codes.None = h in cc
other_told Fencing h = let clash : codes.ProducerFenced ≡ codes.None = h in cc
other_told Raising h = let clash : codes.ProducerFenced ≡ codes.None = h in cc

-- only version 5 knows a call once more, by the pair that is kept
again_form : (form : EndForm) (t : Transaction) (pair : ProducerIdAndEpoch) → is_again form t pair ≡ true → (form ≡ Raising) × (is_kept t.kept pair ≡ true)
again_form Plain t pair h = absurd (let clash : false ≡ true = h in cc)
again_form Fencing t pair h = absurd (let clash : false ≡ true = h in cc)
again_form Raising t pair h = (refl, h)

ending_refused : (s : SmallWorld) (id : List ℕ) (pair : ProducerIdAndEpoch) → IsSound s → IsFenced s.coordinator id (with_next_epoch pair) → (form : EndForm) (own : List ℕ) (o : TransactionResult) → transition_code (end s.coordinator form own pair o) ≡ codes.None → IsRepeated s.coordinator form own pair o
ending_refused s id pair sound f form own o none = by_empty (is_empty own) refl none where
  by_tests : (t : Transaction) (a b l : Bool) → (a ≡ true → b ≡ true → ⊥) → transition_code (end_by (told a b l (other_epoch form)) form t (fresh_producer_id s.coordinator) o) ≡ codes.None → ⊥
  by_tests t true true l differ none = differ refl refl
  by_tests t true false l differ none = other_told form none
  by_tests t false b l differ none = let clash : codes.InvalidProducerIdMapping ≡ codes.None = none in cc

  by_again : (t : Transaction) (b : Bool) → is_empty own ≡ false → id_record s.coordinator.transactions own ≡ Some t → is_again form t pair ≡ b
      → transition_code (cond b (Stays (end_again t.state o)) (end_by (producer_refusal (other_epoch form) t pair) form t (fresh_producer_id s.coordinator) o)) ≡ codes.None → IsRepeated s.coordinator form own pair o
  by_again t true named found again none =
      let how = again_form form t pair again in
      record {
        raises = how.0;
        transaction = t;
        found = found;
        keeps = how.1;
        stays =
            ap (λ (b : Bool). cond b (Stays codes.InvalidRequest) (end_found (id_record s.coordinator.transactions own) form (fresh_producer_id s.coordinator) pair o)) named
            ∙ ap (λ (x : Option Transaction). end_found x form (fresh_producer_id s.coordinator) pair o) found
            ∙ ap (λ (b : Bool). cond b (Stays (end_again t.state o)) (end_by (producer_refusal (other_epoch form) t pair) form t (fresh_producer_id s.coordinator) o)) again
            ∙ ap (λ code. Stays code) none;
      }
  by_again t false named found again none =
      absurd (by_tests t (int_eq t.pair.producer pair.producer) (int_eq t.pair.epoch pair.epoch) (int_lt pair.epoch last_epoch)
      (λ producer epoch. not_own s id own pair t sound f found (same_number t.pair.producer pair.producer producer) (same_number t.pair.epoch pair.epoch epoch)) none)

  by_found : (found : Option Transaction) → is_empty own ≡ false → id_record s.coordinator.transactions own ≡ found → transition_code (end_found found form (fresh_producer_id s.coordinator) pair o) ≡ codes.None → IsRepeated s.coordinator form own pair o
  by_found None named e none = absurd (let clash : codes.InvalidProducerIdMapping ≡ codes.None = none in cc)
  by_found (Some t) named e none = by_again t (is_again form t pair) named e refl none

  by_empty : (b : Bool) → is_empty own ≡ b → transition_code (cond b (Stays codes.InvalidRequest) (end_found (id_record s.coordinator.transactions own) form (fresh_producer_id s.coordinator) pair o)) ≡ codes.None → IsRepeated s.coordinator form own pair o
  by_empty true named none = absurd (let clash : codes.InvalidRequest ≡ codes.None = none in cc)
  by_empty false named none = by_found (id_record s.coordinator.transactions own) named refl none

group_addition_refused : (s : SmallWorld) (id : List ℕ) (pair : ProducerIdAndEpoch) → IsSound s → IsFenced s.coordinator id (with_next_epoch pair) → (own : List ℕ) (moment : ℕ) (group : List ℕ) → transition_code (add_group s.coordinator own pair moment group) ≡ codes.None → ⊥
group_addition_refused s id pair sound f own moment group none = not_opened s id pair sound f own moment (with_group group) none

staging_refused : (s : SmallWorld) (id : List ℕ) (pair : ProducerIdAndEpoch) → IsSound s → IsFenced s.coordinator id (with_next_epoch pair) → (offsets : Staging) → offsets.pair ≡ pair → staging_refusal s.coordinator offsets ≡ None → ⊥
staging_refused s id pair sound f offsets same none =
    not_stored s id offsets.pair sound (subst (λ p. IsFenced s.coordinator id (with_next_epoch p)) (sym same) f) (Some offsets.id) (Group offsets.group) none

turns_away : (s : SmallWorld) (id : List ℕ) (pair : ProducerIdAndEpoch) → IsSound s → IsFenced s.coordinator id (with_next_epoch pair) → TurnsAway s.coordinator pair
turns_away s id pair sound f = record {
  batches = batch_refused s id pair sound f;
  additions = addition_refused s id pair sound f;
  group_additions = group_addition_refused s id pair sound f;
  stagings = staging_refused s id pair sound f;
  endings = ending_refused s id pair sound f;
}

-- ---- the laws

-- what is left of the broker's worlds once they are small
pub record IsOut (pair : ProducerIdAndEpoch) (v later : SmallWorld) : Type 0 where
  pub silent : (target : Target) → IsSilent pair (v.entries target) (later.entries target)
  pub refused : Refuses later pair
  pub turned_away : TurnsAway later.coordinator pair

shut_out : (s : SmallWorld) (ms ns : List Move) (id : List ℕ) (pair : ProducerIdAndEpoch) → IsSound s → HadPair s id pair → (HadPair (world_after_moves s ms) id pair → ⊥) → IsOut pair (world_after_moves s ms) (world_after_moves (world_after_moves s ms) ns)
shut_out s ms ns id pair sound had left =
    let past = gone_past s ms id pair sound had left in
    let later = moves_sound s ms sound in
    record {
      silent = fencing_law s sound ms ns id pair had left;
      refused = refusal_law s sound ms ns id pair had left;
      turned_away = turns_away (world_after_moves (world_after_moves s ms) ns) id pair (moves_sound (world_after_moves s ms) ns later) (moves_fence (world_after_moves s ms) ns later id (with_next_epoch pair) past);
    }

-- a log keeps all
silent_kept : (w v : World) (pair : ProducerIdAndEpoch) (before : IsGood w) (after : IsGood v) (p : TopicPartition) → IsSilent pair (before.entries (Partition p)) (after.entries (Partition p)) → IsSilent pair (entries_in w (Partition p)) (entries_in v (Partition p))
silent_kept w v pair before after p h =
    subst (λ old. IsSilent pair old (entries_in v (Partition p))) (before.keeps (Partition p)) (subst (IsSilent pair (before.entries (Partition p))) (after.keeps (Partition p)) h)

fenced : (w : World) → IsGood w → FencedWriteNothing w
fenced w good more after id pair had left =
    let v = world_after_events w more in
    let there = good_reached w more good in
    let end = world_after_events v after in
    let last = good_reached v after there in
    let not_had : HadPair (full v there.entries) id pair → ⊥ = left in
    let moves = moves_of_all v after in
    let out = subst (λ (s : SmallWorld). (HadPair s id pair → ⊥) → IsOut pair s (world_after_moves s moves)) (sym (reached_moved w more good)) (shut_out (full w good.entries) (moves_of_all w more) moves id pair good.sound had) not_had in
    let both = subst (IsOut pair (full v there.entries)) (sym (reached_moved v after there)) out in
    record {
      silent = λ p. silent_kept v end pair there last p (both.silent (Partition p));
      stages_nothing = λ caller client r same. stages_nothing end caller client r (both.turned_away.stagings (staging_of r) same);
      refused = record { in_transaction = both.refused.in_transaction; without_id = both.refused.without_id };
      turned_away = both.turned_away;
      fails = requests_fail end pair both.turned_away;
    }

pub fenced_write_nothing : InReached FencedWriteNothing
fenced_write_nothing s es = fenced _ (good s es)

pub no_data_after_a_greater_marker : InReached NoDataAfterAGreaterMarker
no_data_after_a_greater_marker s es p = let is = good s es in subst IsOrdered (is.keeps (Partition p)) (is.sound.ordered (Partition p))
