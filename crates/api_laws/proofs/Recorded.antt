-- Coordinators that agree on a transactional id, and on the producer ids given out, answer a call for it alike.
use Rattle.std.proofs.Common.{◌≡◌, ℕ, ℤ, pos, negsuc, Bool, true, false, cond, List, [], ◌∷◌, ◌++◌, map, length, Option, Some, None, Err, refl, sym, ap, ◌∙◌}
use Rattle.std.specs.Prelude.{slice_get, is_some}
use Rattle.std.specs.Option.{option_map}
use Rattle.std.proofs.lemmas.Option.{slice_get-map}
use Rattle.std.proofs.lemmas.List.{length-map, map-append}
use Rattle.std.specs.Str.{bytes_eq}
use Rattle.std.proofs.lemmas.Slice.Eq.{bytes_eq-Decides}
use Rattle.wire_types.specs.declared.error_code.ErrorCode.TheVariants as codes
use Rattle.txn_coordinator.specs.declared.producer_id.ProducerIdOwner.{ProducerIdOwner}
use Rattle.txn_coordinator.specs.declared.producer_id.ProducerIdOwner.TheVariants.{Never, Free, Owned}
use Rattle.txn_coordinator.specs.declared.producer_id.ProducerIdAndEpoch.{ProducerIdAndEpoch}
use Rattle.txn_coordinator.specs.declared.target.TopicPartition.{TopicPartition}
use Rattle.txn_coordinator.specs.declared.transaction.Transaction.{Transaction}
use Rattle.record_batch.specs.declared.transaction_result.TransactionResult.{TransactionResult}
use Rattle.txn_coordinator.specs.declared.ending.EndForm.{EndForm}
use Rattle.txn_coordinator.specs.Transition.{Transition, Stays, Puts}
use Rattle.txn_coordinator.specs.Words.{is_empty}
use Rattle.txn_coordinator.specs.Coordinator.{CoordinatorValue, has_id, id_record, records_with, owner, given_by, fresh_producer_id, transition_answer, id_and_epoch_answer}
use Rattle.txn_coordinator.specs.InitProducerId.{timeout_within, init_for, init}
use Rattle.txn_coordinator.specs.Adding.{open_found, growth_transition, with_partitions, with_group, add_partitions, add_group}
use Rattle.txn_coordinator.specs.EndTxn.{end_found, end}

-- ---- a record that was put

pub recorded_put : (ts : List Transaction) (r : Transaction) (id : List ℕ) → id_record (records_with ts r) id ≡ cond (has_id id r) (Some r) (id_record ts id)
recorded_put [] r id = refl
recorded_put (t ∷ ts) r id = by_same (has_id r.id t) refl (recorded_put ts r id) where
  other : (b : Bool) → bytes_eq r.id id ≡ b → t.id ≡ r.id → cond b (Some r) (id_record ts id) ≡ cond b (Some r) (cond (bytes_eq t.id id) (Some t) (id_record ts id))
  other true e same = refl
  other false e same = sym (ap (λ (b : Bool). cond b (Some t) (id_record ts id)) (ap (λ (x : List ℕ). bytes_eq x id) same ∙ e))

  swapped : (a b : Bool) (x y : Option Transaction) → bytes_eq r.id id ≡ a → bytes_eq t.id id ≡ b → bytes_eq t.id r.id ≡ false → cond b y (cond a x (id_record ts id)) ≡ cond a x (cond b y (id_record ts id))
  swapped true true x y e f differ = absurd (let same : t.id ≡ r.id = (bytes_eq-Decides t.id id).0 f ∙ sym ((bytes_eq-Decides r.id id).0 e) in let clash : true ≡ false = sym ((bytes_eq-Decides t.id r.id).1 same) ∙ differ in cc)
  swapped true false x y e f differ = refl
  swapped false true x y e f differ = refl
  swapped false false x y e f differ = refl

  by_same : (b : Bool) → bytes_eq t.id r.id ≡ b → id_record (records_with ts r) id ≡ cond (has_id id r) (Some r) (id_record ts id) → id_record (cond b (r ∷ ts) (t ∷ records_with ts r)) id ≡ cond (has_id id r) (Some r) (id_record (t ∷ ts) id)
  by_same true e rest = other (bytes_eq r.id id) refl ((bytes_eq-Decides t.id r.id).0 e)
  by_same false e rest = ap (λ (o : Option Transaction). cond (bytes_eq t.id id) (Some t) o) rest ∙ swapped (bytes_eq r.id id) (bytes_eq t.id id) (Some r) (Some t) refl refl e

-- ---- producer ids given out: as many, each of them free in both or owned in both

abbrev given_of : Option Bool → ProducerIdOwner
given_of None = Never
given_of (Some false) = Free
given_of (Some true) = Owned

of_kind : (o : Option (Option (List ℕ))) → given_by o ≡ given_of (option_map is_some o)
of_kind None = refl
of_kind (Some None) = refl
of_kind (Some (Some id)) = refl

is_owned : (xs ys : List (Option (List ℕ))) → map is_some xs ≡ map is_some ys → (n : ℕ) → given_by (slice_get xs n) ≡ given_by (slice_get ys n)
is_owned xs ys same n =
    of_kind (slice_get xs n)
    ∙ ap given_of (sym (slice_get-map is_some xs n) ∙ ap (λ (l : List Bool). slice_get l n) same ∙ slice_get-map is_some ys n)
    ∙ sym (of_kind (slice_get ys n))

pub same_owner : (c d : CoordinatorValue) (producer : ℤ) → map is_some c.given ≡ map is_some d.given → given_by (owner c producer) ≡ given_by (owner d producer)
same_owner c d (pos n) same = is_owned c.given d.given same n
same_owner c d (negsuc n) same = refl

pub given_more : (xs ys more : List (Option (List ℕ))) → map is_some xs ≡ map is_some ys → map is_some (xs ++ more) ≡ map is_some (ys ++ more)
given_more xs ys more same = map-append is_some xs more ∙ ap (λ (l : List Bool). l ++ map is_some more) same ∙ sym (map-append is_some ys more)

pub same_fresh : (c d : CoordinatorValue) → map is_some c.given ≡ map is_some d.given → fresh_producer_id c ≡ fresh_producer_id d
same_fresh c d same = ap (λ (n : ℕ). pos n) (sym (length-map c.given is_some) ∙ ap (λ (l : List Bool). length l) same ∙ length-map d.given is_some)

-- ---- coordinators that agree

pub record AreSame (c d : CoordinatorValue) (id : List ℕ) : Type 0 where
  pub given : map is_some c.given ≡ map is_some d.given
  pub recorded : id_record c.transactions id ≡ id_record d.transactions id

pub same_init : (c d : CoordinatorValue) (id : List ℕ) (timeout greatest : ℤ) → AreSame c d id → init c id timeout greatest ≡ init d id timeout greatest
same_init c d id timeout greatest same =
    ap (λ (o : Option Transaction). cond (is_empty id) (Stays codes.InvalidRequest) (init_for (timeout_within timeout greatest) o id (fresh_producer_id c))) same.recorded
    ∙ ap (λ (n : ℤ). cond (is_empty id) (Stays codes.InvalidRequest) (init_for (timeout_within timeout greatest) (id_record d.transactions id) id n)) (same_fresh c d same.given)

pub same_end : (c d : CoordinatorValue) (form : EndForm) (id : List ℕ) (pair : ProducerIdAndEpoch) (outcome : TransactionResult) → AreSame c d id → end c form id pair outcome ≡ end d form id pair outcome
same_end c d form id pair outcome same =
    ap (λ (o : Option Transaction). cond (is_empty id) (Stays codes.InvalidRequest) (end_found o form (fresh_producer_id c) pair outcome)) same.recorded
    ∙ ap (λ (n : ℤ). cond (is_empty id) (Stays codes.InvalidRequest) (end_found (id_record d.transactions id) form n pair outcome)) (same_fresh c d same.given)

pub same_add : (c d : CoordinatorValue) (id : List ℕ) (pair : ProducerIdAndEpoch) (moment : ℕ) (ps : List TopicPartition) → AreSame c d id → add_partitions c id pair moment ps ≡ add_partitions d id pair moment ps
same_add c d id pair moment [] same = refl
same_add c d id pair moment (p ∷ ps) same =
    ap (λ (o : Option Transaction). growth_transition (with_partitions (p ∷ ps)) (cond (is_empty id) (Err codes.InvalidRequest) (open_found o pair moment))) same.recorded

pub same_add_group : (c d : CoordinatorValue) (id : List ℕ) (pair : ProducerIdAndEpoch) (moment : ℕ) (group : List ℕ) → AreSame c d id → add_group c id pair moment group ≡ add_group d id pair moment group
same_add_group c d id pair moment group same =
    ap (λ (o : Option Transaction). growth_transition (with_group group) (cond (is_empty id) (Err codes.InvalidRequest) (open_found o pair moment))) same.recorded

pub same_answer : (c d : CoordinatorValue) (id : List ℕ) (transition : Transition) → AreSame c d id → transition_answer c id transition ≡ transition_answer d id transition
same_answer c d id (Stays code) same = ap (id_and_epoch_answer code) same.recorded
same_answer c d id (Puts code t given owed) same =
    ap (id_and_epoch_answer code) (recorded_put c.transactions t id ∙ ap (λ (o : Option Transaction). cond (has_id id t) (Some t) o) same.recorded ∙ sym (recorded_put d.transactions t id))
