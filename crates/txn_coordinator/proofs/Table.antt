-- The records as a table keeps them: what is looked up, put and changed there.
use Rattle.std.proofs.Common.{◌≡◌, ℕ, zero, suc, ◌+◌, ◌<◌, List, [], ◌∷◌, drop, slice_get, get_or, length, add-one, Option, Some, None, Bool, true, false, cond, refl, sym, subst, ap, ◌∙◌, arith}
use Rattle.std.specs.Prelude.{Result, Ok, Err, IfOk, OnOk, OnErr}
use Rattle.std.proofs.lemmas.List.{length-map}
use Rattle.std.proofs.lemmas.Option.{slice_get_within, get_or_from_slice_get}
use Rattle.std.proofs.lemmas.Slice.Eq.{bytes_eq-Decides}
use Rattle.std.specs.Map.{lookup, set_value, values_of}
use Rattle.std.specs.Str.{bytes_eq}
use Rattle.std.specs.String.{string_bytes, string_eq}
use Rattle.std.specs.declared.string.String.{String}
use Rattle.std.specs.declared.alloc.Global.{Global}
use Rattle.indexmap.specs.IndexMap.{insert_entry, set_value_at}
use Rattle.keyed_tables.proofs.Tables.{is_under, same_test, looked_up as looked_up_by, found_key, keyed_set, keyed_changed}
use Rattle.txn_coordinator.specs.declared.transaction.Transaction.{Transaction}
use Rattle.record_batch.specs.declared.transaction_result.TransactionResult.{TransactionResult}
use Rattle.wire_types.specs.declared.error_code.ErrorCode.TheVariants as codes
use Rattle.txn_coordinator.specs.declared.producer_id.ProducerIdAnswer.{ProducerIdAnswer}
use Rattle.txn_coordinator.specs.Coordinator.{has_id, id_record, records_with, records_after, transition_code, id_and_epoch_answer}
use Rattle.txn_coordinator.specs.Transition.{Transition, Stays, Puts}
use Rattle.txn_coordinator.specs.Adding.{record_after}
use Rattle.txn_coordinator.specs.Preparing.{fenced_transaction}
use Rattle.txn_coordinator.specs.Bounds.{CanRaise, AllCanRaise}
use Rattle.txn_coordinator.specs.Expiry.{is_due, fenced_if_due}
use Rattle.txn_coordinator.specs.Warrants.{completed_transaction, with_completed}
use Rattle.txn_coordinator.specs.Kept.{id_of, AreIds, all_expired}

pub same_is : (a b : List ℕ) → bytes_eq a b ≡ true → a ≡ b
same_is a b h = (bytes_eq-Decides a b).0 h

-- what is recorded under an id has that id
pub recorded_id : (ts : List Transaction) (id : List ℕ) (t : Transaction) → id_record ts id ≡ Some t → t.id ≡ id
recorded_id [] id t h = cc
recorded_id (x ∷ xs) id t h = by_same (recorded_id xs id t) (has_id id x) refl h where
  by_same : (id_record xs id ≡ Some t → t.id ≡ id) → (b : Bool) → has_id id x ≡ b → cond b (Some x) (id_record xs id) ≡ Some t → t.id ≡ id
  by_same rest true same h = let e : x ≡ t = cc in ap (λ (y : Transaction). y.id) (sym e) ∙ same_is x.id id same
  by_same rest false same h = rest h

-- ---- the record of an id

abbrev Entry : Type 0
Entry = String Global × Transaction

pub looked_up : (es : List Entry) (id : List ℕ) → AreIds es → lookup (is_under id) es ≡ id_record (values_of es) id
looked_up es id h = looked_up_by id_of es id h

-- ---- one more record, or one in its place

pub put_in : (es : List Entry) (id : String Global) (t : Transaction) → string_bytes id ≡ t.id → AreIds es → values_of (insert_entry string_eq es id t) ≡ records_with (values_of es) t
put_in [] id t named h = refl
put_in (e ∷ es) id t named h = by_test (string_eq id e.0) (put_in es id t named h.1) ∙ ap (λ (b : Bool). cond b (t ∷ values_of es) (e.1 ∷ records_with (values_of es) t)) (same_test id_of (string_bytes id) e h.0 ∙ ap (λ (n : List ℕ). has_id n e.1) named) where
  by_test : (b : Bool) → values_of (insert_entry string_eq es id t) ≡ records_with (values_of es) t
      → values_of (cond b ((e.0, t) ∷ es) (e ∷ insert_entry string_eq es id t)) ≡ cond b (t ∷ values_of es) (e.1 ∷ records_with (values_of es) t)
  by_test true more = refl
  by_test false more = ap (λ (l : List Transaction). e.1 ∷ l) more

-- ---- a record that is changed

set_in : (es : List Entry) (id : List ℕ) (t new : Transaction) → new.id ≡ id → AreIds es → lookup (is_under id) es ≡ Some t → values_of (set_value (is_under id) es new) ≡ records_with (values_of es) new
set_in [] id t new named h found = absurd (let clash : None ≡ Some t = found in cc)
set_in (e ∷ es) id t new named h found =
    by_test (is_under id e.0) found (set_in es id t new named h.1)
    ∙ ap (λ (b : Bool). cond b (new ∷ values_of es) (e.1 ∷ records_with (values_of es) new)) (same_test id_of id e h.0 ∙ ap (λ (n : List ℕ). has_id n e.1) (sym named)) where
      by_test : (b : Bool) → cond b (Some e.1) (lookup (is_under id) es) ≡ Some t → (lookup (is_under id) es ≡ Some t → values_of (set_value (is_under id) es new) ≡ records_with (values_of es) new)
          → values_of (cond b ((e.0, new) ∷ es) (e ∷ set_value (is_under id) es new)) ≡ cond b (new ∷ values_of es) (e.1 ∷ records_with (values_of es) new)
      by_test true found more = refl
      by_test false found more = ap (λ (l : List Transaction). e.1 ∷ l) (more found)

pub completed_in : (es : List Entry) (id : List ℕ) (t : Transaction) (o : TransactionResult) → AreIds es → lookup (is_under id) es ≡ Some t
    → values_of (set_value (is_under id) es (completed_transaction o t)) ≡ with_completed o (id_record (values_of es) id) (values_of es)
completed_in es id t o h found =
    let recorded_is : id_record (values_of es) id ≡ Some t = sym (looked_up es id h) ∙ found in
    set_in es id t (completed_transaction o t) (found_key id_of es id t h found) h found
    ∙ ap (λ (r : Option Transaction). with_completed o r (values_of es)) (sym recorded_is)

pub ids_completed : (es : List Entry) (id : List ℕ) (t : Transaction) (o : TransactionResult) → AreIds es → lookup (is_under id) es ≡ Some t → AreIds (set_value (is_under id) es (completed_transaction o t))
ids_completed es id t o h found = keyed_set id_of es (is_under id) t (completed_transaction o t) (sym found) refl h

-- ---- the record of an id after a call

set_same : (es : List Entry) (id : List ℕ) (t : Transaction) → lookup (is_under id) es ≡ Some t → set_value (is_under id) es t ≡ es
set_same [] id t found = refl
set_same (e ∷ es) id t found = by_test (is_under id e.0) found (set_same es id t) where
  by_test : (b : Bool) → cond b (Some e.1) (lookup (is_under id) es) ≡ Some t → (lookup (is_under id) es ≡ Some t → set_value (is_under id) es t ≡ es)
      → cond b ((e.0, t) ∷ es) (e ∷ set_value (is_under id) es t) ≡ e ∷ es
  by_test true found more = let same : e.1 ≡ t = cc in ap (λ (x : Transaction). (e.0, x) ∷ es) (sym same)
  by_test false found more = ap (λ (l : List Entry). e ∷ l) (more found)

-- one that fails leaves the records
pub left_in : (es : List Entry) (id : List ℕ) (t : Transaction) → lookup (is_under id) es ≡ Some t → values_of (set_value (is_under id) es t) ≡ values_of es
left_in es id t found = ap values_of (set_same es id t found)

pub turned_in : (es : List Entry) (id : List ℕ) (t : Transaction) (transition : Transition) → (record_after transition t).id ≡ t.id → AreIds es → lookup (is_under id) es ≡ Some t
    → values_of (set_value (is_under id) es (record_after transition t)) ≡ records_after (values_of es) transition
turned_in es id t (Stays code) same h found = left_in es id t found
turned_in es id t (Puts code u given owed) same h found = set_in es id t u (same ∙ found_key id_of es id t h found) h found

pub ids_turned : (es : List Entry) (id : List ℕ) (t new : Transaction) → new.id ≡ t.id → AreIds es → lookup (is_under id) es ≡ Some t → AreIds (set_value (is_under id) es new)
ids_turned es id t new same h found = keyed_set id_of es (is_under id) t new (sym found) same h

-- ---- a call that changes the record of an id in its place, or fails

ok_then : {T E : Type 0} (r : Result T E) (P Q : Type 0) → (P → Q) → OnOk r P → OnOk r Q
ok_then (Ok x) P Q f h = f h
ok_then (Err e) P Q f h = tt

err_then : {T E : Type 0} (r : Result T E) (P Q : Type 0) → (P → Q) → OnErr r P → OnErr r Q
err_then (Ok x) P Q f h = tt
err_then (Err e) P Q f h = f h

pub either_way : {T E : Type 0} (r : Result T E) (P Q R : Type 0) → (P → R) → (Q → R) → OnOk r P → OnErr r Q → R
either_way (Ok x) P Q R f g ok err = f ok
either_way (Err e) P Q R f g ok err = g err

-- what is looked up under an id is what is recorded of it
pub is_recorded : (es : List Entry) (ts : List Transaction) (id : List ℕ) (found : Option Transaction) → lookup (is_under id) es ≡ found → AreIds es → values_of es ≡ ts → found ≡ id_record ts id
is_recorded es ts id found is h ts_is = sym is ∙ looked_up es id h ∙ ap (λ (l : List Transaction). id_record l id) ts_is

-- the entries before and after it, the records before it, its id, the record before and after it, how it went, and its transition
module _ {T E : Type 0} (es now : List Entry) (ts : List Transaction) (id : List ℕ) (t new : Transaction) (r : Result T E) (transition : Option Transaction → Transition)
    (h : AreIds es) (found : lookup (is_under id) es ≡ Some t) (ts_is : values_of es ≡ ts) (written : now ≡ set_value (is_under id) es new) (keeps : (record_after (transition (Some t)) t).id ≡ t.id) where
  pub called_ids : OnOk r (new ≡ record_after (transition (Some t)) t) → OnErr r (new ≡ t) → AreIds now
  called_ids ok err =
      let same : new.id ≡ t.id = either_way r _ _ _ (λ e. ap (λ (x : Transaction). x.id) e ∙ keeps) (ap (λ (x : Transaction). x.id)) ok err in
      subst AreIds (sym written) (ids_turned es id t new same h found)

  pub called_ok : OnOk r (new ≡ record_after (transition (Some t)) t) → OnOk r (values_of now ≡ records_after ts (transition (id_record ts id)))
  called_ok ok =
      let is_set : (new ≡ record_after (transition (Some t)) t) → values_of now ≡ records_after ts (transition (id_record ts id)) = λ e.
      ap values_of written
      ∙ ap (λ (x : Transaction). values_of (set_value (is_under id) es x)) e
      ∙ turned_in es id t (transition (Some t)) keeps h found
      ∙ ap (λ (l : List Transaction). records_after l (transition (Some t))) ts_is
      ∙ ap (λ (x : Option Transaction). records_after ts (transition x)) (is_recorded es ts id (Some t) found h ts_is) in
      ok_then r _ _ is_set ok

  pub called_err : OnErr r (new ≡ t) → OnErr r (values_of now ≡ ts)
  called_err err =
      let is_left : (new ≡ t) → values_of now ≡ ts = λ e.
      ap values_of written ∙ ap (λ (x : Transaction). values_of (set_value (is_under id) es x)) e ∙ left_in es id t found ∙ ts_is in
      err_then r _ _ is_left err

-- ---- the records that expire

pub ids_expired : (moment : ℕ) (es : List Entry) → AreIds es → AreIds (all_expired moment es)
ids_expired moment es h = keyed_changed id_of (fenced_if_due moment) es (λ t. by_due t (is_due moment t)) h where
  by_due : (t : Transaction) (b : Bool) → (cond b (fenced_transaction t) t).id ≡ t.id
  by_due t true = refl
  by_due t false = refl

-- the epochs of those that are left can be raised
raise_after : (es : List Entry) (place : ℕ) (t new : Transaction) → place < length es → get_or (values_of es) place t ≡ t → AllCanRaise (values_of (drop place es))
    → CanRaise t × AllCanRaise (values_of (drop (suc place) (set_value_at es place new)))
raise_after [] place t new lt at h = absurd (omega arith)
raise_after (e ∷ es) zero t new lt at h = (subst CanRaise at h.0, h.1)
raise_after (e ∷ es) (suc place) t new lt at h = raise_after es place t new (omega arith) at h

pub raise_next : (es : List Entry) (place : ℕ) (t new : Transaction) → slice_get (values_of es) place ≡ Some t → AllCanRaise (values_of (drop place es))
    → CanRaise t × AllCanRaise (values_of (drop (place + 1) (set_value_at es place new)))
raise_next es place t new at h =
    let lt : place < length es = subst (λ (n : ℕ). place < n) (length-map es (λ (e : Entry). e.1)) (slice_get_within (values_of es) place t at) in
    let both = raise_after es place t new lt (get_or_from_slice_get (values_of es) place t t at) h in
    (both.0, subst (λ (n : ℕ). AllCanRaise (values_of (drop n (set_value_at es place new)))) (sym (add-one place)) both.1)

-- ---- a call that can't fail

pub when_ok : {T E : Type 0} (r : Result T E) (P : Type 0) → P → OnOk r P
when_ok (Ok x) P p = p
when_ok (Err e) P p = tt

-- ---- what is recorded after a call

recorded_put : (ts : List Transaction) (t : Transaction) → id_record (records_with ts t) t.id ≡ Some t
recorded_put ts t = by_list ts where
  own : has_id t.id t ≡ true
  own = (bytes_eq-Decides t.id t.id).1 refl

  at_front : (b : Bool) → b ≡ true → (rest : Option Transaction) → cond b (Some t) rest ≡ Some t
  at_front true e rest = refl
  at_front false e rest = absurd (let clash : false ≡ true = e in cc)

  by_list : (ts : List Transaction) → id_record (records_with ts t) t.id ≡ Some t
  by_list [] = at_front (has_id t.id t) own None
  by_list (x ∷ xs) = by_test (has_id t.id x) refl (by_list xs) where
    by_test : (b : Bool) → has_id t.id x ≡ b → id_record (records_with xs t) t.id ≡ Some t → id_record (cond b (t ∷ xs) (x ∷ records_with xs t)) t.id ≡ Some t
    by_test true e more = at_front (has_id t.id t) own (id_record xs t.id)
    by_test false e more = ap (λ (b : Bool). cond b (Some x) (id_record (records_with xs t) t.id)) e ∙ more

recorded_after : (ts : List Transaction) (id : List ℕ) (t : Transaction) (transition : Transition) → (record_after transition t).id ≡ t.id → id_record ts id ≡ Some t → id_record (records_after ts transition) id ≡ Some (record_after transition t)
recorded_after ts id t (Stays code) keeps found = found
recorded_after ts id t (Puts code u given owed) keeps found =
    ap (id_record (records_with ts u)) (sym (keeps ∙ recorded_id ts id t found)) ∙ recorded_put ts u

pub created_answer : (ts : List Transaction) (id : List ℕ) (t : Transaction) → t.id ≡ id → id_and_epoch_answer codes.None (Some t) ≡ id_and_epoch_answer codes.None (id_record (records_with ts t) id)
created_answer ts id t named = ap (id_and_epoch_answer codes.None) (sym (recorded_put ts t) ∙ ap (id_record (records_with ts t)) named)

answer_then : {E : Type 0} (r : Result ProducerIdAnswer E) (P : Type 0) (x y : ProducerIdAnswer) → (P → x ≡ y) → OnOk r P → IfOk r (λ a. a ≡ x) → IfOk r (λ a. a ≡ y)
answer_then (Ok a) P x y f p e = e ∙ f p
answer_then (Err error) P x y f p e = tt

-- what a call is answered is told of the record as it then is
pub called_answer : {E : Type 0} (es now : List Entry) (ts : List Transaction) (id : List ℕ) (t new : Transaction) (r : Result ProducerIdAnswer E) (transition : Option Transaction → Transition)
    → AreIds es → lookup (is_under id) es ≡ Some t → values_of es ≡ ts → now ≡ set_value (is_under id) es new → (record_after (transition (Some t)) t).id ≡ t.id
    → OnOk r (new ≡ record_after (transition (Some t)) t) → IfOk r (λ a. a ≡ id_and_epoch_answer (transition_code (transition (Some t))) (Some new))
    → IfOk r (λ a. a ≡ id_and_epoch_answer (transition_code (transition (id_record ts id))) (id_record (values_of now) id))
called_answer es now ts id t new r transition h found ts_is written keeps ok answer =
    let there : Some t ≡ id_record ts id = is_recorded es ts id (Some t) found h ts_is in
    let told : (new ≡ record_after (transition (Some t)) t) → id_and_epoch_answer (transition_code (transition (Some t))) (Some new) ≡ id_and_epoch_answer (transition_code (transition (id_record ts id))) (id_record (values_of now) id) = λ e.
    let now_is : values_of now ≡ records_after ts (transition (Some t)) =
    ap values_of written ∙ ap (λ (x : Transaction). values_of (set_value (is_under id) es x)) e ∙ turned_in es id t (transition (Some t)) keeps h found ∙ ap (λ (l : List Transaction). records_after l (transition (Some t))) ts_is in
    let recorded_is : id_record (values_of now) id ≡ Some new =
    ap (λ (l : List Transaction). id_record l id) now_is ∙ recorded_after ts id t (transition (Some t)) keeps (sym there) ∙ ap Some (sym e) in
    ap (λ (x : Option Transaction). id_and_epoch_answer (transition_code (transition (Some t))) x) (sym recorded_is) ∙ ap (λ (x : Option Transaction). id_and_epoch_answer (transition_code (transition x)) (id_record (values_of now) id)) there in
    answer_then r _ _ _ told ok answer

-- of each record that is found the epoch can be raised where it has to be
pub raise_found : (ts : List Transaction) (id : List ℕ) (t : Transaction) → AllCanRaise ts → id_record ts id ≡ Some t → CanRaise t
raise_found [] id t h found = absurd (let clash : None ≡ Some t = found in cc)
raise_found (x ∷ xs) id t h found = by_same (raise_found xs id t h.1) (has_id id x) found where
  by_same : (id_record xs id ≡ Some t → CanRaise t) → (b : Bool) → cond b (Some x) (id_record xs id) ≡ Some t → CanRaise t
  by_same rest true found = let e : x ≡ t = cc in subst CanRaise e h.0
  by_same rest false found = rest found
