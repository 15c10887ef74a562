-- Lists, records under their ids, and producer ids given out.
use Rattle.std.proofs.Common.{◌≡◌, ℕ, ℤ, pos, negsuc, zero, suc, List, [], ◌∷◌, ◌++◌, length, map, Option, Some, None, Bool, true, false, cond, refl, sym, ap, ◌∙◌, arith}
use Rattle.std.specs.Prelude.{slice_get, ◌||◌, ◌<ℤ◌}
use Rattle.std.specs.Str.{bytes_eq}
use Rattle.std.proofs.lemmas.Int.{ints}
use Rattle.std.proofs.lemmas.Option.{slice_get_within}
use Rattle.std.proofs.lemmas.Slice.Eq.{bytes_eq-Decides}
use Rattle.txn_coordinator.specs.declared.transaction.Transaction.{Transaction}
use Rattle.txn_coordinator.specs.declared.marker.PendingMarker.{PendingMarker}
use Rattle.txn_coordinator.specs.Warrants.{has_pending_marker}
use Rattle.txn_coordinator.specs.Coordinator.{CoordinatorValue, has_id, id_record, records_with, owner}
use Rattle.txn_laws.specs.Sound.{Each, HaveOwnIds}

-- ---- Each

pub each_weaker : {X : Type 0} (P Q : X → Type 0) → ((x : X) → P x → Q x) → (xs : List X) → Each P xs → Each Q xs
each_weaker P Q f [] h = tt
each_weaker P Q f (x ∷ xs) h = (f x h.0, each_weaker P Q f xs h.1)

pub each_append : {X : Type 0} (P : X → Type 0) → (xs ys : List X) → Each P xs → Each P ys → Each P (xs ++ ys)
each_append P [] ys h k = k
each_append P (x ∷ xs) ys h k = (h.0, each_append P xs ys h.1 k)

pub each_of : {X : Type 0} (P : X → Type 0) → ((x : X) → P x) → (xs : List X) → Each P xs
each_of P f [] = tt
each_of P f (x ∷ xs) = (f x, each_of P f xs)

pub each_map : {A X : Type 0} (f : A → X) (P : X → Type 0) → ((a : A) → P (f a)) → (xs : List A) → Each P (map f xs)
each_map f P h [] = tt
each_map f P h (x ∷ xs) = (h x, each_map f P h xs)

pub each_with : {X : Type 0} (P Q : X → Type 0) → (xs : List X) → Each P xs → Each Q xs → Each (λ x. P x × Q x) xs
each_with P Q [] h k = tt
each_with P Q (x ∷ xs) h k = ((h.0, k.0), each_with P Q xs h.1 k.1)

-- ---- texts

pub same_is : (a b : List ℕ) → bytes_eq a b ≡ true → a ≡ b
same_is a b h = (bytes_eq-Decides a b).0 h

pub is_same : (a b : List ℕ) → a ≡ b → bytes_eq a b ≡ true
is_same a b h = (bytes_eq-Decides a b).1 h

-- ---- records

pub recorded_put : (ts : List Transaction) (r : Transaction) (id : List ℕ) → id_record (records_with ts r) id ≡ cond (has_id id r) (Some r) (id_record ts id)
recorded_put [] r id = refl
recorded_put (t ∷ ts) r id = by_same (recorded_put ts r id) (has_id r.id t) refl where
  hit : (b c : Bool) → b ≡ c → cond b (Some r) (id_record ts id) ≡ cond b (Some r) (cond c (Some t) (id_record ts id))
  hit true c e = refl
  hit false false e = refl
  hit false true e = cc

  miss : (b c : Bool) → (b ≡ true → c ≡ true → ⊥) → cond c (Some t) (cond b (Some r) (id_record ts id)) ≡ cond b (Some r) (cond c (Some t) (id_record ts id))
  miss true true h = absurd (h refl refl)
  miss true false h = refl
  miss false c h = refl

  by_same : id_record (records_with ts r) id ≡ cond (has_id id r) (Some r) (id_record ts id) → (b : Bool) → has_id r.id t ≡ b → id_record (cond b (r ∷ ts) (t ∷ records_with ts r)) id ≡ cond (has_id id r) (Some r) (cond (has_id id t) (Some t) (id_record ts id))
  by_same rest true h = hit (has_id id r) (has_id id t) (ap (λ (own : List ℕ). bytes_eq own id) (sym (same_is t.id r.id h)))
  by_same rest false h = ap (λ o. cond (has_id id t) (Some t) o) rest ∙ miss (has_id id r) (has_id id t) (λ p q. let both : has_id r.id t ≡ true = is_same t.id r.id (same_is t.id id q ∙ sym (same_is r.id id p)) in cc)

-- where the test is known
pub put_at_test : (ts : List Transaction) (r : Transaction) (id : List ℕ) (b : Bool) → has_id id r ≡ b → id_record (records_with ts r) id ≡ cond b (Some r) (id_record ts id)
put_at_test ts r id b h = recorded_put ts r id ∙ ap (λ b. cond b (Some r) (id_record ts id)) h

-- a record's id stays its own
lacks_put : (ts : List Transaction) (r : Transaction) (id : List ℕ) → (r.id ≡ id → ⊥) → Each (λ (u : Transaction). u.id ≡ id → ⊥) ts → Each (λ (u : Transaction). u.id ≡ id → ⊥) (records_with ts r)
lacks_put [] r id other h = (other, tt)
lacks_put (t ∷ ts) r id other h = by_same (lacks_put ts r id other h.1) (has_id r.id t) where
  by_same : Each (λ (u : Transaction). u.id ≡ id → ⊥) (records_with ts r) → (b : Bool) → Each (λ (u : Transaction). u.id ≡ id → ⊥) (cond b (r ∷ ts) (t ∷ records_with ts r))
  by_same rest true = (other, h.1)
  by_same rest false = (h.0, rest)

pub own_put : (ts : List Transaction) (r : Transaction) → HaveOwnIds ts → HaveOwnIds (records_with ts r)
own_put [] r h = (tt, tt)
own_put (t ∷ ts) r h = by_same (own_put ts r h.1) (has_id r.id t) refl where
  by_same : HaveOwnIds (records_with ts r) → (b : Bool) → has_id r.id t ≡ b → HaveOwnIds (cond b (r ∷ ts) (t ∷ records_with ts r))
  by_same rest true e = (each_weaker (λ (u : Transaction). u.id ≡ t.id → ⊥) (λ (u : Transaction). u.id ≡ r.id → ⊥) (λ u other same. other (same ∙ sym (same_is t.id r.id e))) ts h.0, h.1)
  by_same rest false e = (lacks_put ts r t.id (λ same. let yes : has_id r.id t ≡ true = is_same t.id r.id (sym same) in let clash : true ≡ false = sym yes ∙ e in absurd (cc)) h.0, rest)

-- ---- what an id owes

or_true : (a b : Bool) → b ≡ true → (a || b) ≡ true
or_true true b h = refl
or_true false b h = h

pub owes_more : (xs ys : List PendingMarker) (id : List ℕ) → has_pending_marker xs id ≡ true → has_pending_marker (xs ++ ys) id ≡ true
owes_more [] ys id h = cc
owes_more (x ∷ xs) ys id h = by_same (bytes_eq x.id id) (owes_more xs ys id) h where
  by_same : (b : Bool) → (has_pending_marker xs id ≡ true → has_pending_marker (xs ++ ys) id ≡ true) → (b || has_pending_marker xs id) ≡ true → (b || has_pending_marker (xs ++ ys) id) ≡ true
  by_same true rest h = refl
  by_same false rest h = rest h

pub owes_after : (xs ys : List PendingMarker) (id : List ℕ) → has_pending_marker ys id ≡ true → has_pending_marker (xs ++ ys) id ≡ true
owes_after [] ys id h = h
owes_after (x ∷ xs) ys id h = or_true (bytes_eq x.id id) (has_pending_marker (xs ++ ys) id) (owes_after xs ys id h)

pub owes_rest : (x : PendingMarker) (xs : List PendingMarker) (id : List ℕ) → (x.id ≡ id → ⊥) → has_pending_marker (x ∷ xs) id ≡ true → has_pending_marker xs id ≡ true
owes_rest x xs id other h = by_same (bytes_eq x.id id) refl h where
  by_same : (b : Bool) → bytes_eq x.id id ≡ b → (b || has_pending_marker xs id) ≡ true → has_pending_marker xs id ≡ true
  by_same true e h = absurd (other (same_is x.id id e))
  by_same false e h = h

-- ---- producer ids

-- whose a producer id is, in a list of those that were given out
abbrev pub given_to : List (Option (List ℕ)) → ℤ → Option (Option (List ℕ))
given_to given (pos n) = slice_get given n
given_to given (negsuc n) = None

pub owner_is : (c : CoordinatorValue) (given : List (Option (List ℕ))) (p : ℤ) → c.given ≡ given → owner c p ≡ given_to given p
owner_is c given (pos n) e = ap (λ (l : List (Option (List ℕ))). slice_get l n) e
owner_is c given (negsuc n) e = refl

get_more : {X : Type 0} (xs ys : List X) (i : ℕ) (v : X) → slice_get xs i ≡ Some v → slice_get (xs ++ ys) i ≡ Some v
get_more [] ys i v h = cc
get_more (x ∷ xs) ys zero v h = h
get_more (x ∷ xs) ys (suc i) v h = get_more xs ys i v h

pub given_more : (given more : List (Option (List ℕ))) (p : ℤ) (v : Option (List ℕ)) → given_to given p ≡ Some v → given_to (given ++ more) p ≡ Some v
given_more given more (pos n) v h = get_more given more n v h
given_more given more (negsuc n) v h = absurd (let clash : None ≡ Some v = h in cc)

pub given_next : {X : Type 0} (xs : List X) (v : X) → slice_get (xs ++ v ∷ []) (length xs) ≡ Some v
given_next [] v = refl
given_next (x ∷ xs) v = given_next xs v

pub given_within : (given : List (Option (List ℕ))) (p : ℤ) (v : Option (List ℕ)) → given_to given p ≡ Some v → p <ℤ pos (length given)
given_within given (pos n) v h = let low = slice_get_within given n v h in omega (arith, ints)
given_within given (negsuc n) v h = absurd (let clash : None ≡ Some v = h in cc)
