-- A text that is written part after part.
use Rattle.std.proofs.Common.{◌≡◌, ℕ, List, [], ◌++◌, Option, Result, Ok, Err, OnOk, sym, ap, ◌∙◌, append_assoc, append-nil}
use Rattle.std.proofs.KnownBytes.{Appends-trans}
use Rattle.byte_streams.specs.Device.{Wrote}

pub all_of : {A E : Type 0} (P : Type 0) (r : Result A E) (x : A) → r ≡ Ok x → OnOk r P → P
all_of P (Ok y) x is p = p
all_of P (Err e) x is p = absurd cc

-- what was written, where it was all
pub whole_is : {A E : Type 0} (old new : Option (List ℕ)) (text : List ℕ) (r : Result A E) (x : A) → r ≡ Ok x → (w : Wrote old new text r) → text ≡ w.done
whole_is old new text r x is w = w.split ∙ ap (λ (t : List ℕ). w.done ++ t) (all_of (w.left ≡ []) r x is w.all) ∙ append-nil w.done

-- all of the first part, and then the second
pub wrote_both : {A B E F : Type 0} (old mid new : Option (List ℕ)) (a b text : List ℕ) (q : Result A E) (x : A) (r : Result B F) → a ++ b ≡ text → q ≡ Ok x → Wrote old mid a q → Wrote mid new b r → Wrote old new text r
wrote_both old mid new a b text q x r whole is v w = record {
  done = v.done ++ w.done;
  left = w.left;
  split = sym whole ∙ ap (λ (t : List ℕ). t ++ b) (whole_is old mid a q x is v) ∙ ap (λ (t : List ℕ). v.done ++ t) w.split ∙ sym (append_assoc v.done w.done w.left);
  grew = Appends-trans old mid new v.done w.done v.grew w.grew;
  all = w.all;
}
