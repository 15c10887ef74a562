-- What stands written where a server ends.
use Rattle.std.proofs.Common.{◌≡◌, ◌∙◌, ◌⊎◌, ℕ, ◌++◌, List, [], Option, Some, None, Result, ap, append-nil, append_assoc, inl, inr, refl, subst, sym}
use Rattle.std.specs.Io.KnownBytes.{Appends}
use Rattle.byte_streams.specs.Device.{Wrote}
use Rattle.settings.specs.declared.settings.Settings.{Settings}
use Rattle.broker_server.specs.declared.lines.Unbegun.{Unbegun}
use Rattle.broker_server.specs.Lines.{unbegun_line, listening_line}
use Rattle.broker_server.specs.Serves.{IsLast, Serves}

appends_nothing : (old : Option (List ℕ)) → Appends old old []
appends_nothing None = tt
appends_nothing (Some xs) = sym (append-nil xs)

appends_both : (old mid new : Option (List ℕ)) (xs ys : List ℕ) → Appends old mid xs → Appends mid new ys → Appends old new (xs ++ ys)
appends_both None mid new xs ys a b = tt
appends_both (Some o) None new xs ys a b = absurd a
appends_both (Some o) (Some m) None xs ys a b = absurd b
appends_both (Some o) (Some m) (Some n) xs ys a b = b ∙ (ap (λ l. l ++ ys) a ∙ append_assoc o xs ys)

-- why it isn't begun, or a front of that
pub unbegun_said : {A E : Type 0} (settings : Settings) (old new : Option (List ℕ)) (text : List ℕ) (r : Result A E) (why : Unbegun) → text ≡ unbegun_line why → Wrote old new text r → Serves settings old new 1
unbegun_said settings old new text r why is wrote = inl (record {
  why = why;
  done = wrote.done;
  left = wrote.left;
  split = sym is ∙ wrote.split;
  grew = wrote.grew;
  failed = refl;
})

module _ {A E : Type 0} (settings : Settings) (old new : Option (List ℕ)) (text : List ℕ) (r : Result A E) (address : List ℕ) (is : text ≡ listening_line address) (wrote : Wrote old new text r) where
  -- the first line, or a front of it
  pub first_said : Serves settings old new 1
  first_said = inr (record {
    address = address;
    last = [];
    done = wrote.done;
    left = wrote.left;
    split = append-nil (listening_line address) ∙ (sym is ∙ wrote.split);
    grew = wrote.grew;
    all = inr (refl, inl refl);
  })

-- a text of which nothing is left stands written
whole : {A E : Type 0} (old new : Option (List ℕ)) (text : List ℕ) (r : Result A E) (wrote : Wrote old new text r) → wrote.left ≡ [] → Appends old new text
whole old new text r wrote none = subst (Appends old new) (sym (wrote.split ∙ (ap (λ l. wrote.done ++ l) none ∙ append-nil wrote.done))) wrote.grew

-- both lines, or the first and a front of the last
pub both_said : {A B E F : Type 0} (settings : Settings) (old mid new : Option (List ℕ)) (first last address : List ℕ) (r : Result A E) (s : Result B F) (status : ℕ) → first ≡ listening_line address
    → (one : Wrote old mid first r) → one.left ≡ [] → (two : Wrote mid new last s) → ((two.left ≡ []) × IsLast settings status last) ⊎ ((status ≡ 1) × ((last ≡ []) ⊎ ((due : ℕ) × IsLast settings due last))) → Serves settings old new status
both_said settings old mid new first last address r s status is one none two all = inr (record {
  address = address;
  last = last;
  done = first ++ two.done;
  left = two.left;
  split = ap (λ l. l ++ last) (sym is) ∙ (ap (λ l. first ++ l) two.split ∙ sym (append_assoc first two.done two.left));
  grew = appends_both old mid new first two.done (whole old mid first r one none) two.grew;
  all = all;
})
