-- The first world holds what the settings say.
use Rattle.std.proofs.Common.{◌≡◌, ◌⊎◌, inl, inr, ℕ, zero, suc, ◌+◌, ℤ, pos, negsuc, List, [], ◌∷◌, ◌++◌, length, Bool, true, false, cond, Some, refl, sym, subst, ap, ◌∙◌, append_assoc, arith}
use Rattle.std.specs.Prelude.{is_some}
use Rattle.std.specs.List.{AllByRecursion, list_all}
use Rattle.std.proofs.lemmas.Bool.{true≢false}
use Rattle.std.proofs.lemmas.List.{map-append}
use Rattle.wire_types.specs.ListLaws.{and_parts}
use Rattle.acl_binding.specs.declared.binding.Binding.{Binding}
use Rattle.acl_binding.specs.declared.binding.Numbered.{Numbered}
use Rattle.acl_binding.specs.Binding.{same_binding}
use Rattle.acl_binding.specs.Book.{BookValue, empty_book, number_of, with_new_binding, with_binding}
use Rattle.acl_binding.proofs.Same.{same_is_equal, equal_is_same}
use Rattle.settings.specs.declared.settings.TopicSetting.{TopicSetting}
use Rattle.settings.specs.Fault.{is_within, is_topic_within}
use Rattle.broker_world.specs.World.{LogValue}
use Rattle.broker_world.specs.First.{non_negative, with_bindings, empty_logs, first_topics, first_world}
use Rattle.broker_world.proofs.InRange.{faultless_in_range, topics_in_range}
use Rattle.txn_laws.specs.Sound.{IsAmong}
use Rattle.broker_laws.specs.FirstWorld.{bindings_of, AreAllDifferent, AreNumberedFrom, AreFirstBindings, AreFirstTopics, FirstWorldIsTheSettings}

-- ---- what a list holds

listed_front : (xs ys : List Binding) (b : Binding) → IsAmong xs b → IsAmong (xs ++ ys) b
listed_front [] ys b h = absurd h
listed_front (x ∷ xs) ys b (inl same) = inl same
listed_front (x ∷ xs) ys b (inr later) = inr (listed_front xs ys b later)

listed_last : (xs : List Binding) (b : Binding) → IsAmong (xs ++ b ∷ []) b
listed_last [] b = inl refl
listed_last (x ∷ xs) b = inr (listed_last xs b)

listed_push : (xs : List Binding) (y b : Binding) → IsAmong (xs ++ y ∷ []) b → IsAmong xs b ⊎ (y ≡ b)
listed_push [] y b (inl same) = inr same
listed_push [] y b (inr h) = absurd h
listed_push (x ∷ xs) y b (inl same) = inl (inl same)
listed_push (x ∷ xs) y b (inr later) = by_rest (listed_push xs y b later) where
  by_rest : IsAmong xs b ⊎ (y ≡ b) → IsAmong (x ∷ xs) b ⊎ (y ≡ b)
  by_rest (inl there) = inl (inr there)
  by_rest (inr last) = inr last

-- one more that isn't there
different_push : (xs : List Binding) (y : Binding) → AreAllDifferent xs → (IsAmong xs y → ⊥) → AreAllDifferent (xs ++ y ∷ [])
different_push [] y h new = ((λ there. there), tt)
different_push (x ∷ xs) y h new = (apart, different_push xs y h.1 (λ there. new (inr there))) where
  apart : IsAmong (xs ++ y ∷ []) x → ⊥
  apart there = by_place (listed_push xs y x there) where
    by_place : IsAmong xs x ⊎ (y ≡ x) → ⊥
    by_place (inl inside) = h.0 inside
    by_place (inr last) = new (inl (sym last))

different_front : (xs : List Binding) (y : Binding) → AreAllDifferent (xs ++ y ∷ []) → AreAllDifferent xs
different_front [] y h = tt
different_front (x ∷ xs) y h = ((λ there. h.0 (listed_front xs (y ∷ []) x there)), different_front xs y h.1)

different_last : (xs : List Binding) (y : Binding) → AreAllDifferent (xs ++ y ∷ []) → IsAmong xs y → ⊥
different_last [] y h there = there
different_last (x ∷ xs) y h (inl same) = h.0 (subst (IsAmong (xs ++ y ∷ [])) (sym same) (listed_last xs y))
different_last (x ∷ xs) y h (inr later) = different_last xs y h.1 later

-- ---- a book

there_is : (es : List Numbered) (b : Binding) → is_some (number_of es b) ≡ true → IsAmong (bindings_of es) b
there_is [] b h = absurd (true≢false (sym h))
there_is (e ∷ es) b h = by_same (same_binding e.binding b) refl h (there_is es b) where
  by_same : (t : Bool) → same_binding e.binding b ≡ t → is_some (cond t (Some e.number) (number_of es b)) ≡ true → (is_some (number_of es b) ≡ true → IsAmong (bindings_of es) b) → IsAmong (bindings_of (e ∷ es)) b
  by_same true is h more = inl (same_is_equal e.binding b is)
  by_same false is h more = inr (more h)

not_there : (es : List Numbered) (b : Binding) → is_some (number_of es b) ≡ false → IsAmong (bindings_of es) b → ⊥
not_there [] b h there = there
not_there (e ∷ es) b h there = by_same (same_binding e.binding b) refl h there (not_there es b) where
  by_place : same_binding e.binding b ≡ false → is_some (number_of es b) ≡ false → IsAmong (bindings_of (e ∷ es)) b → (is_some (number_of es b) ≡ false → IsAmong (bindings_of es) b → ⊥) → ⊥
  by_place other h (inl same) more = true≢false (sym (equal_is_same e.binding b same) ∙ other)
  by_place other h (inr later) more = more h later

  by_same : (t : Bool) → same_binding e.binding b ≡ t → is_some (cond t (Some e.number) (number_of es b)) ≡ false → IsAmong (bindings_of (e ∷ es)) b → (is_some (number_of es b) ≡ false → IsAmong (bindings_of es) b → ⊥) → ⊥
  by_same true is h there more = true≢false h
  by_same false is h there more = by_place is h there more

numbered_push : (es : List Numbered) (n next : ℕ) (b : Binding) → AreNumberedFrom n es → next ≡ n + length es → AreNumberedFrom n (es ++ record { number = next; binding = b } ∷ [])
numbered_push [] n next b h is = (omega (arith, is), tt)
numbered_push (e ∷ es) n next b h is = (h.0, numbered_push es (n + 1) next b h.1 (omega (arith, is)))

length_push : (es : List Numbered) (e : Numbered) → length (es ++ e ∷ []) ≡ length es + 1
length_push [] e = omega arith
length_push (x ∷ es) e = omega (arith, length_push es e)

-- what a book holds once these bindings were added
record Holds (done : List Binding) (book : BookValue) : Type 0 where
  numbered : AreNumberedFrom 1 book.entries
  next : book.next ≡ 1 + length book.entries
  all : (b : Binding) → IsAmong done b → IsAmong (bindings_of book.entries) b
  alone : (b : Binding) → IsAmong (bindings_of book.entries) b → IsAmong done b
  once : AreAllDifferent (bindings_of book.entries)
  in_order : AreAllDifferent done → bindings_of book.entries ≡ done

stays : (done : List Binding) (book : BookValue) (b : Binding) → Holds done book → IsAmong (bindings_of book.entries) b → Holds (done ++ b ∷ []) book
stays done book b h there = record {
  numbered = h.numbered;
  next = h.next;
  all = λ x listed. by_place x (listed_push done b x listed);
  alone = λ x listed. listed_front done (b ∷ []) x (h.alone x listed);
  once = h.once;
  in_order = λ different. absurd (different_last done b different (h.alone b there));
} where
  by_place : (x : Binding) → IsAmong done x ⊎ (b ≡ x) → IsAmong (bindings_of book.entries) x
  by_place x (inl listed) = h.all x listed
  by_place x (inr same) = subst (IsAmong (bindings_of book.entries)) same there

grows : (done : List Binding) (book : BookValue) (b : Binding) → Holds done book → (IsAmong (bindings_of book.entries) b → ⊥) → Holds (done ++ b ∷ []) (with_new_binding book b)
grows done book b h new = record {
  numbered = numbered_push book.entries 1 book.next b h.numbered h.next;
  next = omega (arith, h.next, length_push book.entries (record { number = book.next; binding = b }));
  all = λ x listed. subst (λ (l : List Binding). IsAmong l x) (sym bindings) (by_place x (listed_push done b x listed));
  alone = λ x listed. back x (listed_push (bindings_of book.entries) b x (subst (λ (l : List Binding). IsAmong l x) bindings listed));
  once = subst AreAllDifferent (sym bindings) (different_push (bindings_of book.entries) b h.once new);
  in_order = λ different. bindings ∙ ap (λ (l : List Binding). l ++ b ∷ []) (h.in_order (different_front done b different));
} where
  bindings : bindings_of (book.entries ++ record { number = book.next; binding = b } ∷ []) ≡ bindings_of book.entries ++ b ∷ []
  bindings = map-append (λ (e : Numbered). e.binding) book.entries (record { number = book.next; binding = b } ∷ [])

  by_place : (x : Binding) → IsAmong done x ⊎ (b ≡ x) → IsAmong (bindings_of book.entries ++ b ∷ []) x
  by_place x (inl listed) = listed_front (bindings_of book.entries) (b ∷ []) x (h.all x listed)
  by_place x (inr same) = subst (IsAmong (bindings_of book.entries ++ b ∷ [])) same (listed_last (bindings_of book.entries) b)

  back : (x : Binding) → IsAmong (bindings_of book.entries) x ⊎ (b ≡ x) → IsAmong (done ++ b ∷ []) x
  back x (inl there) = listed_front done (b ∷ []) x (h.alone x there)
  back x (inr same) = subst (IsAmong (done ++ b ∷ [])) same (listed_last done b)

one_added : (done : List Binding) (book : BookValue) (b : Binding) → Holds done book → Holds (done ++ b ∷ []) (with_binding book b)
one_added done book b h = by_test (is_some (number_of book.entries b)) refl where
  by_test : (t : Bool) → is_some (number_of book.entries b) ≡ t → Holds (done ++ b ∷ []) (cond t book (with_new_binding book b))
  by_test true there = stays done book b h (there_is book.entries b there)
  by_test false new = grows done book b h (not_there book.entries b new)

append_nil : (xs : List Binding) → xs ++ [] ≡ xs
append_nil [] = refl
append_nil (x ∷ xs) = ap (λ (l : List Binding). x ∷ l) (append_nil xs)

all_added : (acls done : List Binding) (book : BookValue) → Holds done book → Holds (done ++ acls) (with_bindings book acls)
all_added [] done book h = subst (λ (l : List Binding). Holds l book) (sym (append_nil done)) h
all_added (b ∷ bs) done book h = subst (λ (l : List Binding). Holds l (with_bindings (with_binding book b) bs)) (append_assoc done (b ∷ []) bs) (all_added bs (done ++ b ∷ []) (with_binding book b) (one_added done book b h))

nothing_held : Holds [] empty_book
nothing_held = record { numbered = tt; next = omega arith; all = λ b there. there; alone = λ b there. there; once = tt; in_order = λ different. refl }

first_held : (acls : List Binding) → Holds acls (with_bindings empty_book acls)
first_held acls = all_added acls [] empty_book nothing_held

first_bindings : (acls : List Binding) → AreFirstBindings acls (with_bindings empty_book acls).entries
first_bindings acls =
    let h = first_held acls in
    record { numbered = h.numbered; all = h.all; alone = h.alone; once = h.once; in_order = h.in_order }

-- ---- the topics

so_many : (n : ℕ) → length (empty_logs n) ≡ n
so_many zero = refl
so_many (suc n) = omega (arith, so_many n)

are_empty : (n : ℕ) → AllByRecursion (λ (log : LogValue). log ≡ []) (empty_logs n)
are_empty zero = tt
are_empty (suc n) = (refl, are_empty n)

partitions : (z : ℤ) → is_within 1 1000 z ≡ true → pos (length (empty_logs (non_negative z))) ≡ z
partitions (pos n) h = ap pos (so_many n)
partitions (negsuc n) h = absurd (true≢false (sym h))

first_topics_are : (ts : List TopicSetting) → list_all is_topic_within ts ≡ true → AreFirstTopics ts (first_topics ts)
first_topics_are [] h = refl
first_topics_are (t ∷ ts) h =
    let parts = and_parts (is_topic_within t) (list_all is_topic_within ts) h in
    (record { named = refl; as_many = partitions t.partitions parts.0; empty = are_empty (non_negative t.partitions) }, first_topics_are ts parts.1)

pub first_is : FirstWorldIsTheSettings first_world
first_is s none = record {
  bindings = first_bindings s.acls;
  topics = first_topics_are s.topics (topics_in_range s (faultless_in_range s none));
  supers = refl;
  no_group = refl;
  no_transaction = refl;
  no_marker = refl;
  no_producer_id = refl;
  no_event = refl;
  moment = refl;
  next_number = (first_held s.acls).next;
  max_batch = refl;
  max_txn_timeout = refl;
}
