-- What is gathered and written, part after part.
use Rattle.std.proofs.Common.{◌≡◌, ℕ, suc, ◌+◌, ◌<◌, ◌≤◌, List, [], ◌∷◌, ◌++◌, length, get_or, drop, Option, Result, Ok, Err, OnOk, refl, sym, ap, ◌∙◌, append_assoc, append-nil, add-one, drop-cons}
use Rattle.std.proofs.KnownBytes.{Appends-nil, Appends-trans}
use Rattle.std.proofs.lemmas.List.{drop_all}
use Rattle.std.specs.Io.KnownBytes.{Appends}
use Rattle.std.specs.List.{concat}
use Rattle.byte_streams.specs.Device.{Wrote}
use Rattle.wire_types.specs.Spelling.{many_written, after_count_written}
use Rattle.wire_types.specs.Schema.{string, count32}
use Rattle.wire_types.specs.Topic.{topic_of}
use Rattle.wire_types.specs.declared.topic.Topic.{Topic}
use Rattle.msg_data.specs.declared.fetch.FetchedRecords.{FetchedRecords}
use Rattle.msg_data.specs.Fetch.{fetched_records}
use Rattle.frame_streams.specs.Streaming.{Streams, records_head, records_head_of, topic_head}
use Rattle.frame_streams.proofs.Wrote.{all_of}

-- the first part went wrong
pub fails_first : {A B E F : Type 0} (old new : Option (List ℕ)) (held a b text held' held'' : List ℕ) (q : Result A E) (e : F) → a ++ b ≡ text → Streams old new held a held' q → Streams {A = B} old new held text held'' (Err e)
fails_first old new held a b text held' held'' q e whole s = record {
  done = s.done;
  left = s.left ++ b;
  split = ap (λ (t : List ℕ). held ++ t) (sym whole) ∙ sym (append_assoc held a b) ∙ ap (λ (t : List ℕ). t ++ b) s.split ∙ append_assoc s.done s.left b;
  grew = s.grew;
  all = tt;
}

-- after the first part so much is written, and this is gathered
pub after_first : {A E : Type 0} (old new : Option (List ℕ)) (held a held' : List ℕ) (q : Result A E) (x : A) → q ≡ Ok x → (s : Streams old new held a held' q) → held ++ a ≡ s.done ++ held'
after_first old new held a held' q x is s = s.split ∙ ap (λ (t : List ℕ). s.done ++ t) (all_of (s.left ≡ held') q x is s.all)

-- one part, and then the other
pub both : {A B E F : Type 0} (old mid new : Option (List ℕ)) (held a b text held' held'' : List ℕ) (q : Result A E) (x : A) (r : Result B F) → a ++ b ≡ text → q ≡ Ok x
    → Streams old mid held a held' q → Streams mid new held' b held'' r → Streams old new held text held'' r
both old mid new held a b text held' held'' q x r whole is s t = record {
  done = s.done ++ t.done;
  left = t.left;
  split = ap (λ (u : List ℕ). held ++ u) (sym whole) ∙ sym (append_assoc held a b) ∙ ap (λ (u : List ℕ). u ++ b) (after_first old mid held a held' q x is s)
      ∙ append_assoc s.done held' b ∙ ap (λ (u : List ℕ). s.done ++ u) t.split ∙ sym (append_assoc s.done t.done t.left);
  grew = Appends-trans old mid new s.done t.done s.grew t.grew;
  all = t.all;
}

-- gathered bytes that were all written, and then others with no detour
all_spilled : {A E : Type 0} (old mid : Option (List ℕ)) (held held' : List ℕ) (q : Result A E) (x : A) → q ≡ Ok x → held' ≡ [] → (s : Streams old mid held [] held' q) → held ≡ s.done
all_spilled old mid held held' q x is none s = sym (append-nil held) ∙ after_first old mid held [] held' q x is s ∙ ap (λ (t : List ℕ). s.done ++ t) none ∙ append-nil s.done

pub spilled_then : {A B C E F G : Type 0} (old mid new : Option (List ℕ)) (held bytes held' : List ℕ) (q : Result A E) (x : A) (r : Result B F) (z : B) (y : C) → q ≡ Ok x → held' ≡ [] → r ≡ Ok z
    → Streams old mid held [] held' q → Wrote mid new bytes r → Streams {E = G} old new held bytes held' (Ok y)
spilled_then old mid new held bytes held' q x r z y is none went s w = record {
  done = s.done ++ w.done;
  left = w.left;
  split = ap (λ (t : List ℕ). t ++ bytes) (all_spilled old mid held held' q x is none s) ∙ ap (λ (t : List ℕ). s.done ++ t) w.split ∙ sym (append_assoc s.done w.done w.left);
  grew = Appends-trans old mid new s.done w.done s.grew w.grew;
  all = all_of (w.left ≡ []) r z went w.all ∙ sym none;
}

pub spilled_fails : {A B C E F G : Type 0} (old mid new : Option (List ℕ)) (held bytes held' held'' : List ℕ) (q : Result A E) (x : A) (r : Result B F) (e : G) → q ≡ Ok x → held' ≡ []
    → Streams old mid held [] held' q → Wrote mid new bytes r → Streams {A = C} old new held bytes held'' (Err e)
spilled_fails old mid new held bytes held' held'' q x r e is none s w = record {
  done = s.done ++ w.done;
  left = w.left;
  split = ap (λ (t : List ℕ). t ++ bytes) (all_spilled old mid held held' q x is none s) ∙ ap (λ (t : List ℕ). s.done ++ t) w.split ∙ sym (append_assoc s.done w.done w.left);
  grew = Appends-trans old mid new s.done w.done s.grew w.grew;
  all = tt;
}

none_held : {B E : Type 0} (left held : List ℕ) (r : Result B E) → OnOk r (left ≡ held) → OnOk r (held ≡ []) → OnOk r (left ≡ [])
none_held left held (Ok y) p q = p ∙ q
none_held left held (Err e) p q = tt

-- a text that was gathered first
pub gathered_first : {A E : Type 0} (old new : Option (List ℕ)) (held front rest text mid held' : List ℕ) (r : Result A E) → mid ≡ held ++ front → front ++ rest ≡ text
    → Streams old new mid rest held' r → Streams old new held text held' r
gathered_first old new held front rest text mid held' r is whole s = record {
  done = s.done;
  left = s.left;
  split = ap (λ (t : List ℕ). held ++ t) (sym whole) ∙ sym (append_assoc held front rest) ∙ ap (λ (t : List ℕ). t ++ rest) (sym is) ∙ s.split;
  grew = s.grew;
  all = s.all;
}

-- ---- one value after the other

pub record Rests (old mid : Option (List ℕ)) (whole rest : List ℕ) : Type 0 where
  pub done : List ℕ
  pub split : whole ≡ done ++ rest
  pub grew : Appends old mid done

pub at_first : (old : Option (List ℕ)) (whole : List ℕ) → Rests old old whole whole
at_first old whole = record { done = []; split = refl; grew = Appends-nil old }

next : {A : Type 0} (xs : List A) (i : ℕ) (x : A) → i < length xs → x ≡ get_or xs i x → drop i xs ≡ x ∷ drop (i + 1) xs
next {A} xs i x lt is = rw add-one (drop-cons xs i x lt ∙ ap (λ (y : A). y ∷ drop (suc i) xs) (sym is))

unrolled : {A : Type 0} (text : A → List ℕ) (xs : List A) (i : ℕ) (x : A) → i < length xs → x ≡ get_or xs i x → many_written text (drop i xs) ≡ text x ++ many_written text (drop (i + 1) xs)
unfolding many_written
unrolled text xs i x lt is = ap (many_written text) (next xs i x lt is)

pub rests_on : {A B E : Type 0} (text : A → List ℕ) (xs : List A) (i : ℕ) (x : A) (old mid new : Option (List ℕ)) (whole held held' : List ℕ) (q : Result B E) (y : B)
    → i < length xs → x ≡ get_or xs i x → q ≡ Ok y → Rests old mid whole (held ++ many_written text (drop i xs)) → Streams mid new held (text x) held' q
    → Rests old new whole (held' ++ many_written text (drop (i + 1) xs))
rests_on text xs i x old mid new whole held held' q y lt at is r s =
    let more = many_written text (drop (i + 1) xs) in
    record {
      done = r.done ++ s.done;
      split = r.split ∙ ap (λ (t : List ℕ). r.done ++ (held ++ t)) (unrolled text xs i x lt at) ∙ ap (λ (t : List ℕ). r.done ++ t) (sym (append_assoc held (text x) more))
          ∙ ap (λ (t : List ℕ). r.done ++ (t ++ more)) (after_first mid new held (text x) held' q y is s) ∙ ap (λ (t : List ℕ). r.done ++ t) (append_assoc s.done held' more)
          ∙ sym (append_assoc r.done s.done (held' ++ more));
      grew = Appends-trans old mid new r.done s.done r.grew s.grew;
    }

pub rests_off : {A B C E F : Type 0} (text : A → List ℕ) (xs : List A) (i : ℕ) (x : A) (old mid new : Option (List ℕ)) (first all held held' held'' : List ℕ) (q : Result B E) (e : F)
    → i < length xs → x ≡ get_or xs i x → Rests old mid (first ++ all) (held ++ many_written text (drop i xs)) → Streams mid new held (text x) held' q
    → Streams {A = C} old new first all held'' (Err e)
rests_off text xs i x old mid new first all held held' held'' q e lt at r s =
    let more = many_written text (drop (i + 1) xs) in
    record {
      done = r.done ++ s.done;
      left = s.left ++ more;
      split = r.split ∙ ap (λ (t : List ℕ). r.done ++ (held ++ t)) (unrolled text xs i x lt at) ∙ ap (λ (t : List ℕ). r.done ++ t) (sym (append_assoc held (text x) more))
          ∙ ap (λ (t : List ℕ). r.done ++ (t ++ more)) s.split ∙ ap (λ (t : List ℕ). r.done ++ t) (append_assoc s.done s.left more)
          ∙ sym (append_assoc r.done s.done (s.left ++ more));
      grew = Appends-trans old mid new r.done s.done r.grew s.grew;
      all = tt;
    }

none_left : {A : Type 0} (text : A → List ℕ) (xs : List A) (i : ℕ) → length xs ≤ i → many_written text (drop i xs) ≡ []
unfolding many_written
none_left text xs i le = ap (many_written text) (drop_all i xs le)

pub rests_none : {A B E : Type 0} (text : A → List ℕ) (xs : List A) (i : ℕ) (old new : Option (List ℕ)) (first all held : List ℕ) (y : B) → length xs ≤ i
    → Rests old new (first ++ all) (held ++ many_written text (drop i xs)) → Streams {E = E} old new first all held (Ok y)
rests_none text xs i old new first all held y le r = record {
  done = r.done;
  left = held;
  split = r.split ∙ ap (λ (t : List ℕ). r.done ++ (held ++ t)) (none_left text xs i le) ∙ ap (λ (t : List ℕ). r.done ++ t) (append-nil held);
  grew = r.grew;
  all = refl;
}

-- ---- pieces

pub pieces_text : (xs : List (List ℕ)) → many_written (λ x. x) xs ≡ concat xs
unfolding many_written
pieces_text [] = refl
pieces_text (x ∷ xs) = ap (λ (t : List ℕ). x ++ t) (pieces_text xs)

-- the bytes before the records of a partition, and these
pub records_text : (p : FetchedRecords) (pieces : List (List ℕ)) → concat pieces ≡ p.records → records_head.written (records_head_of p) ++ many_written (λ x. x) pieces ≡ fetched_records.written p
unfolding after_count_written
records_text p pieces are = rw (pieces_text pieces ∙ are) (simp append_assoc)

-- the name of a topic and its number of partitions, and these
pub topic_text : (t : Topic FetchedRecords) (parts : List FetchedRecords) → parts ≡ t.partitions → topic_head.written (t.name, length t.partitions) ++ many_written fetched_records.written parts ≡ (topic_of fetched_records).written t
unfolding after_count_written
topic_text t parts are = ap (λ (ps : List FetchedRecords). topic_head.written (t.name, length t.partitions) ++ many_written fetched_records.written ps) are
    ∙ append_assoc (string.written t.name) (count32.written (length t.partitions)) (many_written fetched_records.written t.partitions)

-- ---- all that was gathered is written in the end

pub streamed_whole : {A B E F : Type 0} (old mid new : Option (List ℕ)) (first text held held' : List ℕ) (q : Result A E) (x : A) (r : Result B F) → first ≡ [] → q ≡ Ok x
    → Streams old mid first text held q → Streams mid new held [] held' r → OnOk r (held' ≡ []) → Wrote old new text r
streamed_whole old mid new first text held held' q x r start is s t none = record {
  done = s.done ++ t.done;
  left = t.left;
  split = ap (λ (u : List ℕ). u ++ text) (sym start) ∙ after_first old mid first text held q x is s ∙ ap (λ (u : List ℕ). s.done ++ u) (sym (append-nil held) ∙ t.split) ∙ sym (append_assoc s.done t.done t.left);
  grew = Appends-trans old mid new s.done t.done s.grew t.grew;
  all = none_held t.left held' r t.all none;
}
