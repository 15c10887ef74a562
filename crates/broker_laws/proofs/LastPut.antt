-- What one event more makes of what is fetched from a group's offset events.
use Rattle.std.proofs.Common.{◌≡◌, ◌⊎◌, inl, inr, ℕ, ℤ, pos, ◌+◌, List, [], ◌∷◌, ◌++◌, Option, Some, None, Result, Ok, Err, Bool, true, false, cond, refl, sym, ap, ◌∙◌}
use Rattle.std.specs.Prelude.{◌&&◌, is_none, is_some}
use Rattle.std.specs.Ordering.{int_eq}
use Rattle.std.specs.Str.{bytes_eq}
use Rattle.std.proofs.lemmas.Bool.{true≢false, and_from, and_parts, or_left, or_right}
use Rattle.std.proofs.lemmas.Bool.Decides.{Decides-int_eq}
use Rattle.wire_types.specs.declared.error_code.ErrorCode.{ErrorCode}
use Rattle.wire_types.specs.declared.error_code.ErrorCode.TheVariants as errors
use Rattle.wire_types.specs.ErrorCode.{number_of}
use Rattle.record_batch.specs.declared.transaction_result.TransactionResult.{TransactionResult}
use Rattle.record_batch.specs.declared.transaction_result.TransactionResult.TheVariants.{Commit, Abort}
use Rattle.group_offsets.specs.declared.event.PartitionOffset.{PartitionOffset}
use Rattle.group_offsets.specs.declared.event.OffsetEvent.{OffsetEvent}
use Rattle.group_offsets.specs.declared.event.OffsetEvent.TheVariants.{Put, Stage, Decide}
use Rattle.group_offsets.specs.Offsets.{Decision, is_of, first_decision, offset_of, is_undecided, is_staged, fetch_result}
use Rattle.group_offsets.specs.Laws.{or_else, pending_offset_by, pending_offset}
use Rattle.group_offsets.proofs.Following.{committed_goes_on}
use Rattle.group_offsets.proofs.Waiting.{staged_is_pending}
use Rattle.txn_laws.specs.Sound.{Each}
use Rattle.txn_laws.proofs.Base.{each_weaker}
use Rattle.broker_laws.specs.Fetches.{IsOf, DecidesNot, IsNeither, Waits, WaitsLast, IsUnstable, FetchesByEvents}
use Rattle.broker_laws.proofs.Offsets.{text_is}
use Rattle.broker_laws.proofs.Deciding.{own_number, other_number}
use Rattle.broker_laws.proofs.Turning.{text_same}

-- ---- whose the offset is

of_is : (topic : List ℕ) (index : ℤ) (o : PartitionOffset) → is_of topic index o ≡ true → IsOf topic index o
of_is topic index o h =
    let parts = and_parts (int_eq o.index index) (bytes_eq o.topic topic) h in
    record { of_topic = text_is o.topic topic parts.1; of_index = (Decides-int_eq o.index index).0 parts.0 }

is_of_it : (topic : List ℕ) (index : ℤ) (o : PartitionOffset) → IsOf topic index o → is_of topic index o ≡ true
is_of_it topic index o h = and_from (int_eq o.index index) (bytes_eq o.topic topic) ((Decides-int_eq o.index index).1 h.of_index) (text_same o.topic topic h.of_topic)

pub of_other : (topic : List ℕ) (index : ℤ) (o : PartitionOffset) → (IsOf topic index o → ⊥) → is_of topic index o ≡ false
of_other topic index o other = by_test (is_of topic index o) refl where
  by_test : (b : Bool) → is_of topic index o ≡ b → is_of topic index o ≡ false
  by_test true e = absurd (other (of_is topic index o e))
  by_test false e = e

-- ---- decisions

undecided : (p : ℤ) (k : ℕ) (es : List OffsetEvent) → Each (DecidesNot p) es → first_decision p k es ≡ None
undecided p k [] h = refl
undecided p k (Put o ∷ es) h = undecided p (k + 1) es h.1
undecided p k (Stage q o ∷ es) h = undecided p (k + 1) es h.1
undecided p k (Decide q d ∷ es) h =
    ap (λ (b : Bool). cond b (Some (record { place = k; outcome = d })) (first_decision p (k + 1) es)) (other_number q p h.0) ∙ undecided p (k + 1) es h.1

decided_not : (p : ℤ) (k : ℕ) (es : List OffsetEvent) → is_none (first_decision p k es) ≡ true → Each (DecidesNot p) es
decided_not p k [] h = tt
decided_not p k (Put o ∷ es) h = (tt, decided_not p (k + 1) es h)
decided_not p k (Stage q o ∷ es) h = (tt, decided_not p (k + 1) es h)
decided_not p k (Decide q d ∷ es) h = by_test (decided_not p (k + 1) es) (int_eq q p) refl h where
  by_test : (is_none (first_decision p (k + 1) es) ≡ true → Each (DecidesNot p) es) → (b : Bool) → int_eq q p ≡ b
      → is_none (cond b (Some (record { place = k; outcome = d })) (first_decision p (k + 1) es)) ≡ true → Each (DecidesNot p) (Decide q d ∷ es)
  by_test rest true e h = absurd (true≢false (sym h))
  by_test rest false e h = (λ same. true≢false (sym ((Decides-int_eq q p).1 same) ∙ e), rest h)

-- ---- what waits

-- no offset of the partition waits
none_waits : (p : ℤ) (topic : List ℕ) (index : ℤ) (es : List OffsetEvent) → Each (IsNeither p topic index) es → pending_offset es p topic index ≡ None
none_waits p topic index [] h = refl
none_waits p topic index (x ∷ es) h = ap (λ (w : Option PartitionOffset). or_else w (pending_offset_by p topic index x es)) (none_waits p topic index es h.1) ∙ none_by x h.0 where
  none_by : (x : OffsetEvent) → IsNeither p topic index x → pending_offset_by p topic index x es ≡ None
  none_by (Put o) neither = refl
  none_by (Stage q o) neither = by_tests (int_eq p q) refl (is_of topic index o) refl where
    by_tests : (a : Bool) → int_eq p q ≡ a → (b : Bool) → is_of topic index o ≡ b → cond ((a && b) && is_none (first_decision q 0 es)) (Some o) None ≡ None
    by_tests true e true f = absurd (neither (sym ((Decides-int_eq p q).0 e)) (of_is topic index o f))
    by_tests true e false f = refl
    by_tests false e b f = refl
  none_by (Decide q d) neither = refl

neither_decides : (p : ℤ) (topic : List ℕ) (index : ℤ) (e : OffsetEvent) → IsNeither p topic index e → DecidesNot p e
neither_decides p topic index (Put o) h = tt
neither_decides p topic index (Stage q o) h = tt
neither_decides p topic index (Decide q d) h = h

-- the one that was staged last
waits_last : (p : ℤ) (topic : List ℕ) (index : ℤ) (o : PartitionOffset) (before after : List OffsetEvent) → IsOf topic index o → Each (IsNeither p topic index) after → pending_offset (before ++ Stage p o ∷ after) p topic index ≡ Some o
waits_last p topic index o [] after is last =
    ap (λ (w : Option PartitionOffset). or_else w (pending_offset_by p topic index (Stage p o) after)) (none_waits p topic index after last)
    ∙ ap (λ (b : Bool). cond ((b && is_of topic index o) && is_none (first_decision p 0 after)) (Some o) None) (own_number p)
    ∙ ap (λ (b : Bool). cond (b && is_none (first_decision p 0 after)) (Some o) None) (is_of_it topic index o is)
    ∙ ap (λ (d : Option Decision). cond (is_none d) (Some o) None) (undecided p 0 after (each_weaker (IsNeither p topic index) (DecidesNot p) (neither_decides p topic index) after last))
waits_last p topic index o (x ∷ before) after is last =
    ap (λ (w : Option PartitionOffset). or_else w (pending_offset_by p topic index x (before ++ Stage p o ∷ after))) (waits_last p topic index o before after is last)

same_some : (a b : PartitionOffset) → Some a ≡ Some b → a ≡ b
same_some a b h = cc

waits_after : (x : OffsetEvent) (es : List OffsetEvent) (p : ℤ) (topic : List ℕ) (index : ℤ) → Waits es p topic index → Waits (x ∷ es) p topic index
waits_after x es p topic index h = record { offset = h.offset; is = h.is; before = x ∷ h.before; after = h.after; events = ap (λ l. x ∷ l) h.events; undecided = h.undecided }

waits_by : (p : ℤ) (topic : List ℕ) (index : ℤ) (x : OffsetEvent) (es : List OffsetEvent) (o : PartitionOffset) → pending_offset_by p topic index x es ≡ Some o → Waits (x ∷ es) p topic index
waits_by p topic index (Put own) es o h = absurd (let clash : None ≡ Some o = h in cc)
waits_by p topic index (Decide q d) es o h = absurd (let clash : None ≡ Some o = h in cc)
waits_by p topic index (Stage q own) es o h = by_tests (int_eq p q) refl (is_of topic index own) refl (is_none (first_decision q 0 es)) refl h where
  by_tests : (a : Bool) → int_eq p q ≡ a → (b : Bool) → is_of topic index own ≡ b → (c : Bool) → is_none (first_decision q 0 es) ≡ c → cond ((a && b) && c) (Some own) None ≡ Some o → Waits (Stage q own ∷ es) p topic index
  by_tests true e true f true n h =
      let same : p ≡ q = (Decides-int_eq p q).0 e in
      record {
        offset = own;
        is = of_is topic index own f;
        before = [];
        after = es;
        events = ap (λ (z : ℤ). Stage z own ∷ es) (sym same);
        undecided = decided_not p 0 es (ap (λ (z : ℤ). is_none (first_decision z 0 es)) same ∙ n);
      }
  by_tests true e true f false n h = absurd (let clash : None ≡ Some o = h in cc)
  by_tests true e false f c n h = absurd (let clash : None ≡ Some o = h in cc)
  by_tests false e b f c n h = absurd (let clash : None ≡ Some o = h in cc)

pub waits_if : (es : List OffsetEvent) (p : ℤ) (topic : List ℕ) (index : ℤ) (o : PartitionOffset) → pending_offset es p topic index ≡ Some o → Waits es p topic index
waits_if [] p topic index o h = absurd (let clash : None ≡ Some o = h in cc)
waits_if (x ∷ es) p topic index o h = by_rest (pending_offset es p topic index) refl (waits_if es p topic index) h where
  by_rest : (r : Option PartitionOffset) → pending_offset es p topic index ≡ r → ((q : PartitionOffset) → pending_offset es p topic index ≡ Some q → Waits es p topic index) → or_else r (pending_offset_by p topic index x es) ≡ Some o → Waits (x ∷ es) p topic index
  by_rest (Some q) e rest h = waits_after x es p topic index (rest q e)
  by_rest None e rest h = waits_by p topic index x es o h

nothing_waits : (es : List OffsetEvent) (p : ℤ) (topic : List ℕ) (index : ℤ) → (Waits es p topic index → ⊥) → pending_offset es p topic index ≡ None
nothing_waits es p topic index none = by_found (pending_offset es p topic index) refl where
  by_found : (o : Option PartitionOffset) → pending_offset es p topic index ≡ o → pending_offset es p topic index ≡ None
  by_found None e = e
  by_found (Some o) e = absurd (none (waits_if es p topic index o e))

-- ---- who wants a stable offset

staged_there : (p : ℤ) (topic : List ℕ) (index : ℤ) (o : PartitionOffset) (before after : List OffsetEvent) → IsOf topic index o → Each (DecidesNot p) after → is_staged (before ++ Stage p o ∷ after) topic index ≡ true
staged_there p topic index o [] after is none =
    or_left (is_undecided topic index (Stage p o) after) (is_staged after topic index)
    (and_from (is_of topic index o) (is_none (first_decision p 0 after)) (is_of_it topic index o is) (ap (λ (d : Option Decision). is_none d) (undecided p 0 after none)))
staged_there p topic index o (x ∷ before) after is none =
    or_right (is_undecided topic index x (before ++ Stage p o ∷ after)) (is_staged (before ++ Stage p o ∷ after) topic index) (staged_there p topic index o before after is none)

some_is : (o : Option PartitionOffset) → is_some o ≡ true → (x : PartitionOffset) × (o ≡ Some x)
some_is None h = absurd (true≢false (sym h))
some_is (Some x) h = (x, refl)

unstaged : (es : List OffsetEvent) (topic : List ℕ) (index : ℤ) → ((p : ℤ) → Waits es p topic index → ⊥) → is_staged es topic index ≡ false
unstaged es topic index none = by_test (is_staged es topic index) refl where
  by_test : (b : Bool) → is_staged es topic index ≡ b → is_staged es topic index ≡ false
  by_test false e = e
  by_test true e =
      let found = staged_is_pending.pending es topic index e in
      let waits = some_is (pending_offset es found.0 topic index) found.1 in
      absurd (none found.0 (waits_if es found.0 topic index waits.0 waits.1))

abbrev told_by : Bool → List OffsetEvent → List ℕ → ℤ → Result (Option PartitionOffset) ErrorCode
told_by b es topic index = cond b (Err errors.UnstableOffsetCommit) (Ok (offset_of es topic index))

eighty_eight : number_of errors.UnstableOffsetCommit ≡ pos 88
unfolding number_of
eighty_eight = refl

unstable_is : (es : List OffsetEvent) (p : ℤ) (topic : List ℕ) (index : ℤ) → Waits es p topic index → IsUnstable (fetch_result es true topic index)
unstable_is es p topic index h =
    let staged = ap (λ (l : List OffsetEvent). is_staged l topic index) h.events ∙ staged_there p topic index h.offset h.before h.after h.is h.undecided in
    (errors.UnstableOffsetCommit, ap (λ (b : Bool). told_by b es topic index) staged, eighty_eight)

-- the same is told whether a stable one is wanted or not, or it is told to be unstable
pub stable_or : (es : List OffsetEvent) (stable : Bool) (topic : List ℕ) (index : ℤ)
    → (fetch_result es stable topic index ≡ fetch_result es false topic index) ⊎ ((stable ≡ true) × (fetch_result es stable topic index ≡ Err errors.UnstableOffsetCommit))
stable_or es false topic index = inl refl
stable_or es true topic index = by_test (is_staged es topic index) where
  by_test : (b : Bool) → (told_by b es topic index ≡ Ok (offset_of es topic index)) ⊎ ((true ≡ true) × (told_by b es topic index ≡ Err errors.UnstableOffsetCommit))
  by_test true = inr (refl, refl)
  by_test false = inl refl

-- ---- the law

abbrev ok : Option PartitionOffset → Result (Option PartitionOffset) ErrorCode
ok o = Ok o

put_is : (es : List OffsetEvent) (o : PartitionOffset) (topic : List ℕ) (index : ℤ) → IsOf topic index o → fetch_result (es ++ Put o ∷ []) false topic index ≡ Ok (Some o)
put_is es o topic index is = ap ok (committed_goes_on.put es o topic index ∙ ap (λ (b : Bool). cond b (Some o) (offset_of es topic index)) (is_of_it topic index o is))

put_else : (es : List OffsetEvent) (o : PartitionOffset) (topic : List ℕ) (index : ℤ) → (IsOf topic index o → ⊥) → fetch_result (es ++ Put o ∷ []) false topic index ≡ fetch_result es false topic index
put_else es o topic index other = ap ok (committed_goes_on.put es o topic index ∙ ap (λ (b : Bool). cond b (Some o) (offset_of es topic index)) (of_other topic index o other))

commit_is : (es : List OffsetEvent) (p : ℤ) (topic : List ℕ) (index : ℤ) (o : PartitionOffset) → WaitsLast es p topic index o → fetch_result (es ++ Decide p Commit ∷ []) false topic index ≡ Ok (Some o)
commit_is es p topic index o h =
    let waits = ap (λ (l : List OffsetEvent). pending_offset l p topic index) h.events ∙ waits_last p topic index o h.before h.after h.is h.last in
    ap ok (committed_goes_on.commit es p topic index ∙ ap (λ (w : Option PartitionOffset). or_else w (offset_of es topic index)) waits)

commit_else : (es : List OffsetEvent) (p : ℤ) (topic : List ℕ) (index : ℤ) → (Waits es p topic index → ⊥) → fetch_result (es ++ Decide p Commit ∷ []) false topic index ≡ fetch_result es false topic index
commit_else es p topic index none =
    ap ok (committed_goes_on.commit es p topic index ∙ ap (λ (w : Option PartitionOffset). or_else w (offset_of es topic index)) (nothing_waits es p topic index none))

pub fetches_by_events : FetchesByEvents fetch_result
fetches_by_events = record {
  none = λ topic index. refl;
  put = put_is;
  put_other = put_else;
  stage = λ es p o topic index. ap ok (committed_goes_on.stage es p o topic index);
  abort = λ es p topic index. ap ok (committed_goes_on.abort es p topic index);
  commit = commit_is;
  commit_other = commit_else;
  unstable = unstable_is;
  stable = λ es topic index none. ap (λ (b : Bool). told_by b es topic index) (unstaged es topic index none);
}

-- a decision of a producer of which nothing of the partition waits
pub decide_else : (es : List OffsetEvent) (p : ℤ) (d : TransactionResult) (topic : List ℕ) (index : ℤ) → (Waits es p topic index → ⊥) → fetch_result (es ++ Decide p d ∷ []) false topic index ≡ fetch_result es false topic index
decide_else es p Commit topic index none = commit_else es p topic index none
decide_else es p Abort topic index none = ap ok (committed_goes_on.abort es p topic index)
