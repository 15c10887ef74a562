-- What becomes of a group that a transaction takes in: what its producer had staged is decided.
use Rattle.std.proofs.Common.{◌≡◌, ℕ, ℤ, ◌+◌, List, [], ◌∷◌, ◌++◌, map, Some, None, Bool, true, false, cond, refl, sym, ap, subst, ◌∙◌, append-nil, append_assoc}
use Rattle.std.specs.Prelude.{◌&&◌}
use Rattle.std.specs.Option.{option_map}
use Rattle.std.specs.Ordering.{int_eq}
use Rattle.std.proofs.lemmas.Bool.Decides.{Decides-int_eq}
use Rattle.std.proofs.lemmas.List.{map-append}
use Rattle.txn_coordinator.specs.declared.producer_id.ProducerIdAndEpoch.{ProducerIdAndEpoch}
use Rattle.txn_coordinator.specs.declared.target.TopicPartition.{TopicPartition}
use Rattle.txn_coordinator.specs.declared.target.Target.{Target}
use Rattle.txn_coordinator.specs.declared.target.Target.TheVariants.{Partition, Group}
use Rattle.record_batch.specs.declared.transaction_result.TransactionResult.{TransactionResult}
use Rattle.record_batch.specs.declared.transaction_result.TransactionResult.TheVariants.{Commit, Abort}
use Rattle.txn_coordinator.specs.declared.marker.PendingMarker.{PendingMarker}
use Rattle.group_offsets.specs.declared.event.OffsetEvent.{OffsetEvent}
use Rattle.group_offsets.specs.declared.event.OffsetEvent.TheVariants.{Put, Stage, Decide}
use Rattle.group_offsets.specs.Offsets.{is_of, first_decision, offset_of}
use Rattle.group_offsets.specs.Groups.{group_of}
use Rattle.group_offsets.specs.Laws.{or_else, pending_offset}
use Rattle.group_offsets.proofs.Following.{committed_goes_on}
use Rattle.group_offsets.proofs.Waiting.{pending_goes_on}
use Rattle.txn_laws.specs.Small.{Entry}
use Rattle.txn_laws.specs.Small.Entry.{Data, Marker, Other}
use Rattle.txn_laws.specs.Sound.{Each}
use Rattle.txn_laws.specs.Laws.{IsNotOf, IsEnded, IsDone}
use Rattle.txn_laws.specs.Kept.{kept_id_and_epoch}
use Rattle.txn_laws.proofs.Base.{each_weaker}
use Rattle.broker_world.specs.World.{World}
use Rattle.api_dispatch.specs.Step.{step, world_after_events}
use Rattle.broker_laws.specs.Entries.{in_group, event_entry, entries_in}
use Rattle.broker_laws.specs.Laws.{InReached, IsNotBy, committed_after, IsDecided, DecidesPrepared, DecidesWaiting}
use Rattle.broker_laws.proofs.Noted.{Follows, GoOn}
use Rattle.broker_laws.proofs.Growing.{Anything, reached_goes}
use Rattle.broker_laws.proofs.Reached.{IsGood, good}
use Rattle.broker_laws.proofs.Completing.{prepared_done, waiting_completes}

-- ---- the events among which the entries stand

pub cancelled : (xs ys zs : List Entry) → xs ++ ys ≡ xs ++ zs → ys ≡ zs
cancelled [] ys zs e = e
cancelled (x ∷ xs) ys zs e = let rest : xs ++ ys ≡ xs ++ zs = cc in cancelled xs ys zs rest

-- the producer's decision, with nothing of the producer before it
record IsSplit (producer : ℤ) (o : TransactionResult) (es : List OffsetEvent) : Type 0 where
  between : List OffsetEvent
  after : List OffsetEvent
  events : es ≡ between ++ Decide producer o ∷ after
  nothing : Each (IsNotBy producer) between

decision_is : (e : OffsetEvent) (pair : ProducerIdAndEpoch) (o : TransactionResult) → event_entry e ≡ Marker pair o → e ≡ Decide pair.producer o
decision_is (Put x) pair o is = absurd (let clash : Other ≡ Marker pair o = is in cc)
decision_is (Stage p x) pair o is = absurd (let clash : Data (in_group p) ≡ Marker pair o = is in cc)
decision_is (Decide p d) pair o is =
    let same : in_group p ≡ pair = cc in
    let told : d ≡ o = cc in
    ap (λ (q : ProducerIdAndEpoch). Decide q.producer d) same ∙ ap (λ x. Decide pair.producer x) told

not_by : (producer : ℤ) (e : OffsetEvent) → IsNotOf producer (event_entry e) → IsNotBy producer e
not_by producer (Put x) h = tt
not_by producer (Stage p x) h = h
not_by producer (Decide p d) h = h

split : (es : List OffsetEvent) (bs cs : List Entry) (pair : ProducerIdAndEpoch) (o : TransactionResult) → map event_entry es ≡ bs ++ Marker pair o ∷ cs → Each (IsNotOf pair.producer) bs → IsSplit pair.producer o es
split [] [] cs pair o e h = absurd (let clash : [] ≡ Marker pair o ∷ cs = e in cc)
split [] (b ∷ bs) cs pair o e h = absurd (let clash : [] ≡ b ∷ (bs ++ Marker pair o ∷ cs) = e in cc)
split (x ∷ xs) [] cs pair o e h =
    let front : event_entry x ≡ Marker pair o = cc in
    record { between = []; after = xs; events = ap (λ y. y ∷ xs) (decision_is x pair o front); nothing = tt }
split (x ∷ xs) (b ∷ bs) cs pair o e h =
    let front : event_entry x ≡ b = cc in
    let later : map event_entry xs ≡ bs ++ Marker pair o ∷ cs = cc in
    let rest = split xs bs cs pair o later h.1 in
    record {
      between = x ∷ rest.between;
      after = rest.after;
      events = ap (λ l. x ∷ l) rest.events;
      nothing = (not_by pair.producer x (subst (IsNotOf pair.producer) (sym front) h.0), rest.nothing);
    }

-- ---- decisions

pub own_number : (p : ℤ) → int_eq p p ≡ true
own_number p = (Decides-int_eq p p).1 refl

pub other_number : (p q : ℤ) → (p ≡ q → ⊥) → int_eq p q ≡ false
other_number p q differ = by_test (int_eq p q) refl where
  by_test : (b : Bool) → int_eq p q ≡ b → int_eq p q ≡ false
  by_test true e = absurd (differ ((Decides-int_eq p q).0 e))
  by_test false e = e

-- after events without a decision, the first is the first of those after
record IsPassed (p : ℤ) (k : ℕ) (es rest : List OffsetEvent) : Type 0 where
  place : ℕ
  same : first_decision p k (es ++ rest) ≡ first_decision p place rest

passed : (p : ℤ) (k : ℕ) (es rest : List OffsetEvent) → first_decision p k es ≡ None → IsPassed p k es rest
passed p k [] rest none = record { place = k; same = refl }
passed p k (Put o ∷ es) rest none = let h = passed p (k + 1) es rest none in record { place = h.place; same = h.same }
passed p k (Stage q o ∷ es) rest none = let h = passed p (k + 1) es rest none in record { place = h.place; same = h.same }
passed p k (Decide q d ∷ es) rest none = by_test (passed p (k + 1) es rest) (int_eq q p) refl none where
  by_test : (first_decision p (k + 1) es ≡ None → IsPassed p (k + 1) es rest) → (b : Bool) → int_eq q p ≡ b → cond b (Some (record { place = k; outcome = d })) (first_decision p (k + 1) es) ≡ None → IsPassed p k (Decide q d ∷ es) rest
  by_test later true e h = absurd (let clash : Some (record { place = k; outcome = d }) ≡ None = h in cc)
  by_test later false e h =
      let is = later h in
      record { place = is.place; same = ap (λ b. cond b (Some (record { place = k; outcome = d })) (first_decision p (k + 1) (es ++ rest))) e ∙ is.same }

undecided : (p : ℤ) (k : ℕ) (es : List OffsetEvent) → Each (IsNotBy p) es → first_decision p k es ≡ None
undecided p k [] h = refl
undecided p k (Put o ∷ es) h = undecided p (k + 1) es h.1
undecided p k (Stage q o ∷ es) h = undecided p (k + 1) es h.1
undecided p k (Decide q d ∷ es) h = ap (λ b. cond b (Some (record { place = k; outcome = d })) (first_decision p (k + 1) es)) (other_number q p h.0) ∙ undecided p (k + 1) es h.1

first_is : (p : ℤ) (d : TransactionResult) (later between after : List OffsetEvent) → first_decision p 0 later ≡ None → Each (IsNotBy p) between
    → option_map (λ x. x.outcome) (first_decision p 0 (later ++ (between ++ Decide p d ∷ after))) ≡ Some d
first_is p d later between after none nothing =
    let rest = Decide p d ∷ after in
    let first = passed p 0 later (between ++ rest) none in
    let second = passed p first.place between rest (undecided p first.place between nothing) in
    ap (option_map (λ x. x.outcome)) (first.same ∙ second.same)
    ∙ ap (λ b. option_map (λ x. x.outcome) (cond b (Some (record { place = second.place; outcome = d })) (first_decision p (second.place + 1) after))) (own_number p)

-- ---- what waits

still_waits : (p : ℤ) (topic : List ℕ) (index : ℤ) (old between : List OffsetEvent) → Each (IsNotBy p) between → pending_offset (old ++ between) p topic index ≡ pending_offset old p topic index
still_waits p topic index old [] h = ap (λ es. pending_offset es p topic index) (append-nil old)
still_waits p topic index old (e ∷ es) h =
    ap (λ l. pending_offset l p topic index) (sym (append_assoc old (e ∷ []) es))
    ∙ still_waits p topic index (old ++ e ∷ []) es h.1
    ∙ one e h.0 where
      one : (x : OffsetEvent) → IsNotBy p x → pending_offset (old ++ x ∷ []) p topic index ≡ pending_offset old p topic index
      one (Put o) not = pending_goes_on.put old o p topic index
      one (Stage q o) not =
          pending_goes_on.stage old q o p topic index
          ∙ ap (λ b. cond (b && is_of topic index o) (Some o) (pending_offset old p topic index)) (other_number p q (λ same. not (sym same)))
      one (Decide q d) not = pending_goes_on.decide old q d p topic index ∙ ap (λ b. cond b None (pending_offset old p topic index)) (other_number q p not)

shows : (p : ℤ) (o : TransactionResult) (topic : List ℕ) (index : ℤ) (old between : List OffsetEvent) → Each (IsNotBy p) between
    → offset_of ((old ++ between) ++ Decide p o ∷ []) topic index ≡ committed_after o (pending_offset old p topic index) (offset_of (old ++ between) topic index)
shows p Commit topic index old between h =
    committed_goes_on.commit (old ++ between) p topic index ∙ ap (λ x. or_else x (offset_of (old ++ between) topic index)) (still_waits p topic index old between h)
shows p Abort topic index old between h = committed_goes_on.abort (old ++ between) p topic index

settles : (p : ℤ) (d : TransactionResult) (topic : List ℕ) (index : ℤ) (es : List OffsetEvent) → pending_offset (es ++ Decide p d ∷ []) p topic index ≡ None
settles p d topic index es = pending_goes_on.decide es p d p topic index ∙ ap (λ b. cond b None (pending_offset es p topic index)) (own_number p)

-- ---- a group

decided : (old new : List OffsetEvent) (pair : ProducerIdAndEpoch) (o : TransactionResult) → Follows (λ e. Unit {0}) old new → IsEnded pair o (map event_entry old) (map event_entry new) → IsDecided pair.producer o old new
decided old new pair o more ended =
    let p = pair.producer in
    let entries = cancelled (map event_entry old) (map event_entry more.more) (ended.between ++ Marker pair o ∷ ended.after) (sym (map-append event_entry old more.more) ∙ ap (map event_entry) (sym more.events) ∙ ended.log) in
    let is = split more.more ended.between ended.after pair o entries ended.nothing in
    let later = is.between ++ Decide p o ∷ is.after in
    let goes_on : new ≡ old ++ later = more.events ∙ ap (λ l. old ++ l) is.events in
    record {
      between = is.between;
      after = is.after;
      events = goes_on ∙ sym (append_assoc old is.between (Decide p o ∷ is.after));
      nothing = is.nothing;
      staged = λ before after offset parts none. record {
        more = later;
        events = goes_on ∙ ap (λ l. l ++ later) parts ∙ append_assoc before (Stage p offset ∷ after) later;
        first = first_is p o after is.between is.after none is.nothing;
      };
      shown = λ topic index. shows p o topic index old is.between is.nothing;
      settled = λ topic index. settles p o topic index (old ++ is.between);
    }

-- ---- the laws

added_groups : (P : Target → Type 0) (ps : List TopicPartition) (gs : List (List ℕ)) → Each P (map (λ p. Partition p) ps ++ map (λ g. Group g) gs) → Each (λ g. P (Group g)) gs
added_groups P (p ∷ ps) gs h = added_groups P ps gs h.1
added_groups P [] [] h = tt
added_groups P [] (g ∷ gs) h = (h.0, added_groups P [] gs h.1)

pub prepared_decides : (w : World) → IsGood w → DecidesPrepared w
prepared_decides w good e id t o after by enough =
    let v = world_after_events (step w e) after in
    each_weaker (λ g. IsDone t.pair.producer o (entries_in w (Group g)) (entries_in v (Group g))) (λ g. IsDecided t.pair.producer o (group_of w.groups g).offsets (group_of v.groups g).offsets)
    (λ g done. one v (reached_goes w (e ∷ after)) g done) t.groups
    (added_groups (λ target. IsDone t.pair.producer o (entries_in w target) (entries_in v target)) t.partitions t.groups (prepared_done w good e id t o after by enough)) where
      one : (v : World) → GoOn Anything w.groups v.groups → (g : List ℕ) → IsDone t.pair.producer o (entries_in w (Group g)) (entries_in v (Group g)) → IsDecided t.pair.producer o (group_of w.groups g).offsets (group_of v.groups g).offsets
      one v goes g (pair, is, ended) =
          subst (λ producer. IsDecided producer o (group_of w.groups g).offsets (group_of v.groups g).offsets) is (decided (group_of w.groups g).offsets (group_of v.groups g).offsets pair o (goes g) ended)

pub prepared_groups : InReached DecidesPrepared
prepared_groups s es = prepared_decides _ (good s es)

waiting_decides : (w : World) → IsGood w → DecidesWaiting w
waiting_decides w good id t o after found waits enough =
    let v = world_after_events w after in
    each_weaker (λ (x : PendingMarker). x.id ≡ id → IsEnded (kept_id_and_epoch x.target x.pair) o (entries_in w x.target) (entries_in v x.target))
    (λ (x : PendingMarker). x.id ≡ id → (g : List ℕ) → x.target ≡ Group g → IsDecided x.pair.producer o (group_of w.groups g).offsets (group_of v.groups g).offsets)
    (λ x h own g is.
    decided (group_of w.groups g).offsets (group_of v.groups g).offsets (kept_id_and_epoch (Group g) x.pair) o (reached_goes w after g)
    (subst (λ target. IsEnded (kept_id_and_epoch target x.pair) o (entries_in w target) (entries_in v target)) is (h own)))
    w.coordinator.warrants (waiting_completes w good id t o after found waits enough)

pub waiting_groups : InReached DecidesWaiting
waiting_groups s es = waiting_decides _ (good s es)
