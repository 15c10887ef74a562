-- What was staged waits until it is decided, and is fetched if it is committed.
use Rattle.std.proofs.Common.{◌≡◌, inl, inr, ℕ, ℤ, pos, List, [], ◌∷◌, ◌++◌, Option, Bool, true, false, cond, refl, sym, ap, subst, ◌∙◌, append_assoc}
use Rattle.std.specs.Ordering.{int_eq}
use Rattle.std.specs.Str.{bytes_eq}
use Rattle.std.proofs.lemmas.Bool.{true≢false}
use Rattle.acl_binding.specs.declared.question.Caller.{Caller}
use Rattle.wire_types.specs.declared.topic.Topic.{Topic}
use Rattle.wire_types.specs.ErrorCode.{number_of}
use Rattle.record_batch.specs.declared.transaction_result.TransactionResult.{TransactionResult}
use Rattle.record_batch.specs.declared.transaction_result.TransactionResult.TheVariants.{Commit, Abort}
use Rattle.msg_txn.specs.declared.txn_offset_commit.TxnOffsetCommitRequest.{TxnOffsetCommitRequest}
use Rattle.msg_txn.specs.declared.txn_offset_commit.TxnOffsetCommitReply.{TxnOffsetCommitReply}
use Rattle.msg_txn.specs.declared.txn_offset_commit.OffsetToStage.{OffsetToStage}
use Rattle.msg_txn.specs.declared.txn_offset_commit.StagedOffset.{StagedOffset}
use Rattle.msg_admin.specs.declared.request.Request.TheVariants.{TxnOffsetCommit}
use Rattle.audit_trail.specs.declared.event.Event.{Event}
use Rattle.audit_trail.specs.declared.event.Event.TheVariants.{Ask, Mark, Tick}
use Rattle.walk.specs.Walk.{answers}
use Rattle.txn_coordinator.specs.declared.target.Target.{Target}
use Rattle.txn_coordinator.specs.declared.marker.PendingMarker.{PendingMarker}
use Rattle.group_offsets.specs.declared.event.PartitionOffset.{PartitionOffset}
use Rattle.group_offsets.specs.declared.event.OffsetEvent.{OffsetEvent}
use Rattle.group_offsets.specs.declared.event.OffsetEvent.TheVariants.{Put, Stage, Decide}
use Rattle.group_offsets.specs.declared.group.Group.{Group as GroupValue}
use Rattle.group_offsets.specs.Offsets.{fetch_result}
use Rattle.group_offsets.specs.Groups.{group_of}
use Rattle.txn_laws.specs.Sound.{Each}
use Rattle.txn_laws.proofs.Base.{each_weaker, each_append}
use Rattle.broker_world.specs.World.{World, rules_of}
use Rattle.txn_handlers.specs.TxnOffsetCommit.{offset_staged, staging_rule}
use Rattle.txn_handlers.specs.Marks.{groups_with_decision_at, mark_by}
use Rattle.api_dispatch.specs.Step.{step, world_after_events}
use Rattle.broker_laws.specs.Laws.{IsStagingFor, IsDecisionFor, ComesBy}
use Rattle.broker_laws.specs.Members.{group_in}
use Rattle.broker_laws.specs.Commits.{made_parts, made_topics, IsAmong, stage_part}
use Rattle.broker_laws.specs.Fetches.{IsOf, IsNeither, WaitsLast, LeavesStaged, LeaveStaged, StagedIsFetched}
use Rattle.broker_laws.proofs.Offsets.{text_is, noted_offsets}
use Rattle.broker_laws.proofs.Growing.{groups_go_on}
use Rattle.broker_laws.proofs.Turning.{text_same}
use Rattle.broker_laws.proofs.Putting.{stages_by}
use Rattle.broker_laws.proofs.LastPut.{fetches_by_events}

-- ---- what waits

waits_on : (es more : List OffsetEvent) (p : ℤ) (topic : List ℕ) (index : ℤ) (o : PartitionOffset) → WaitsLast es p topic index o → Each (IsNeither p topic index) more → WaitsLast (es ++ more) p topic index o
waits_on es more p topic index o h others = record {
  is = h.is;
  before = h.before;
  after = h.after ++ more;
  events = ap (λ (l : List OffsetEvent). l ++ more) h.events ∙ append_assoc h.before (Stage p o ∷ h.after) more;
  last = each_append (IsNeither p topic index) h.after more h.last others;
}

-- all that a TxnOffsetCommit makes are stages of its producer
abbrev IsStageOf : ℤ → OffsetEvent → Type 0
IsStageOf producer (Put o) = ⊥
IsStageOf producer (Stage p o) = p ≡ producer
IsStageOf producer (Decide p d) = ⊥

each_if : (P : OffsetEvent → Type 0) (e : OffsetEvent) → P e → (b : Bool) → Each P (cond b (e ∷ []) [])
each_if P e h true = (h, tt)
each_if P e h false = tt

parts_staged : (producer : ℤ) (name : List ℕ) (ps : List OffsetToStage) (told : List StagedOffset) → Each (IsStageOf producer) (made_parts (stage_part producer) name ps told)
parts_staged producer name [] told = tt
parts_staged producer name (p ∷ ps) [] = tt
parts_staged producer name (p ∷ ps) (a ∷ rest) =
    each_append (IsStageOf producer) (stage_part producer name p a) (made_parts (stage_part producer) name ps rest)
    (each_if (IsStageOf producer) (Stage producer (offset_staged name p)) refl (int_eq (number_of a.error) (pos 0))) (parts_staged producer name ps rest)

topics_staged : (producer : ℤ) (ts : List (Topic OffsetToStage)) (told : List (Topic StagedOffset)) → Each (IsStageOf producer) (made_topics (stage_part producer) ts told)
topics_staged producer [] told = tt
topics_staged producer (t ∷ ts) [] = tt
topics_staged producer (t ∷ ts) (a ∷ rest) =
    each_append (IsStageOf producer) (made_parts (stage_part producer) t.name t.partitions a.partitions) (made_topics (stage_part producer) ts rest)
    (parts_staged producer t.name t.partitions a.partitions) (topics_staged producer ts rest)

stages_neither : (q p : ℤ) (topic : List ℕ) (index : ℤ) (l : List OffsetEvent) → Each (IsStageOf q) l → ((o : PartitionOffset) → q ≡ p → IsOf topic index o → IsAmong (Stage q o) l → ⊥) → Each (IsNeither p topic index) l
stages_neither q p topic index [] stages none = tt
stages_neither q p topic index (Put o ∷ l) stages none = absurd stages.0
stages_neither q p topic index (Stage x o ∷ l) stages none =
    (λ same is. none o (sym stages.0 ∙ same) is (inl (ap (λ (z : ℤ). Stage z o) stages.0)), stages_neither q p topic index l stages.1 (λ y same is among. none y same is (inr among)))
stages_neither q p topic index (Decide x d ∷ l) stages none = absurd stages.0

-- ---- an event between

abbrev StillWaits : World → Event → List ℕ → ℤ → List ℕ → ℤ → PartitionOffset → Type 0
StillWaits w e g p topic index o = WaitsLast (group_in w g).offsets p topic index o → WaitsLast (group_in (step w e) g).offsets p topic index o

staging_waits : (w : World) (caller : Caller) (client : Option (List ℕ)) (r : TxnOffsetCommitRequest) (g : List ℕ) (p : ℤ) (topic : List ℕ) (index : ℤ) (o : PartitionOffset) → LeavesStaged w (Ask caller client (TxnOffsetCommit r)) g p topic index → StillWaits w (Ask caller client (TxnOffsetCommit r)) g p topic index o
staging_waits w caller client r g p topic index o leaves h = by_name (bytes_eq r.group g) refl where
  by_name : (b : Bool) → bytes_eq r.group g ≡ b → WaitsLast (group_in (step w (Ask caller client (TxnOffsetCommit r))) g).offsets p topic index o
  by_name true e =
      let reply : TxnOffsetCommitReply = record { throttle = pos 0; topics = answers (staging_rule w caller r) (rules_of w) w.groups r.topics } in
      let same = text_is r.group g e in
      let by = stages_by w caller client r reply refl in
      let made = made_topics (stage_part r.producer) r.topics reply.topics in
      subst (λ (n : List ℕ). WaitsLast (group_in (step w (Ask caller client (TxnOffsetCommit r))) n).offsets p topic index o) same
      (subst (λ (l : List OffsetEvent). WaitsLast l p topic index o) (sym by.offsets)
      (waits_on (group_in w r.group).offsets made p topic index o (subst (λ (n : List ℕ). WaitsLast (group_in w n).offsets p topic index o) (sym same) h)
      (stages_neither r.producer p topic index made (topics_staged r.producer r.topics reply.topics)
      (λ x own is among. leaves.no_staging (record { caller = caller; client = client; request = r; reply = reply; event = refl; group = same; by = own; answer = refl; offset = x; is = is; stage = among })))))
  by_name false e =
      let reply : TxnOffsetCommitReply = record { throttle = pos 0; topics = answers (staging_rule w caller r) (rules_of w) w.groups r.topics } in
      let by = stages_by w caller client r reply refl in
      subst (λ (x : GroupValue). WaitsLast x.offsets p topic index o) (sym (by.others g (λ same. true≢false (sym (text_same r.group g same) ∙ e)))) h

abbrev is_staging : Event → Bool
is_staging (Ask caller client (TxnOffsetCommit r)) = true
is_staging (Ask caller client request) = false
is_staging Mark = false
is_staging (Tick told) = false

neither_comes : (w : World) (e : Event) (g : List ℕ) (p : ℤ) (topic : List ℕ) (index : ℤ) → is_staging e ≡ false → LeavesStaged w e g p topic index → (x : OffsetEvent) → ComesBy w e g x → IsNeither p topic index x
neither_comes w e g p topic index plain h (Put o) way = tt
neither_comes w e g p topic index plain h (Stage q o) way = λ same is. let by : IsStagingFor w e g q = way in true≢false (sym (ap is_staging by.event) ∙ plain)
neither_comes w e g p topic index plain h (Decide q d) way = λ same. h.no_decision d (subst (λ (z : ℤ). IsDecisionFor w e g z d) same way)

plain_waits : (w : World) (e : Event) (g : List ℕ) (p : ℤ) (topic : List ℕ) (index : ℤ) (o : PartitionOffset) → is_staging e ≡ false → LeavesStaged w e g p topic index → StillWaits w e g p topic index o
plain_waits w e g p topic index o plain leaves h =
    let goes = groups_go_on w e g in
    subst (λ (l : List OffsetEvent). WaitsLast l p topic index o) (sym goes.events)
    (waits_on (group_in w g).offsets goes.more p topic index o h (each_weaker (ComesBy w e g) (IsNeither p topic index) (neither_comes w e g p topic index plain leaves) goes.more goes.ways))

event_waits : (w : World) (e : Event) (g : List ℕ) (p : ℤ) (topic : List ℕ) (index : ℤ) (o : PartitionOffset) → LeavesStaged w e g p topic index → StillWaits w e g p topic index o
event_waits w (Ask caller client (TxnOffsetCommit r)) g p topic index o leaves h = staging_waits w caller client r g p topic index o leaves h
event_waits w (Ask caller client request) g p topic index o leaves h = plain_waits w (Ask caller client request) g p topic index o refl leaves h
event_waits w Mark g p topic index o leaves h = plain_waits w Mark g p topic index o refl leaves h
event_waits w (Tick told) g p topic index o leaves h = plain_waits w (Tick told) g p topic index o refl leaves h

events_wait : (w : World) (es : List Event) (g : List ℕ) (p : ℤ) (topic : List ℕ) (index : ℤ) (o : PartitionOffset) → LeaveStaged w es g p topic index → WaitsLast (group_in w g).offsets p topic index o → WaitsLast (group_in (world_after_events w es) g).offsets p topic index o
events_wait w [] g p topic index o leave h = h
events_wait w (e ∷ es) g p topic index o leave h = events_wait (step w e) es g p topic index o leave.1 (event_waits w e g p topic index o leave.0 h)

-- what is staged last waits
staged_waits : (old made new : List OffsetEvent) (p : ℤ) (o : PartitionOffset) (before after : List OffsetEvent) → new ≡ old ++ made → made ≡ before ++ Stage p o ∷ after → Each (IsNeither p o.topic o.index) after → WaitsLast new p o.topic o.index o
staged_waits old made new p o before after adds is last = record {
  is = record { of_topic = refl; of_index = refl };
  before = old ++ before;
  after = after;
  events = adds ∙ ap (λ (l : List OffsetEvent). old ++ l) is ∙ sym (append_assoc old before (Stage p o ∷ after));
  last = last;
}

-- ---- a decision

decides : (w : World) (e : Event) (g : List ℕ) (p : ℤ) (outcome : TransactionResult) → IsDecisionFor w e g p outcome → (group_in (step w e) g).offsets ≡ (group_in w g).offsets ++ Decide p outcome ∷ []
decides w e g p outcome d =
    let old = (group_in w g).offsets in
    let m = d.marker in
    ap (λ (x : Event). (group_in (step w x) g).offsets) d.event
    ∙ ap (λ (o : Option PendingMarker). (group_of (mark_by w o).world.groups g).offsets) d.front
    ∙ ap (λ (t : Target). (group_of (groups_with_decision_at w.groups t m) g).offsets) d.target
    ∙ noted_offsets w.groups g (Decide m.pair.producer m.outcome) g
    ∙ ap (λ (b : Bool). cond b (old ++ Decide m.pair.producer m.outcome ∷ []) old) (text_same g g refl)
    ∙ ap (λ (q : ℤ). old ++ Decide q m.outcome ∷ []) d.by
    ∙ ap (λ (x : TransactionResult). old ++ Decide p x ∷ []) d.ends

pub staged_is_fetched : (w : World) → StagedIsFetched w
staged_is_fetched w = record {
  waits = λ caller client r reply o between told last leave.
      let by = stages_by w caller client r reply told in
      events_wait (step w (Ask caller client (TxnOffsetCommit r))) between r.group r.producer o.topic o.index o leave (staged_waits (group_in w r.group).offsets _ _ r.producer o last.before last.after by.offsets last.stage last.last);
  commit = λ e g topic producer index o waits d.
      ap (λ (l : List OffsetEvent). fetch_result l false topic index) (decides w e g producer Commit d) ∙ fetches_by_events.commit (group_in w g).offsets producer topic index o waits;
  abort = λ e g topic producer index d.
      ap (λ (l : List OffsetEvent). fetch_result l false topic index) (decides w e g producer Abort d) ∙ fetches_by_events.abort (group_in w g).offsets producer topic index;
}
