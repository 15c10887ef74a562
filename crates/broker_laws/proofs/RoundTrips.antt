-- What was committed is what is fetched.
use Rattle.std.proofs.Common.{◌≡◌, ◌⊎◌, inl, inr, ℕ, ℤ, pos, List, [], ◌∷◌, ◌++◌, Option, Some, None, Result, Ok, Err, Bool, true, false, cond, refl, sym, ap, subst, ◌∙◌, append-nil, append_assoc}
use Rattle.std.specs.Ordering.{int_eq}
use Rattle.std.specs.Str.{bytes_eq}
use Rattle.std.proofs.lemmas.Bool.{true≢false}
use Rattle.acl_binding.specs.declared.question.Caller.{Caller}
use Rattle.wire_types.specs.declared.error_code.ErrorCode.{ErrorCode}
use Rattle.wire_types.specs.declared.error_code.ErrorCode.TheVariants as errors
use Rattle.wire_types.specs.declared.topic.Topic.{Topic}
use Rattle.wire_types.specs.ErrorCode.{number_of}
use Rattle.msg_group.specs.declared.offset_commit.OffsetCommitRequest.{OffsetCommitRequest}
use Rattle.msg_group.specs.declared.offset_commit.OffsetCommitReply.{OffsetCommitReply}
use Rattle.msg_group.specs.declared.offset_commit.OffsetToCommit.{OffsetToCommit}
use Rattle.msg_group.specs.declared.offset_commit.CommittedOffset.{CommittedOffset}
use Rattle.msg_group.specs.declared.offset_fetch.OffsetFetchRequest.{OffsetFetchRequest}
use Rattle.msg_group.specs.declared.offset_fetch.FetchedOffset.{FetchedOffset}
use Rattle.msg_admin.specs.declared.request.Request.TheVariants.{OffsetCommit}
use Rattle.msg_admin.specs.declared.reply.Reply.TheVariants as replies
use Rattle.audit_trail.specs.declared.event.Event.{Event}
use Rattle.audit_trail.specs.declared.event.Event.TheVariants.{Ask, Mark, Tick}
use Rattle.walk.specs.Walk.{answers}
use Rattle.txn_coordinator.specs.declared.target.Target.{Target}
use Rattle.txn_coordinator.specs.declared.target.Target.TheVariants.{Partition, Group}
use Rattle.txn_coordinator.specs.declared.marker.PendingMarker.{PendingMarker}
use Rattle.txn_coordinator.specs.Warrants.{next_warrant}
use Rattle.group_offsets.specs.declared.event.PartitionOffset.{PartitionOffset}
use Rattle.group_offsets.specs.declared.event.OffsetEvent.{OffsetEvent}
use Rattle.group_offsets.specs.declared.event.OffsetEvent.TheVariants.{Put, Stage, Decide}
use Rattle.group_offsets.specs.declared.group.Group.{Group as GroupValue}
use Rattle.group_offsets.specs.Offsets.{fetch_result}
use Rattle.group_offsets.specs.Groups.{group_of}
use Rattle.txn_laws.specs.Sound.{Each}
use Rattle.txn_laws.proofs.Base.{each_append}
use Rattle.broker_world.specs.World.{World, rules_of}
use Rattle.group_handlers.specs.OffsetCommit.{offset_of, committing_rule}
use Rattle.txn_handlers.specs.Marks.{groups_with_decision_at, mark_by}
use Rattle.api_dispatch.specs.Step.{step, reply_to}
use Rattle.broker_laws.specs.Laws.{IsCommitFor, IsDecisionFor, ComesBy}
use Rattle.broker_laws.specs.Members.{group_in}
use Rattle.broker_laws.specs.Commits.{BothParts, BothTopics, made_parts, made_topics, IsAmong, put_part}
use Rattle.broker_laws.specs.Fetches.{IsOf, IsTold, IsFetchAnswer, LeavesOffset, KeepsOffsets, PutsOther, IsLastOf, Tells, TellsOf, FetchesWhatWasCommitted, OffsetsAreTold, CommitsAreFetched}
use Rattle.broker_laws.proofs.Offsets.{text_is, noted_offsets}
use Rattle.broker_laws.proofs.Growing.{groups_go_on}
use Rattle.broker_laws.proofs.Fetched.{fetches_named}
use Rattle.broker_laws.proofs.ToldTopics.{fetches_unnamed}
use Rattle.broker_laws.proofs.Transacted.{staged_is_fetched}
use Rattle.broker_laws.proofs.Turning.{text_same}
use Rattle.broker_laws.proofs.Putting.{commits_by}
use Rattle.broker_laws.proofs.LastPut.{stable_or, fetches_by_events, decide_else}

-- ---- puts of other partitions

others_put : (es more : List OffsetEvent) (topic : List ℕ) (index : ℤ) → Each (PutsOther topic index) more → fetch_result (es ++ more) false topic index ≡ fetch_result es false topic index
others_put es [] topic index h = ap (λ (l : List OffsetEvent). fetch_result l false topic index) (append-nil es)
others_put es (Put o ∷ more) topic index h =
    ap (λ (l : List OffsetEvent). fetch_result l false topic index) (sym (append_assoc es (Put o ∷ []) more))
    ∙ others_put (es ++ Put o ∷ []) more topic index h.1
    ∙ fetches_by_events.put_other es o topic index h.0
others_put es (Stage p o ∷ more) topic index h = absurd h.0
others_put es (Decide p d ∷ more) topic index h = absurd h.0

-- all that an OffsetCommit makes are puts
abbrev IsPut : OffsetEvent → Type 0
IsPut (Put o) = Unit {0}
IsPut (Stage p o) = ⊥
IsPut (Decide p d) = ⊥

each_if : (P : OffsetEvent → Type 0) (e : OffsetEvent) → P e → (b : Bool) → Each P (cond b (e ∷ []) [])
each_if P e h true = (h, tt)
each_if P e h false = tt

parts_put : (name : List ℕ) (ps : List OffsetToCommit) (told : List CommittedOffset) → Each IsPut (made_parts put_part name ps told)
parts_put name [] told = tt
parts_put name (p ∷ ps) [] = tt
parts_put name (p ∷ ps) (a ∷ rest) =
    each_append IsPut (put_part name p a) (made_parts put_part name ps rest) (each_if IsPut (Put (offset_of name p)) tt (int_eq (number_of a.error) (pos 0))) (parts_put name ps rest)

topics_put : (ts : List (Topic OffsetToCommit)) (told : List (Topic CommittedOffset)) → Each IsPut (made_topics put_part ts told)
topics_put [] told = tt
topics_put (t ∷ ts) [] = tt
topics_put (t ∷ ts) (a ∷ rest) =
    each_append IsPut (made_parts put_part t.name t.partitions a.partitions) (made_topics put_part ts rest) (parts_put t.name t.partitions a.partitions) (topics_put ts rest)

-- where none of them is of the partition
puts_other : (topic : List ℕ) (index : ℤ) (l : List OffsetEvent) → Each IsPut l → ((o : PartitionOffset) → IsOf topic index o → IsAmong (Put o) l → ⊥) → Each (PutsOther topic index) l
puts_other topic index [] puts none = tt
puts_other topic index (Put o ∷ l) puts none = (λ is. none o is (inl refl), puts_other topic index l puts.1 (λ q is among. none q is (inr among)))
puts_other topic index (Stage p o ∷ l) puts none = absurd puts.0
puts_other topic index (Decide p d ∷ l) puts none = absurd puts.0

-- ---- an event between

-- what is fetched of the partition stays
abbrev Stays : World → Event → List ℕ → List ℕ → ℤ → Type 0
Stays w e g topic index = fetch_result (group_in (step w e) g).offsets false topic index ≡ fetch_result (group_in w g).offsets false topic index

commit_stays : (w : World) (caller : Caller) (client : Option (List ℕ)) (r : OffsetCommitRequest) (g topic : List ℕ) (index : ℤ) → LeavesOffset w (Ask caller client (OffsetCommit r)) g topic index → Stays w (Ask caller client (OffsetCommit r)) g topic index
commit_stays w caller client r g topic index h = by_name (bytes_eq r.group g) refl where
  by_name : (b : Bool) → bytes_eq r.group g ≡ b → Stays w (Ask caller client (OffsetCommit r)) g topic index
  by_name true e =
      let reply : OffsetCommitReply = record { topics = answers (committing_rule w caller r) (rules_of w) w.groups r.topics } in
      let same = text_is r.group g e in
      let by = commits_by w caller client r reply refl in
      subst (λ (n : List ℕ). Stays w (Ask caller client (OffsetCommit r)) n topic index) same
      (ap (λ (l : List OffsetEvent). fetch_result l false topic index) by.offsets
      ∙ others_put (group_in w r.group).offsets (made_topics put_part r.topics reply.topics) topic index
      (puts_other topic index (made_topics put_part r.topics reply.topics) (topics_put r.topics reply.topics)
      (λ o is among. h.no_commit (record { caller = caller; client = client; request = r; reply = reply; event = refl; group = same; answer = refl; offset = o; is = is; put = among }))))
  by_name false e =
      let reply : OffsetCommitReply = record { topics = answers (committing_rule w caller r) (rules_of w) w.groups r.topics } in
      let by = commits_by w caller client r reply refl in
      ap (λ (x : GroupValue). fetch_result x.offsets false topic index) (by.others g (λ same. true≢false (sym (text_same r.group g same) ∙ e)))

decision_stays : (w : World) (g topic : List ℕ) (index : ℤ) → LeavesOffset w Mark g topic index → (m : PendingMarker) → next_warrant w.coordinator ≡ Some m → (target : Target) → m.target ≡ target
    → fetch_result (group_of (groups_with_decision_at w.groups target m) g).offsets false topic index ≡ fetch_result (group_of w.groups g).offsets false topic index
decision_stays w g topic index h m front (Partition p) at = refl
decision_stays w g topic index h m front (Group name) at =
    ap (λ (l : List OffsetEvent). fetch_result l false topic index) (noted_offsets w.groups name (Decide m.pair.producer m.outcome) g) ∙ by_name (bytes_eq name g) refl where
      by_name : (b : Bool) → bytes_eq name g ≡ b
          → fetch_result (cond b ((group_of w.groups g).offsets ++ Decide m.pair.producer m.outcome ∷ []) (group_of w.groups g).offsets) false topic index ≡ fetch_result (group_of w.groups g).offsets false topic index
      by_name true e =
          decide_else (group_of w.groups g).offsets m.pair.producer m.outcome topic index
          (h.no_decision m.pair.producer m.outcome (record { event = refl; marker = m; front = front; target = at ∙ ap (λ (n : List ℕ). Group n) (text_is name g e); by = refl; ends = refl }))
      by_name false e = refl

mark_stays : (w : World) (g topic : List ℕ) (index : ℤ) → LeavesOffset w Mark g topic index → (front : Option PendingMarker) → next_warrant w.coordinator ≡ front
    → fetch_result (group_of (mark_by w front).world.groups g).offsets false topic index ≡ fetch_result (group_of w.groups g).offsets false topic index
mark_stays w g topic index h None e = refl
mark_stays w g topic index h (Some m) e = decision_stays w g topic index h m e m.target refl

-- an OffsetCommit or a marker step
abbrev is_special : Event → Bool
is_special (Ask caller client (OffsetCommit r)) = true
is_special (Ask caller client request) = false
is_special Mark = true
is_special (Tick told) = false

stages_stay : (w : World) (e : Event) (g topic : List ℕ) (index : ℤ) → is_special e ≡ false → (es more : List OffsetEvent) → Each (ComesBy w e g) more → fetch_result (es ++ more) false topic index ≡ fetch_result es false topic index
stages_stay w e g topic index plain es [] ways = ap (λ (l : List OffsetEvent). fetch_result l false topic index) (append-nil es)
stages_stay w e g topic index plain es (Put o ∷ more) ways =
    let by : IsCommitFor e g = ways.0 in
    absurd (true≢false (sym (ap is_special by.event) ∙ plain))
stages_stay w e g topic index plain es (Decide p d ∷ more) ways =
    let by : IsDecisionFor w e g p d = ways.0 in
    absurd (true≢false (sym (ap is_special by.event) ∙ plain))
stages_stay w e g topic index plain es (Stage p o ∷ more) ways =
    ap (λ (l : List OffsetEvent). fetch_result l false topic index) (sym (append_assoc es (Stage p o ∷ []) more))
    ∙ stages_stay w e g topic index plain (es ++ Stage p o ∷ []) more ways.1
    ∙ fetches_by_events.stage es p o topic index

plain_stays : (w : World) (e : Event) (g topic : List ℕ) (index : ℤ) → is_special e ≡ false → Stays w e g topic index
plain_stays w e g topic index plain =
    let goes = groups_go_on w e g in
    ap (λ (l : List OffsetEvent). fetch_result l false topic index) goes.events ∙ stages_stay w e g topic index plain (group_in w g).offsets goes.more goes.ways

stays : (w : World) (e : Event) (g topic : List ℕ) (index : ℤ) → LeavesOffset w e g topic index → Stays w e g topic index
stays w (Ask caller client (OffsetCommit r)) g topic index h = commit_stays w caller client r g topic index h
stays w (Ask caller client request) g topic index h = plain_stays w (Ask caller client request) g topic index refl
stays w Mark g topic index h = mark_stays w g topic index h (next_warrant w.coordinator) refl
stays w (Tick told) g topic index h = plain_stays w (Tick told) g topic index refl

keeps_offsets : (w : World) → KeepsOffsets w
keeps_offsets w [] g topic index h = refl
keeps_offsets w (e ∷ es) g topic index h = keeps_offsets (step w e) es g topic index h.1 ∙ stays w e g topic index h.0

-- ---- the round trip

regroup : (old before after : List OffsetEvent) (e : OffsetEvent) → old ++ (before ++ e ∷ after) ≡ ((old ++ before) ++ e ∷ []) ++ after
regroup old before after e = sym (append_assoc old before (e ∷ after)) ∙ sym (append_assoc (old ++ before) (e ∷ []) after)

is_told : (w : World) (caller : Caller) (client : Option (List ℕ)) (c : OffsetCommitRequest) (answer : OffsetCommitReply) (o : PartitionOffset) → reply_to w (Ask caller client (OffsetCommit c)) ≡ replies.OffsetCommit answer → IsLastOf c.topics answer o
    → fetch_result (group_in (step w (Ask caller client (OffsetCommit c))) c.group).offsets false o.topic o.index ≡ Ok (Some o)
is_told w caller client c answer o told h =
    let old = (group_in w c.group).offsets in
    ap (λ (l : List OffsetEvent). fetch_result l false o.topic o.index) ((commits_by w caller client c answer told).offsets ∙ ap (λ (l : List OffsetEvent). old ++ l) h.put ∙ regroup old h.before h.after (Put o))
    ∙ others_put ((old ++ h.before) ++ Put o ∷ []) h.after o.topic o.index h.last
    ∙ fetches_by_events.put (old ++ h.before) o o.topic o.index (record { of_topic = refl; of_index = refl })

both_parts_weaker : {P A : Type 0} (Is Js : List ℕ → P → A → Type 0) → ((name : List ℕ) (p : P) (a : A) → Is name p a → Js name p a) → (name : List ℕ) (ps : List P) (told : List A) → BothParts Is name ps told → BothParts Js name ps told
both_parts_weaker Is Js f name [] [] h = tt
both_parts_weaker Is Js f name [] (a ∷ rest) h = h
both_parts_weaker Is Js f name (p ∷ ps) [] h = h
both_parts_weaker Is Js f name (p ∷ ps) (a ∷ rest) h = (f name p a h.0, both_parts_weaker Is Js f name ps rest h.1)

both_weaker : {P A : Type 0} (Is Js : List ℕ → P → A → Type 0) → ((name : List ℕ) (p : P) (a : A) → Is name p a → Js name p a) → (ts : List (Topic P)) (told : List (Topic A)) → BothTopics Is ts told → BothTopics Js ts told
both_weaker Is Js f [] [] h = tt
both_weaker Is Js f [] (a ∷ rest) h = h
both_weaker Is Js f (t ∷ ts) [] h = h
both_weaker Is Js f (t ∷ ts) (a ∷ rest) h = (h.0, both_parts_weaker Is Js f t.name t.partitions a.partitions h.1, both_weaker Is Js f ts rest h.2)

eighty_eight : number_of errors.UnstableOffsetCommit ≡ pos 88
unfolding number_of
eighty_eight = refl

tells_by : (es : List OffsetEvent) (stable : Bool) (o : PartitionOffset) (a : FetchedOffset) → fetch_result es false o.topic o.index ≡ Ok (Some o) → IsTold (fetch_result es stable o.topic o.index) a → Tells o stable a
tells_by es stable o a is told = by_case (stable_or es stable o.topic o.index) where
  by_case : (fetch_result es stable o.topic o.index ≡ fetch_result es false o.topic o.index) ⊎ ((stable ≡ true) × (fetch_result es stable o.topic o.index ≡ Err errors.UnstableOffsetCommit)) → Tells o stable a
  by_case (inl same) = inl (subst (λ (t : Result (Option PartitionOffset) ErrorCode). IsTold t a) (same ∙ is) told)
  by_case (inr (asked, same)) =
      let error : IsTold (Err errors.UnstableOffsetCommit) a = subst (λ (t : Result (Option PartitionOffset) ErrorCode). IsTold t a) same told in
      inr (asked, ap number_of error.2 ∙ eighty_eight)

tells_of : (v : World) (caller : Caller) (r : OffsetFetchRequest) (g : List ℕ) (o : PartitionOffset) → r.group ≡ g → fetch_result (group_in v g).offsets false o.topic o.index ≡ Ok (Some o)
    → (name : List ℕ) (index : ℤ) (a : FetchedOffset) → IsFetchAnswer v caller r name index a → TellsOf v caller r o name index a
tells_of v caller r g o of_group is name index a h named placed may =
    let same : fetch_result (group_in v r.group).offsets r.require_stable name index ≡ fetch_result (group_in v g).offsets r.require_stable o.topic o.index =
    ap (λ (n : List ℕ). fetch_result (group_in v n).offsets r.require_stable name index) of_group
    ∙ ap (λ (n : List ℕ). fetch_result (group_in v g).offsets r.require_stable n index) named
    ∙ ap (λ (i : ℤ). fetch_result (group_in v g).offsets r.require_stable o.topic i) placed
    in
    tells_by (group_in v g).offsets r.require_stable o a is (subst (λ (t : Result (Option PartitionOffset) ErrorCode). IsTold t a) same (h.told may))

fetches_what_was_committed : (w : World) → FetchesWhatWasCommitted w
fetches_what_was_committed w committer client c answer o between told last leaves v at caller agent r ts reply of_group names replied zero =
    let kept = keeps_offsets (step w (Ask committer client (OffsetCommit c))) between c.group o.topic o.index leaves in
    let is = ap (λ (x : World). fetch_result (group_in x c.group).offsets false o.topic o.index) at ∙ kept ∙ is_told w committer client c answer o told last in
    both_weaker (IsFetchAnswer v caller r) (TellsOf v caller r o) (tells_of v caller r c.group o of_group is) ts reply.topics ((fetches_named v caller agent r ts reply replied names).answers zero)

pub offsets_are_told : OffsetsAreTold reply_to
offsets_are_told w = record { named = fetches_named w; unnamed = fetches_unnamed w }

pub commits_are_fetched : (w : World) → CommitsAreFetched w
commits_are_fetched w = record { kept = keeps_offsets w; round_trip = fetches_what_was_committed w; staged = staged_is_fetched w }
