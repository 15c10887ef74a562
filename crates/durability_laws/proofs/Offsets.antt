-- A committed offset stays until it is committed again.
use Rattle.std.proofs.Common.{◌≡◌, ◌⊎◌, inl, inr, ℕ, ℤ, pos, Bool, true, false, cond, List, [], ◌∷◌, ◌++◌, append-nil, append_assoc, Option, Some, None, Result, Ok, Err, refl, sym, ap, ◌∙◌}
use Rattle.std.specs.Ordering.{int_eq}
use Rattle.std.specs.Prelude.{unwrap_or}
use Rattle.acl_binding.specs.declared.question.Caller.{Caller}
use Rattle.acl_binding.specs.declared.question.Verdict.{Verdict}
use Rattle.acl_binding.specs.declared.words.Kind.TheVariants as kinds
use Rattle.acl_binding.specs.declared.words.Operation.TheVariants as operations
use Rattle.acl_binding.specs.Verdict.{question_of}
use Rattle.authorizer.specs.declared.answer.Refusal.{Refusal}
use Rattle.authorizer.specs.Asking.{part_refusal, refusal_by, first_of}
use Rattle.wire_types.specs.declared.error_code.ErrorCode.{ErrorCode}
use Rattle.wire_types.specs.declared.error_code.ErrorCode.TheVariants as codes
use Rattle.wire_types.specs.declared.topic.Topic.{Topic}
use Rattle.wire_types.specs.ErrorCode.{number_of}
use Rattle.msg_group.specs.declared.offset_commit.OffsetCommitRequest.{OffsetCommitRequest}
use Rattle.msg_group.specs.declared.offset_commit.OffsetCommitReply.{OffsetCommitReply}
use Rattle.msg_group.specs.declared.offset_commit.OffsetToCommit.{OffsetToCommit}
use Rattle.msg_group.specs.declared.offset_commit.CommittedOffset.{CommittedOffset}
use Rattle.msg_group.specs.declared.offset_fetch.OffsetFetchRequest.{OffsetFetchRequest}
use Rattle.msg_group.specs.declared.offset_fetch.OffsetFetchReply.{OffsetFetchReply}
use Rattle.msg_group.specs.declared.offset_fetch.FetchedOffset.{FetchedOffset}
use Rattle.msg_admin.specs.declared.request.Request.TheVariants.{OffsetCommit}
use Rattle.msg_admin.specs.declared.reply.Reply.TheVariants as replies
use Rattle.audit_trail.specs.declared.event.Event.{Event}
use Rattle.audit_trail.specs.declared.event.Event.TheVariants.{Ask}
use Rattle.group_offsets.specs.declared.event.PartitionOffset.{PartitionOffset}
use Rattle.group_offsets.specs.declared.event.OffsetEvent.{OffsetEvent}
use Rattle.group_offsets.specs.declared.event.OffsetEvent.TheVariants.{Put, Stage, Decide}
use Rattle.group_offsets.specs.Offsets.{fetch_result}
use Rattle.walk.specs.Alike.{AllParts, AllTopics}
use Rattle.walk.specs.Rule.{PartRule, refusal_of}
use Rattle.walk.specs.Walk.{answers}
use Rattle.walk.specs.Steps.{answer_by}
use Rattle.walk.proofs.Headlines.{answers_each_part}
use Rattle.txn_laws.specs.Sound.{Each}
use Rattle.broker_world.specs.World.{World, rules_of}
use Rattle.group_handlers.specs.OffsetFetch.{group_question, fetched_code, fetched_at, fetched_offset, offset_rule, offsets_of, fetched_outcome, offset_fetch_by}
use Rattle.api_dispatch.specs.Step.{outcome, step, reply_to}
use Rattle.read_laws.specs.Fetches.{at_place, partition_in}
use Rattle.read_laws.proofs.Fetches.{zero_is}
use Rattle.broker_laws.specs.Members.{group_in}
use Rattle.broker_laws.specs.Commits.{made_parts, made_topics, put_part, IsAmong}
use Rattle.broker_laws.specs.Fetches.{IsOf, Waits, IsLastOf, PutsOther, LeavesOffset, LeaveOffset}
use Rattle.broker_laws.proofs.Putting.{commits_by}
use Rattle.broker_laws.proofs.LastPut.{fetches_by_events}
use Rattle.broker_laws.proofs.RoundTrips.{commits_are_fetched}
use Rattle.durability_laws.specs.Offsets.{LeavesCommitted, LeaveCommitted, AsksForOffset, TellsUnstableOffsets, KeepsCommittedOffsets}
use Rattle.durability_laws.proofs.Acknowledged.{later_is}

-- ---- the commit

others_put : (es more : List OffsetEvent) (topic : List ℕ) (index : ℤ) → Each (PutsOther topic index) more → fetch_result (es ++ more) false topic index ≡ fetch_result es false topic index
others_put es [] topic index h = ap (λ (l : List OffsetEvent). fetch_result l false topic index) (append-nil es)
others_put es (Put o ∷ more) topic index h =
    ap (λ (l : List OffsetEvent). fetch_result l false topic index) (sym (append_assoc es (Put o ∷ []) more))
    ∙ others_put (es ++ Put o ∷ []) more topic index h.1
    ∙ fetches_by_events.put_other es o topic index h.0
others_put es (Stage p o ∷ more) topic index h = absurd h.0
others_put es (Decide p d ∷ more) topic index h = absurd h.0

regroup : (old before after : List OffsetEvent) (e : OffsetEvent) → old ++ (before ++ e ∷ after) ≡ ((old ++ before) ++ e ∷ []) ++ after
regroup old before after e = sym (append_assoc old before (e ∷ after)) ∙ sym (append_assoc (old ++ before) (e ∷ []) after)

is_told : (w : World) (caller : Caller) (client : Option (List ℕ)) (c : OffsetCommitRequest) (answer : OffsetCommitReply) (o : PartitionOffset) → reply_to w (Ask caller client (OffsetCommit c)) ≡ replies.OffsetCommit answer → IsLastOf c.topics answer o
    → fetch_result (group_in (step w (Ask caller client (OffsetCommit c))) c.group).offsets false o.topic o.index ≡ Ok (Some o)
is_told w caller client c answer o told h =
    let old = (group_in w c.group).offsets in
    ap (λ (l : List OffsetEvent). fetch_result l false o.topic o.index) ((commits_by w caller client c answer told).offsets ∙ ap (λ (l : List OffsetEvent). old ++ l) h.put ∙ regroup old h.before h.after (Put o))
    ∙ others_put ((old ++ h.before) ++ Put o ∷ []) h.after o.topic o.index h.last
    ∙ fetches_by_events.put (old ++ h.before) o o.topic o.index (record { of_topic = refl; of_index = refl })

-- ---- events between

among_either : {X : Type 0} (x : X) (xs ys : List X) → IsAmong x (xs ++ ys) → IsAmong x xs ⊎ IsAmong x ys
among_either x [] ys h = inr h
among_either x (y ∷ xs) ys (inl is) = inl (inl is)
among_either x (y ∷ xs) ys (inr h) = by_place (among_either x xs ys h) where
  by_place : IsAmong x xs ⊎ IsAmong x ys → IsAmong x (y ∷ xs) ⊎ IsAmong x ys
  by_place (inl a) = inl (inr a)
  by_place (inr a) = inr a

same_put : (x y : PartitionOffset) → Put x ≡ Put y → x ≡ y
same_put x y h = cc

module _ (topic : List ℕ) (index : ℤ) (o : PartitionOffset) (is : IsOf topic index o) where
  abbrev IsOther : List ℕ → OffsetToCommit → Type 0
  IsOther n p = n ≡ topic → p.index ≡ index → ⊥

  one_apart : (name : List ℕ) (p : OffsetToCommit) (a : CommittedOffset) → IsOther name p → IsAmong (Put o) (put_part name p a) → ⊥
  one_apart name p a other h = by_test (int_eq (number_of a.error) (pos 0)) h where
    made : PartitionOffset
    made = record { topic = name; index = p.index; offset = p.offset; metadata = unwrap_or p.metadata [] }

    by_test : (t : Bool) → IsAmong (Put o) (cond t (Put (record { topic = name; index = p.index; offset = p.offset; metadata = unwrap_or p.metadata [] }) ∷ []) []) → ⊥
    by_test true (inl same) =
        let one = same_put (record { topic = name; index = p.index; offset = p.offset; metadata = unwrap_or p.metadata [] }) o same in
        other (ap (λ (x : PartitionOffset). x.topic) one ∙ is.of_topic) (ap (λ (x : PartitionOffset). x.index) one ∙ is.of_index)
    by_test true (inr none) = none
    by_test false none = none

  parts_apart : (name : List ℕ) (ps : List OffsetToCommit) (told : List CommittedOffset) → AllParts IsOther name ps → IsAmong (Put o) (made_parts put_part name ps told) → ⊥
  parts_apart name [] told all h = h
  parts_apart name (p ∷ ps) [] all h = h
  parts_apart name (p ∷ ps) (a ∷ rest) all h = by_place (among_either (Put o) (put_part name p a) (made_parts put_part name ps rest) h) (parts_apart name ps rest all.1) where
    by_place : IsAmong (Put o) (put_part name p a) ⊎ IsAmong (Put o) (made_parts put_part name ps rest) → (IsAmong (Put o) (made_parts put_part name ps rest) → ⊥) → ⊥
    by_place (inl here) more = one_apart name p a all.0 here
    by_place (inr there) more = more there

  topics_apart : (ts : List (Topic OffsetToCommit)) (told : List (Topic CommittedOffset)) → AllTopics IsOther ts → IsAmong (Put o) (made_topics put_part ts told) → ⊥
  topics_apart [] told all h = h
  topics_apart (t ∷ ts) [] all h = h
  topics_apart (t ∷ ts) (a ∷ rest) all h = by_place (among_either (Put o) (made_parts put_part t.name t.partitions a.partitions) (made_topics put_part ts rest) h) (topics_apart ts rest all.1) where
    by_place : IsAmong (Put o) (made_parts put_part t.name t.partitions a.partitions) ⊎ IsAmong (Put o) (made_topics put_part ts rest) → (IsAmong (Put o) (made_topics put_part ts rest) → ⊥) → ⊥
    by_place (inl here) more = parts_apart t.name t.partitions a.partitions all.0 here
    by_place (inr there) more = more there

leaves : (w : World) (e : Event) (g topic : List ℕ) (index : ℤ) → LeavesCommitted w e g topic index → LeavesOffset w e g topic index
leaves w e g topic index h = record {
  no_commit = λ c. topics_apart topic index c.offset c.is c.request.topics c.reply.topics (h.no_commit c.caller c.client c.request c.event c.group) c.put;
  no_decision = h.no_decision;
}

leave : (w : World) (es : List Event) (g topic : List ℕ) (index : ℤ) → LeaveCommitted outcome w es g topic index → LeaveOffset w es g topic index
leave w [] g topic index h = tt
leave w (e ∷ es) g topic index h = (leaves w e g topic index h.0, leave (step w e) es g topic index h.1)

-- ---- the answer

settled_same : (es : List OffsetEvent) (stable : Bool) (topic : List ℕ) (index : ℤ) → (stable ≡ true → (producer : ℤ) → Waits es producer topic index → ⊥) → fetch_result es stable topic index ≡ fetch_result es false topic index
settled_same es false topic index none = refl
settled_same es true topic index none = fetches_by_events.stable es topic index (none refl)

module _ (v : World) (caller : Caller) (r : OffsetFetchRequest) (i j : ℕ) (g topic : List ℕ) (index : ℤ) (asks : AsksForOffset v caller r i j g topic index) where
  abbrev api : PartRule ℤ FetchedOffset (Unit {0})
  api = offset_rule caller (offsets_of v r.group) r.require_stable

  abbrev told : List (Topic FetchedOffset)
  told = answers api (rules_of v) tt asks.topics

  abbrev reply : OffsetFetchReply
  reply = record { throttle = pos 0; topics = told; error = codes.None }

  group_granted : part_refusal (rules_of v) (group_question caller r.group ∷ []) ≡ None
  group_granted =
      ap (λ (n : List ℕ). part_refusal (rules_of v) (group_question caller n ∷ [])) asks.same_group
      ∙ ap (λ (x : Verdict). first_of (refusal_by x (question_of caller operations.Describe kinds.Group g)) None) asks.may_describe_group

  topic_granted : refusal_of api (rules_of v) asks.named.name index ≡ None
  topic_granted =
      ap (λ (n : List ℕ). part_refusal (rules_of v) (question_of caller operations.Describe kinds.Topic n ∷ [])) asks.same_topic
      ∙ ap (λ (x : Verdict). first_of (refusal_by x (question_of caller operations.Describe kinds.Topic topic)) None) asks.may_describe_topic

  replied : (offset_fetch_by (part_refusal (rules_of v) (group_question caller r.group ∷ [])) v caller r).reply ≡ replies.OffsetFetch reply
  replied =
      ap (λ (x : Option Refusal). (offset_fetch_by x v caller r).reply) group_granted
      ∙ ap (λ (ts : Option (List (Topic ℤ))). (fetched_outcome v caller (offsets_of v r.group) r.require_stable ts).reply) asks.listed

  placed : (x : Result (Option PartitionOffset) ErrorCode) → fetch_result (group_in v g).offsets r.require_stable topic index ≡ x → at_place told i j ≡ Some (fetched_offset x index)
  placed x is =
      let p = answers_each_part.places api (rules_of v) tt asks.topics i asks.named asks.at in
      let result : fetch_result (offsets_of v r.group) r.require_stable asks.named.name index ≡ x =
      ap (λ (n : List ℕ). fetch_result (group_in v n).offsets r.require_stable asks.named.name index) asks.same_group
      ∙ ap (λ (n : List ℕ). fetch_result (group_in v g).offsets r.require_stable n index) asks.same_topic
      ∙ is
      in
      ap (partition_in j) p.1.0
      ∙ p.1.1.places j index asks.asked
      ∙ ap (λ (o : Option Refusal). Some (answer_by api o tt asks.named.name index)) topic_granted
      ∙ ap (λ (y : Result (Option PartitionOffset) ErrorCode). Some (fetched_offset y index)) result

pub keeps_committed_offsets : KeepsCommittedOffsets outcome
keeps_committed_offsets w committer client c answer o later replies_so last left v leads caller agent r i j asks settled =
    let now = step w (Ask committer client (OffsetCommit c)) in
    let kept = (commits_are_fetched now).kept later c.group o.topic o.index (leave now later c.group o.topic o.index left) in
    let same = ap (λ (x : World). fetch_result (group_in x c.group).offsets false o.topic o.index) (leads ∙ later_is now later) in
    let is = settled_same (group_in v c.group).offsets r.require_stable o.topic o.index settled ∙ same ∙ kept ∙ is_told w committer client c answer o replies_so last in
    record {
      told = reply v caller r i j c.group o.topic o.index asks;
      is = replied v caller r i j c.group o.topic o.index asks;
      no_error = zero_is;
      answer = fetched_at o o.index;
      there = placed v caller r i j c.group o.topic o.index asks (Ok (Some o)) is;
      error = zero_is;
      offset = refl;
      metadata = refl;
    }

pub tells_unstable_offsets : TellsUnstableOffsets outcome
tells_unstable_offsets v caller agent r i j g topic index producer asks stable waits =
    let unstable = fetches_by_events.unstable (group_in v g).offsets producer topic index waits in
    let is = ap (λ (b : Bool). fetch_result (group_in v g).offsets b topic index) stable ∙ unstable.1 in
    record {
      told = reply v caller r i j g topic index asks;
      is = replied v caller r i j g topic index asks;
      no_error = zero_is;
      answer = fetched_code unstable.0 index;
      there = placed v caller r i j g topic index asks (Err unstable.0) is;
      error = unstable.2;
    }
