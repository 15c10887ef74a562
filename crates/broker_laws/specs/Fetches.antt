-- What a fetch tells of the offsets that were committed for a group: over the group's offset
-- events, and over whole events (Kafka protocol guide, "OffsetFetch API (Key: 9)"; KIP-98,
-- 'TxnOffsetCommitRequest'; KIP-447, 'RequireStable').
use Rattle.std.specs.Prelude.{◌≡◌, ◌≢◌, ◌⊎◌, ℕ, ◌+◌, ◌<◌, ◌≤◌, ℤ, pos, negsuc, Bool, true, false, List, [], ◌∷◌, ◌++◌, length, map, Option, Some, None, Result, Ok, Err}
use Rattle.acl_binding.specs.declared.question.Caller.{Caller}
use Rattle.wire_types.specs.declared.error_code.ErrorCode.{ErrorCode}
use Rattle.wire_types.specs.declared.topic.Topic.{Topic}
use Rattle.wire_types.specs.ErrorCode.{number_of}
use Rattle.record_batch.specs.declared.transaction_result.TransactionResult.{TransactionResult}
use Rattle.record_batch.specs.declared.transaction_result.TransactionResult.TheVariants.{Commit, Abort}
use Rattle.msg_group.specs.declared.offset_commit.OffsetCommitRequest.{OffsetCommitRequest}
use Rattle.msg_group.specs.declared.offset_commit.OffsetCommitReply.{OffsetCommitReply}
use Rattle.msg_group.specs.declared.offset_commit.OffsetToCommit.{OffsetToCommit}
use Rattle.msg_group.specs.declared.offset_fetch.OffsetFetchRequest.{OffsetFetchRequest}
use Rattle.msg_group.specs.declared.offset_fetch.OffsetFetchReply.{OffsetFetchReply}
use Rattle.msg_group.specs.declared.offset_fetch.FetchedOffset.{FetchedOffset}
use Rattle.msg_txn.specs.declared.txn_offset_commit.TxnOffsetCommitRequest.{TxnOffsetCommitRequest}
use Rattle.msg_txn.specs.declared.txn_offset_commit.TxnOffsetCommitReply.{TxnOffsetCommitReply}
use Rattle.msg_txn.specs.declared.txn_offset_commit.OffsetToStage.{OffsetToStage}
use Rattle.msg_admin.specs.declared.request.Request.TheVariants.{OffsetCommit, OffsetFetch, TxnOffsetCommit}
use Rattle.msg_admin.specs.declared.reply.Reply.TheVariants as replies
use Rattle.audit_trail.specs.declared.event.Event.{Event}
use Rattle.audit_trail.specs.declared.event.Event.TheVariants.{Ask}
use Rattle.group_offsets.specs.declared.event.PartitionOffset.{PartitionOffset}
use Rattle.group_offsets.specs.declared.event.OffsetEvent.{OffsetEvent}
use Rattle.group_offsets.specs.declared.event.OffsetEvent.TheVariants.{Put, Stage, Decide}
use Rattle.group_offsets.specs.Offsets.{fetch_result}
use Rattle.txn_laws.specs.Sound.{Each}
use Rattle.broker_world.specs.World.{World, TopicValue, topic_names}
use Rattle.api_dispatch.specs.Step.{step, reply_to, world_after_events}
use Rattle.broker_laws.specs.Rules.{ReplyRule}
use Rattle.broker_laws.specs.Laws.{IsDecisionFor}
use Rattle.broker_laws.specs.Members.{group_in}
use Rattle.broker_laws.specs.MemberCodes.{IsGranted}
use Rattle.broker_laws.specs.Commits.{BothTopics, made_topics, IsAmong, MayAsk, put_part, stage_part}

-- ---- over a group's offset events

-- the offset is one of this partition
pub record IsOf (topic : List ℕ) (index : ℤ) (o : PartitionOffset) : Type 0 where
  pub of_topic : o.topic ≡ topic
  pub of_index : o.index ≡ index

-- the event is no decision of the producer
abbrev pub DecidesNot : ℤ → OffsetEvent → Type 0
DecidesNot producer (Put o) = Unit {0}
DecidesNot producer (Stage p o) = Unit {0}
DecidesNot producer (Decide p outcome) = p ≡ producer → ⊥

-- and it isn't an offset of the partition that the producer staged
abbrev pub IsNeither : ℤ → List ℕ → ℤ → OffsetEvent → Type 0
IsNeither producer topic index (Put o) = Unit {0}
IsNeither producer topic index (Stage p o) = p ≡ producer → IsOf topic index o → ⊥
IsNeither producer topic index (Decide p outcome) = p ≡ producer → ⊥

-- an offset of the partition that the producer staged waits for the producer's decision
pub record Waits (es : List OffsetEvent) (producer : ℤ) (topic : List ℕ) (index : ℤ) : Type 0 where
  pub offset : PartitionOffset
  pub is : IsOf topic index offset
  pub before : List OffsetEvent
  pub after : List OffsetEvent
  pub events : es ≡ before ++ Stage producer offset ∷ after
  pub undecided : Each (DecidesNot producer) after

-- and this is the one that it staged last
pub record WaitsLast (es : List OffsetEvent) (producer : ℤ) (topic : List ℕ) (index : ℤ)
    (o : PartitionOffset) : Type 0 where
  pub is : IsOf topic index o
  pub before : List OffsetEvent
  pub after : List OffsetEvent
  pub events : es ≡ before ++ Stage producer o ∷ after
  pub last : Each (IsNeither producer topic index) after

-- 88 is UNSTABLE_OFFSET_COMMIT
abbrev pub IsUnstable : Result (Option PartitionOffset) ErrorCode → Type 0
IsUnstable told = (code : ErrorCode) × (told ≡ Err code) × (number_of code ≡ pos 88)

-- what is told of a partition, by a group's offset events, and whether a stable offset is wanted
abbrev pub FetchRule : Type 0
FetchRule = List OffsetEvent → Bool → List ℕ → ℤ → Result (Option PartitionOffset) ErrorCode

-- what each further event of a group makes of the offset that is fetched
pub record FetchesByEvents (fetch_result : FetchRule) : Type 0 where
  pub none : (topic : List ℕ) (index : ℤ) → fetch_result [] false topic index ≡ Ok None
  -- a commit is told of
  pub put : (es : List OffsetEvent) (o : PartitionOffset) (topic : List ℕ) (index : ℤ)
      → IsOf topic index o → fetch_result (es ++ Put o ∷ []) false topic index ≡ Ok (Some o)
  pub put_other : (es : List OffsetEvent) (o : PartitionOffset) (topic : List ℕ) (index : ℤ)
      → (IsOf topic index o → ⊥)
      → fetch_result (es ++ Put o ∷ []) false topic index ≡ fetch_result es false topic index
  -- what a producer stages isn't, nor what it aborts
  pub stage : (es : List OffsetEvent) (p : ℤ) (o : PartitionOffset) (topic : List ℕ) (index : ℤ)
      → fetch_result (es ++ Stage p o ∷ []) false topic index ≡ fetch_result es false topic index
  pub abort : (es : List OffsetEvent) (p : ℤ) (topic : List ℕ) (index : ℤ)
      → fetch_result (es ++ Decide p Abort ∷ []) false topic index
      ≡ fetch_result es false topic index
  -- what it commits is: of each partition the offset that it staged last
  pub commit : (es : List OffsetEvent) (p : ℤ) (topic : List ℕ) (index : ℤ) (o : PartitionOffset)
      → WaitsLast es p topic index o
      → fetch_result (es ++ Decide p Commit ∷ []) false topic index ≡ Ok (Some o)
  pub commit_other : (es : List OffsetEvent) (p : ℤ) (topic : List ℕ) (index : ℤ)
      → (Waits es p topic index → ⊥)
      → fetch_result (es ++ Decide p Commit ∷ []) false topic index
      ≡ fetch_result es false topic index
  -- who wants a stable offset is told none as long as another waits, and the same else
  pub unstable : (es : List OffsetEvent) (p : ℤ) (topic : List ℕ) (index : ℤ)
      → Waits es p topic index → IsUnstable (fetch_result es true topic index)
  pub stable : (es : List OffsetEvent) (topic : List ℕ) (index : ℤ)
      → ((p : ℤ) → Waits es p topic index → ⊥)
      → fetch_result es true topic index ≡ fetch_result es false topic index

-- ---- an OffsetFetch

-- the offset and its metadata; -1 and no error where there is none; or the error
abbrev pub IsTold : Result (Option PartitionOffset) ErrorCode → FetchedOffset → Type 0
IsTold (Ok (Some o)) a =
    (a.offset ≡ o.offset) × (a.metadata ≡ Some o.metadata) × (number_of a.error ≡ pos 0)
IsTold (Ok None) a = (a.offset ≡ negsuc 0) × (a.metadata ≡ Some []) × (number_of a.error ≡ pos 0)
IsTold (Err code) a = (a.offset ≡ negsuc 0) × (a.metadata ≡ Some []) × (a.error ≡ code)

pub record IsFetchAnswer (w : World) (caller : Caller) (r : OffsetFetchRequest) (name : List ℕ)
    (index : ℤ) (a : FetchedOffset) : Type 0 where
  pub place : a.index ≡ index
  pub epoch : a.leader_epoch ≡ negsuc 0
  -- 29 is TOPIC_AUTHORIZATION_FAILED
  pub refused : (MayAsk w caller (OffsetFetch r) name → ⊥)
      → (a.offset ≡ negsuc 0) × (number_of a.error ≡ pos 29)
  pub told : MayAsk w caller (OffsetFetch r) name
      → IsTold (fetch_result (group_in w r.group).offsets r.require_stable name index) a

-- of a request that names topics
pub record FetchesBy (w : World) (caller : Caller) (r : OffsetFetchRequest) (ts : List (Topic ℤ))
    (reply : OffsetFetchReply) : Type 0 where
  -- no error where the group may be described, and else 30, GROUP_AUTHORIZATION_FAILED
  pub granted : IsGranted w caller (OffsetFetch r) → number_of reply.error ≡ pos 0
  pub refused : (IsGranted w caller (OffsetFetch r) → ⊥)
      → (number_of reply.error ≡ pos 30) × (reply.topics ≡ [])
  -- then each partition that is named is answered
  pub answers : number_of reply.error ≡ pos 0
      → BothTopics (IsFetchAnswer w caller r) ts reply.topics

abbrev pub FetchesNamed : ReplyRule → World → Type 0
FetchesNamed reply_to w =
    (caller : Caller) (client : Option (List ℕ)) (r : OffsetFetchRequest) (ts : List (Topic ℤ))
    (reply : OffsetFetchReply)
    → reply_to w (Ask caller client (OffsetFetch r)) ≡ replies.OffsetFetch reply
    → r.topics ≡ Some ts → FetchesBy w caller r ts reply

-- ---- all of a group's offsets

-- the topic may be described and has this partition, and something is told of it: an offset, or an
-- error
pub record HasTold (w : World) (caller : Caller) (r : OffsetFetchRequest) (t : TopicValue) (i : ℕ)
    : Type 0 where
  pub topic : IsAmong t w.topics
  pub may : MayAsk w caller (OffsetFetch r) t.name
  pub partition : i < length t.partitions
  pub some : fetch_result (group_in w r.group).offsets r.require_stable t.name (pos i) ≢ Ok None

-- and this is told, in the reply
pub record IsToldIn (w : World) (r : OffsetFetchRequest) (t : TopicValue) (i : ℕ)
    (topics : List (Topic FetchedOffset)) (a : Topic FetchedOffset) (p : FetchedOffset)
    : Type 0 where
  pub topic : IsAmong a topics
  pub partition : IsAmong p a.partitions
  pub named : a.name ≡ t.name
  pub place : p.index ≡ pos i
  pub told : IsTold (fetch_result (group_in w r.group).offsets r.require_stable t.name (pos i)) p

-- the one list is the other with some left out
abbrev pub IsSubsequence : List (List ℕ) → List (List ℕ) → Type 0
IsSubsequence [] ys = Unit {0}
IsSubsequence (x ∷ xs) [] = ⊥
IsSubsequence (x ∷ xs) (y ∷ ys) = ((x ≡ y) × IsSubsequence xs ys) ⊎ IsSubsequence (x ∷ xs) ys

-- partitions whose indices rise, from this one on
abbrev pub AreRising : ℕ → List FetchedOffset → Type 0
AreRising n [] = Unit {0}
AreRising n (p ∷ ps) = (i : ℕ) × (n ≤ i) × (p.index ≡ pos i) × AreRising (i + 1) ps

-- A null list of topics wants each such partition, and no other, in the order of the settings.
pub record FetchesAll (w : World) (caller : Caller) (r : OffsetFetchRequest)
    (reply : OffsetFetchReply) : Type 0 where
  pub all : (t : TopicValue) (i : ℕ) → HasTold w caller r t i
      → (a : Topic FetchedOffset) × (p : FetchedOffset) × IsToldIn w r t i reply.topics a p
  pub alone : (a : Topic FetchedOffset) (p : FetchedOffset) → IsAmong a reply.topics
      → IsAmong p a.partitions
      → (t : TopicValue) × (i : ℕ) × HasTold w caller r t i × IsToldIn w r t i reply.topics a p
  pub in_order : IsSubsequence (map (λ (a : Topic FetchedOffset). a.name) reply.topics)
      (topic_names w.topics)
  pub rising : (a : Topic FetchedOffset) → IsAmong a reply.topics → AreRising 0 a.partitions

pub record FetchesAllBy (w : World) (caller : Caller) (r : OffsetFetchRequest)
    (reply : OffsetFetchReply) : Type 0 where
  pub granted : IsGranted w caller (OffsetFetch r)
      → (number_of reply.error ≡ pos 0) × FetchesAll w caller r reply
  pub refused : (IsGranted w caller (OffsetFetch r) → ⊥)
      → (number_of reply.error ≡ pos 30) × (reply.topics ≡ [])

abbrev pub FetchesUnnamed : ReplyRule → World → Type 0
FetchesUnnamed reply_to w =
    (caller : Caller) (client : Option (List ℕ)) (r : OffsetFetchRequest) (reply : OffsetFetchReply)
    → reply_to w (Ask caller client (OffsetFetch r)) ≡ replies.OffsetFetch reply
    → r.topics ≡ None → FetchesAllBy w caller r reply

pub record FetchesTell (reply_to : ReplyRule) (w : World) : Type 0 where
  pub named : FetchesNamed reply_to w
  pub unnamed : FetchesUnnamed reply_to w

-- whatever the world is, an OffsetFetch tells of each partition that it names what the group's
-- offset events say, and without a list of all that they say something of
abbrev pub OffsetsAreTold : ReplyRule → Type 0
OffsetsAreTold reply_to = (w : World) → FetchesTell reply_to w

-- ---- events between

-- an OffsetCommit for the group that is told no error for an offset of the partition
pub record CommitsFor (w : World) (e : Event) (g topic : List ℕ) (index : ℤ) : Type 0 where
  pub caller : Caller
  pub client : Option (List ℕ)
  pub request : OffsetCommitRequest
  pub reply : OffsetCommitReply
  pub event : e ≡ Ask caller client (OffsetCommit request)
  pub group : request.group ≡ g
  pub answer : reply_to w e ≡ replies.OffsetCommit reply
  pub offset : PartitionOffset
  pub is : IsOf topic index offset
  pub put : IsAmong (Put offset) (made_topics put_part request.topics reply.topics)

-- it isn't one, nor decides an offset of the partition that waits in the group
pub record LeavesOffset (w : World) (e : Event) (g topic : List ℕ) (index : ℤ) : Type 0 where
  pub no_commit : CommitsFor w e g topic index → ⊥
  pub no_decision : (producer : ℤ) (outcome : TransactionResult)
      → IsDecisionFor w e g producer outcome → Waits (group_in w g).offsets producer topic index → ⊥

abbrev pub LeaveOffset : World → List Event → List ℕ → List ℕ → ℤ → Type 0
LeaveOffset w [] g topic index = Unit {0}
LeaveOffset w (e ∷ es) g topic index =
    LeavesOffset w e g topic index × LeaveOffset (step w e) es g topic index

-- such events leave what is fetched as it was
abbrev pub KeepsOffsets : World → Type 0
KeepsOffsets w = (es : List Event) (g topic : List ℕ) (index : ℤ) → LeaveOffset w es g topic index
    → fetch_result (group_in (world_after_events w es) g).offsets false topic index
    ≡ fetch_result (group_in w g).offsets false topic index

-- ---- the round trip

-- the event puts an offset of another partition
abbrev pub PutsOther : List ℕ → ℤ → OffsetEvent → Type 0
PutsOther topic index (Put o) = IsOf topic index o → ⊥
PutsOther topic index (Stage p o) = ⊥
PutsOther topic index (Decide p outcome) = ⊥

-- of the offsets of the partition that an OffsetCommit is told no error for, this is the last
pub record IsLastOf (topics : List (Topic OffsetToCommit)) (reply : OffsetCommitReply)
    (o : PartitionOffset) : Type 0 where
  pub before : List OffsetEvent
  pub after : List OffsetEvent
  pub put : made_topics put_part topics reply.topics ≡ before ++ Put o ∷ after
  pub last : Each (PutsOther o.topic o.index) after

-- the offset is told with its metadata, or who wants a stable one is told 88
abbrev pub Tells : PartitionOffset → Bool → FetchedOffset → Type 0
Tells o stable a =
    ((a.offset ≡ o.offset) × (a.metadata ≡ Some o.metadata) × (number_of a.error ≡ pos 0))
    ⊎ ((stable ≡ true) × (number_of a.error ≡ pos 88))

-- wherever a fetch names the partition, and may describe it
abbrev pub TellsOf : World → Caller → OffsetFetchRequest → PartitionOffset → List ℕ → ℤ
    → FetchedOffset → Type 0
TellsOf w caller r o name index a =
    name ≡ o.topic → index ≡ o.index → MayAsk w caller (OffsetFetch r) name
    → Tells o r.require_stable a

-- What a commit was told no error for is what a fetch of the group tells, whatever comes between
-- them, but for commits and decisions of that group and partition.
abbrev pub FetchesWhatWasCommitted : World → Type 0
FetchesWhatWasCommitted w =
    (committer : Caller) (client : Option (List ℕ)) (c : OffsetCommitRequest)
    (answer : OffsetCommitReply) (o : PartitionOffset) (between : List Event)
    → reply_to w (Ask committer client (OffsetCommit c)) ≡ replies.OffsetCommit answer
    → IsLastOf c.topics answer o
    → LeaveOffset (step w (Ask committer client (OffsetCommit c))) between c.group o.topic o.index
    → (v : World) → v ≡ world_after_events (step w (Ask committer client (OffsetCommit c))) between
    → (caller : Caller) (agent : Option (List ℕ)) (r : OffsetFetchRequest) (ts : List (Topic ℤ))
    (reply : OffsetFetchReply)
    → r.group ≡ c.group → r.topics ≡ Some ts
    → reply_to v (Ask caller agent (OffsetFetch r)) ≡ replies.OffsetFetch reply
    → number_of reply.error ≡ pos 0
    → BothTopics (TellsOf v caller r o) ts reply.topics

-- ---- the round trip of a transaction

-- of the offsets of the partition that a TxnOffsetCommit is told no error for, this is the last
pub record IsLastStaged (producer : ℤ) (topics : List (Topic OffsetToStage))
    (reply : TxnOffsetCommitReply) (o : PartitionOffset) : Type 0 where
  pub before : List OffsetEvent
  pub after : List OffsetEvent
  pub stage : made_topics (stage_part producer) topics reply.topics
      ≡ before ++ Stage producer o ∷ after
  pub last : Each (IsNeither producer o.topic o.index) after

-- a TxnOffsetCommit of the producer for the group that is told no error for an offset of the
-- partition
pub record StagesFor (w : World) (e : Event) (g : List ℕ) (producer : ℤ) (topic : List ℕ)
    (index : ℤ) : Type 0 where
  pub caller : Caller
  pub client : Option (List ℕ)
  pub request : TxnOffsetCommitRequest
  pub reply : TxnOffsetCommitReply
  pub event : e ≡ Ask caller client (TxnOffsetCommit request)
  pub group : request.group ≡ g
  pub by : request.producer ≡ producer
  pub answer : reply_to w e ≡ replies.TxnOffsetCommit reply
  pub offset : PartitionOffset
  pub is : IsOf topic index offset
  pub stage : IsAmong (Stage request.producer offset)
      (made_topics (stage_part request.producer) request.topics reply.topics)

-- it isn't one, nor decides what the producer staged in the group
pub record LeavesStaged (w : World) (e : Event) (g : List ℕ) (producer : ℤ) (topic : List ℕ)
    (index : ℤ) : Type 0 where
  pub no_staging : StagesFor w e g producer topic index → ⊥
  pub no_decision : (outcome : TransactionResult) → IsDecisionFor w e g producer outcome → ⊥

abbrev pub LeaveStaged : World → List Event → List ℕ → ℤ → List ℕ → ℤ → Type 0
LeaveStaged w [] g producer topic index = Unit {0}
LeaveStaged w (e ∷ es) g producer topic index =
    LeavesStaged w e g producer topic index × LeaveStaged (step w e) es g producer topic index

pub record StagedIsFetched (w : World) : Type 0 where
  -- what a TxnOffsetCommit was told no error for waits, whatever comes but another of the partition
  -- and the decision
  pub waits : (caller : Caller) (client : Option (List ℕ)) (r : TxnOffsetCommitRequest)
      (reply : TxnOffsetCommitReply) (o : PartitionOffset) (between : List Event)
      → reply_to w (Ask caller client (TxnOffsetCommit r)) ≡ replies.TxnOffsetCommit reply
      → IsLastStaged r.producer r.topics reply o
      → LeaveStaged (step w (Ask caller client (TxnOffsetCommit r))) between r.group r.producer
      o.topic o.index
      → WaitsLast
      (group_in (world_after_events (step w (Ask caller client (TxnOffsetCommit r))) between)
      r.group).offsets
      r.producer o.topic o.index o
  -- it is told once it is decided to be committed, and not if it is aborted
  pub commit : (e : Event) (g topic : List ℕ) (producer index : ℤ) (o : PartitionOffset)
      → WaitsLast (group_in w g).offsets producer topic index o
      → IsDecisionFor w e g producer Commit
      → fetch_result (group_in (step w e) g).offsets false topic index ≡ Ok (Some o)
  pub abort : (e : Event) (g topic : List ℕ) (producer index : ℤ)
      → IsDecisionFor w e g producer Abort
      → fetch_result (group_in (step w e) g).offsets false topic index
      ≡ fetch_result (group_in w g).offsets false topic index

-- whatever the world is
pub record CommitsAreFetched (w : World) : Type 0 where
  pub kept : KeepsOffsets w
  pub round_trip : FetchesWhatWasCommitted w
  pub staged : StagedIsFetched w
