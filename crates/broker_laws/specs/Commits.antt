-- Who commits offsets for a group, over whole events (Kafka protocol guide, "OffsetCommit API (Key:
-- 8)", "TxnOffsetCommit API (Key: 28)"; KIP-447 for the member and the generation in the latter).
use Rattle.std.specs.Prelude.{◌≡◌, ◌≢◌, ◌⊎◌, ℕ, ℤ, pos, negsuc, List, [], ◌∷◌, ◌++◌, if◌then◌else◌, Option, Some, None, unwrap_or}
use Rattle.std.specs.Ordering.{int_eq}
use Rattle.acl_binding.specs.declared.question.Caller.{Caller}
use Rattle.authorizer.specs.Asking.{part_refusal}
use Rattle.wire_types.specs.declared.topic.Topic.{Topic}
use Rattle.wire_types.specs.ErrorCode.{number_of}
use Rattle.msg_group.specs.declared.offset_commit.OffsetCommitRequest.{OffsetCommitRequest}
use Rattle.msg_group.specs.declared.offset_commit.OffsetCommitReply.{OffsetCommitReply}
use Rattle.msg_group.specs.declared.offset_commit.OffsetToCommit.{OffsetToCommit}
use Rattle.msg_group.specs.declared.offset_commit.CommittedOffset.{CommittedOffset}
use Rattle.msg_txn.specs.declared.txn_offset_commit.TxnOffsetCommitRequest.{TxnOffsetCommitRequest}
use Rattle.msg_txn.specs.declared.txn_offset_commit.TxnOffsetCommitReply.{TxnOffsetCommitReply}
use Rattle.msg_txn.specs.declared.txn_offset_commit.OffsetToStage.{OffsetToStage}
use Rattle.msg_txn.specs.declared.txn_offset_commit.StagedOffset.{StagedOffset}
use Rattle.msg_admin.specs.declared.request.Request.{Request}
use Rattle.msg_admin.specs.declared.request.Request.TheVariants.{OffsetCommit, TxnOffsetCommit}
use Rattle.msg_admin.specs.declared.reply.Reply.TheVariants as replies
use Rattle.audit_trail.specs.declared.event.Event.TheVariants.{Ask}
use Rattle.group_offsets.specs.declared.event.OffsetEvent.{OffsetEvent}
use Rattle.group_offsets.specs.declared.event.OffsetEvent.TheVariants.{Put, Stage}
use Rattle.group_offsets.specs.declared.group.Group.{Group}
use Rattle.group_offsets.specs.declared.member.Member.{Member}
use Rattle.broker_world.specs.World.{World, LogValue, rules_of}
use Rattle.broker_world.specs.Logs.{log_at}
use Rattle.txn_handlers.specs.TxnOffsetCommit.{staging_of, staging_refusal}
use Rattle.api_dispatch.specs.Questions.{asks_at}
use Rattle.broker_laws.specs.Rules.{WorldRule, ReplyRule}
use Rattle.broker_laws.specs.Members.{group_in, IsMember, IsMemberIn}

-- ---- who may commit

-- nobody in particular: generation -1, and no member's id
pub record IsNobody (generation : ℤ) (member : List ℕ) : Type 0 where
  pub minus_one : generation ≡ negsuc 0
  pub nameless : member ≡ []

-- so it is where the group has no member
pub record IsUnmanaged (g : Group) (generation : ℤ) (member : List ℕ) : Type 0 where
  pub by : IsNobody generation member
  pub empty : g.member ≡ None

-- the group's member, in its generation, which has its assignment
pub record IsAssigned (g : Group) (generation : ℤ) (member : List ℕ) : Type 0 where
  pub by : IsMemberIn g member generation
  pub assignment : List ℕ
  pub has : g.assignment ≡ Some assignment

abbrev pub MayCommit : Group → ℤ → List ℕ → Type 0
MayCommit g generation member = IsUnmanaged g generation member ⊎ IsAssigned g generation member

-- The number that an OffsetCommit tells: 0 is NONE, 22 ILLEGAL_GENERATION, 25 UNKNOWN_MEMBER_ID, 27
-- REBALANCE_IN_PROGRESS.
pub record IsCommitNumber (g : Group) (generation : ℤ) (member : List ℕ) (number : ℤ) : Type 0 where
  pub unmanaged : IsUnmanaged g generation member → number ≡ pos 0
  pub managed : IsNobody generation member → (m : Member) → g.member ≡ Some m → number ≡ pos 25
  -- of somebody in particular
  pub stranger : (IsNobody generation member → ⊥) → (IsMember g member → ⊥) → number ≡ pos 25
  pub other_generation : (IsNobody generation member → ⊥) → IsMember g member
      → g.generation ≢ generation → number ≡ pos 22
  pub awaited : (IsNobody generation member → ⊥) → IsMemberIn g member generation
      → g.assignment ≡ None → number ≡ pos 27
  pub assigned : (IsNobody generation member → ⊥) → IsAssigned g generation member → number ≡ pos 0

-- with a transaction, nobody in particular isn't looked at, and the member need not have its
-- assignment (KIP-447)
abbrev pub MayStage : Group → ℤ → List ℕ → Type 0
MayStage g generation member = IsNobody generation member ⊎ IsMemberIn g member generation

pub record IsStageNumber (g : Group) (generation : ℤ) (member : List ℕ) (number : ℤ) : Type 0 where
  pub nobody : IsNobody generation member → number ≡ pos 0
  pub stranger : (IsNobody generation member → ⊥) → (IsMember g member → ⊥) → number ≡ pos 25
  pub other_generation : (IsNobody generation member → ⊥) → IsMember g member
      → g.generation ≢ generation → number ≡ pos 22
  pub own : (IsNobody generation member → ⊥) → IsMemberIn g member generation → number ≡ pos 0

-- ---- a request and its answer, partition by partition

abbrev pub BothParts : {P A : Type 0} → (List ℕ → P → A → Type 0) → List ℕ → List P → List A
    → Type 0
BothParts Is name [] [] = Unit {0}
BothParts Is name [] (a ∷ rest) = ⊥
BothParts Is name (p ∷ ps) [] = ⊥
BothParts Is name (p ∷ ps) (a ∷ rest) = Is name p a × BothParts Is name ps rest

-- each topic is answered in its place, by its name, and each of its partitions in its place
abbrev pub BothTopics : {P A : Type 0} → (List ℕ → P → A → Type 0) → List (Topic P) → List (Topic A)
    → Type 0
BothTopics Is [] [] = Unit {0}
BothTopics Is [] (a ∷ rest) = ⊥
BothTopics Is (t ∷ ts) [] = ⊥
BothTopics Is (t ∷ ts) (a ∷ rest) =
    (a.name ≡ t.name) × BothParts Is t.name t.partitions a.partitions × BothTopics Is ts rest

-- what each partition and its answer make, in order
abbrev pub made_parts : {P A E : Type 0} → (List ℕ → P → A → List E) → List ℕ → List P → List A
    → List E
made_parts made name [] answers = []
made_parts made name (p ∷ ps) [] = []
made_parts made name (p ∷ ps) (a ∷ rest) = made name p a ++ made_parts made name ps rest

abbrev pub made_topics : {P A E : Type 0} → (List ℕ → P → A → List E) → List (Topic P)
    → List (Topic A) → List E
made_topics made [] answers = []
made_topics made (t ∷ ts) [] = []
made_topics made (t ∷ ts) (a ∷ rest) =
    made_parts made t.name t.partitions a.partitions ++ made_topics made ts rest

abbrev pub IsAmong : {X : Type 0} → X → List X → Type 0
IsAmong x [] = ⊥
IsAmong x (y ∷ ys) = (y ≡ x) ⊎ IsAmong x ys

-- all that a partition of this topic asks for is granted
abbrev pub MayAsk : World → Caller → Request → List ℕ → Type 0
MayAsk w caller request name = part_refusal (rules_of w) (asks_at caller request name) ≡ None

-- ---- OffsetCommit

-- 3 is UNKNOWN_TOPIC_OR_PARTITION, 29 TOPIC_AUTHORIZATION_FAILED, 30 GROUP_AUTHORIZATION_FAILED
pub record IsCommitAnswer (w : World) (caller : Caller) (r : OffsetCommitRequest) (name : List ℕ)
    (p : OffsetToCommit) (a : CommittedOffset) : Type 0 where
  pub index : a.index ≡ p.index
  pub refused : (MayAsk w caller (OffsetCommit r) name → ⊥)
      → (number_of a.error ≡ pos 29) ⊎ (number_of a.error ≡ pos 30)
  pub missing : MayAsk w caller (OffsetCommit r) name → log_at w.topics name p.index ≡ None
      → number_of a.error ≡ pos 3
  pub there : MayAsk w caller (OffsetCommit r) name → (log : LogValue)
      → log_at w.topics name p.index ≡ Some log
      → IsCommitNumber (group_in w r.group) r.generation r.member (number_of a.error)

-- where it's told no error, its offset is put, with no metadata as the empty text
abbrev pub put_part : List ℕ → OffsetToCommit → CommittedOffset → List OffsetEvent
put_part name p a =
    if int_eq (number_of a.error) (pos 0)
    then Put
    (record {
      topic = name;
      index = p.index;
      offset = p.offset;
      metadata = unwrap_or p.metadata [];
    })
    ∷ []
    else []

pub record CommitsBy (step : WorldRule) (w : World) (caller : Caller) (client : Option (List ℕ))
    (r : OffsetCommitRequest) (reply : OffsetCommitReply) : Type 0 where
  pub answers : BothTopics (IsCommitAnswer w caller r) r.topics reply.topics
  -- so much, and nothing else, comes into the group
  pub offsets : (group_in (step w (Ask caller client (OffsetCommit r))) r.group).offsets
      ≡ (group_in w r.group).offsets ++ made_topics put_part r.topics reply.topics
  pub others : (g : List ℕ) → r.group ≢ g
      → group_in (step w (Ask caller client (OffsetCommit r))) g ≡ group_in w g
  -- one by another member, or in another generation, leaves every offset as it was
  pub none : (MayCommit (group_in w r.group) r.generation r.member → ⊥)
      → (step w (Ask caller client (OffsetCommit r))).groups ≡ w.groups

-- ---- TxnOffsetCommit

-- 53 is TRANSACTIONAL_ID_AUTHORIZATION_FAILED
pub record IsStageAnswer (w : World) (caller : Caller) (r : TxnOffsetCommitRequest) (name : List ℕ)
    (p : OffsetToStage) (a : StagedOffset) : Type 0 where
  pub index : a.index ≡ p.index
  pub refused : (MayAsk w caller (TxnOffsetCommit r) name → ⊥)
      → (number_of a.error ≡ pos 29) ⊎ ((number_of a.error ≡ pos 30) ⊎ (number_of a.error ≡ pos 53))
  pub missing : MayAsk w caller (TxnOffsetCommit r) name → log_at w.topics name p.index ≡ None
      → number_of a.error ≡ pos 3
  -- of a transaction that takes the group in
  pub there : MayAsk w caller (TxnOffsetCommit r) name
      → staging_refusal w.coordinator (staging_of r) ≡ None → (log : LogValue)
      → log_at w.topics name p.index ≡ Some log
      → IsStageNumber (group_in w r.group) r.generation r.member (number_of a.error)

-- where it's told no error, its offset waits for the producer's decision
abbrev pub stage_part : ℤ → List ℕ → OffsetToStage → StagedOffset → List OffsetEvent
stage_part producer name p a =
    if int_eq (number_of a.error) (pos 0)
    then Stage producer
    (record {
      topic = name;
      index = p.index;
      offset = p.offset;
      metadata = unwrap_or p.metadata [];
    })
    ∷ []
    else []

pub record StagesBy (step : WorldRule) (w : World) (caller : Caller) (client : Option (List ℕ))
    (r : TxnOffsetCommitRequest) (reply : TxnOffsetCommitReply) : Type 0 where
  pub answers : BothTopics (IsStageAnswer w caller r) r.topics reply.topics
  pub offsets : (group_in (step w (Ask caller client (TxnOffsetCommit r))) r.group).offsets
      ≡ (group_in w r.group).offsets ++ made_topics (stage_part r.producer) r.topics reply.topics
  pub others : (g : List ℕ) → r.group ≢ g
      → group_in (step w (Ask caller client (TxnOffsetCommit r))) g ≡ group_in w g
  pub none : (MayStage (group_in w r.group) r.generation r.member → ⊥)
      → (step w (Ask caller client (TxnOffsetCommit r))).groups ≡ w.groups

pub record CommitsAndStages (step : WorldRule) (reply_to : ReplyRule) (w : World) : Type 0 where
  pub commits : (caller : Caller) (client : Option (List ℕ)) (r : OffsetCommitRequest)
      (reply : OffsetCommitReply)
      → reply_to w (Ask caller client (OffsetCommit r)) ≡ replies.OffsetCommit reply
      → CommitsBy step w caller client r reply
  pub stages : (caller : Caller) (client : Option (List ℕ)) (r : TxnOffsetCommitRequest)
      (reply : TxnOffsetCommitReply)
      → reply_to w (Ask caller client (TxnOffsetCommit r)) ≡ replies.TxnOffsetCommit reply
      → StagesBy step w caller client r reply

-- whatever the world is, an OffsetCommit of the group's member commits what it is told no error
-- for, and one of anybody else commits nothing; and a TxnOffsetCommit stages so
abbrev pub CommitsAreOfMembers : WorldRule → ReplyRule → Type 0
CommitsAreOfMembers step reply_to = (w : World) → CommitsAndStages step reply_to w
