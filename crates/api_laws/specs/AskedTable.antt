-- What each api asks to be allowed, as the documentation of Kafka's authorization lists it
-- ("Operations and Resources on Protocols"), and what is told where that isn't granted: 29 is
-- TOPIC_AUTHORIZATION_FAILED, 30 GROUP_AUTHORIZATION_FAILED,
-- 31 CLUSTER_AUTHORIZATION_FAILED and 53 TRANSACTIONAL_ID_AUTHORIZATION_FAILED (Kafka protocol
-- guide, "Error Codes").
use Rattle.std.specs.Prelude.{◌≡◌, ℕ, ℤ, pos, Bool, true, false, if◌then◌else◌, is_some, List, [], ◌∷◌, map, length, replicate, Option, Some, None, IfSome, codes}
use Rattle.std.specs.List.{list_any, AllByRecursion}
use Rattle.std.specs.Ordering.{int_eq}
use Rattle.acl_binding.specs.declared.question.Caller.{Caller}
use Rattle.acl_binding.specs.declared.question.Question.{Question}
use Rattle.acl_binding.specs.declared.words.Kind.{Kind}
use Rattle.acl_binding.specs.declared.words.Kind.TheVariants as kinds
use Rattle.acl_binding.specs.declared.words.Operation.{Operation}
use Rattle.acl_binding.specs.declared.words.Operation.TheVariants as operations
use Rattle.authorizer.specs.Policy.{verdict}
use Rattle.authorizer.specs.AnyTopic.{any_topic}
use Rattle.authorizer.specs.Asking.{part_refusal}
use Rattle.wire_types.specs.declared.topic.Topic.{Topic}
use Rattle.msg_txn.specs.EndTxn.{end_txn_of as ending}
use Rattle.msg_admin.specs.declared.request.Request.{Request}
use Rattle.msg_admin.specs.declared.request.Request.TheVariants as requests
use Rattle.audit_trail.specs.declared.event.Event.TheVariants.{Ask}
use Rattle.walk.specs.Headline.{element_at}
use Rattle.walk.specs.Woven.{has_any}
use Rattle.broker_world.specs.World.{World, rules_of}
use Rattle.api_dispatch.specs.Questions.{asks_itself, asks_at}
use Rattle.audit_trail.specs.declared.event.Event.{Event}
use Rattle.msg_admin.specs.declared.reply.Reply.{Reply}
use Rattle.api_laws.specs.Headline.{is_yes}
use Rattle.api_laws.specs.ToldErrors.{Place, TopicAt, PartitionAt, errors_itself, error_at}

-- ---- a row: an operation on the resource of this kind and name

pub record Row : Type 0 where
  pub operation : Operation
  pub kind : Kind
  pub name : List ℕ

abbrev pub row : Operation → Kind → List ℕ → Row
row operation kind name = record { operation = operation; kind = kind; name = name }

-- may the caller at its host do that?
abbrev pub row_question : Caller → Row → Question
row_question caller r =
    record { who = caller.who; host = caller.host; op = r.operation; kind = r.kind; name = r.name }

-- ---- the table: what the request itself asks

-- by the type of its key: a group by 0, and a transactional id by 1
abbrev pub coordinator_rows : ℤ → List ℕ → List Row
coordinator_rows key_type key =
    if int_eq key_type (pos 0) then row operations.Describe kinds.Group key ∷ []
    else if int_eq key_type (pos 1) then row operations.Describe kinds.TransactionalId key ∷ []
    else []

-- without a transactional id a caller whom the bindings let write to some topic is asked nothing
-- (KIP-679)
abbrev pub producer_rows : World → Caller → Option (List ℕ) → List Row
producer_rows w caller (Some id) = row operations.Write kinds.TransactionalId id ∷ []
producer_rows w caller None =
    if any_topic w.book.entries caller.who caller.host then []
    else row operations.IdempotentWrite kinds.Cluster (codes "kafka-cluster") ∷ []

abbrev pub request_rows : World → Caller → Request → List Row
request_rows w caller (requests.OffsetFetch r) = row operations.Describe kinds.Group r.group ∷ []
request_rows w caller (requests.FindCoordinator r) = coordinator_rows r.key_type r.key
request_rows w caller (requests.JoinGroup r) = row operations.Read kinds.Group r.group ∷ []
request_rows w caller (requests.SyncGroup r) = row operations.Read kinds.Group r.group ∷ []
request_rows w caller (requests.Heartbeat r) = row operations.Read kinds.Group r.group ∷ []
request_rows w caller (requests.LeaveGroup r) = row operations.Read kinds.Group r.group ∷ []
request_rows w caller (requests.InitProducerId r) = producer_rows w caller r.transactional_id
request_rows w caller (requests.AddOffsetsToTxn r) =
    row operations.Write kinds.TransactionalId r.transactional_id
    ∷ row operations.Read kinds.Group r.group ∷ []
request_rows w caller (requests.EndTxn r) =
    row operations.Write kinds.TransactionalId (ending r).transactional_id ∷ []
request_rows w caller (requests.DescribeAcls r) =
    row operations.Describe kinds.Cluster (codes "kafka-cluster") ∷ []
request_rows w caller (requests.CreateAcls r) =
    row operations.Alter kinds.Cluster (codes "kafka-cluster") ∷ []
request_rows w caller (requests.DeleteAcls r) =
    row operations.Alter kinds.Cluster (codes "kafka-cluster") ∷ []
request_rows w caller request = []

-- ---- the table: what each partition of the topic of this name asks, or in Metadata the topic

abbrev pub id_row : Option (List ℕ) → List Row → List Row
id_row None rows = rows
id_row (Some id) rows = row operations.Write kinds.TransactionalId id ∷ rows

abbrev pub topic_rows : Request → List ℕ → List Row
topic_rows (requests.Produce r) name =
    id_row r.transactional_id (row operations.Write kinds.Topic name ∷ [])
topic_rows (requests.Fetch r) name = row operations.Read kinds.Topic name ∷ []
topic_rows (requests.ListOffsets r) name = row operations.Describe kinds.Topic name ∷ []
topic_rows (requests.Metadata r) name = row operations.Describe kinds.Topic name ∷ []
topic_rows (requests.OffsetCommit r) name =
    row operations.Read kinds.Group r.group ∷ row operations.Read kinds.Topic name ∷ []
topic_rows (requests.OffsetFetch r) name = row operations.Describe kinds.Topic name ∷ []
topic_rows (requests.AddPartitionsToTxn r) name =
    row operations.Write kinds.TransactionalId r.transactional_id
    ∷ row operations.Write kinds.Topic name ∷ []
topic_rows (requests.TxnOffsetCommit r) name =
    row operations.Write kinds.TransactionalId r.transactional_id
    ∷ row operations.Read kinds.Group r.group ∷ row operations.Read kinds.Topic name ∷ []
topic_rows request name = []

-- ---- the same by places: where no part stands nothing is asked, and a null list has none

abbrev pub rows_for : {P : Type 0} → (List ℕ → List Row) → List ℕ → Option P → List Row
rows_for rows name None = []
rows_for rows name (Some p) = rows name

abbrev pub rows_in : {P : Type 0} → (List ℕ → List Row) → Option (Topic P) → ℕ → List Row
rows_in rows None j = []
rows_in rows (Some t) j = rows_for rows t.name (element_at t.partitions j)

abbrev pub partition_rows : {P : Type 0} → (List ℕ → List Row) → List (Topic P) → Place → List Row
partition_rows rows ts (TopicAt i) = []
partition_rows rows ts (PartitionAt i j) = rows_in rows (element_at ts i) j

abbrev pub rows_of : (List ℕ → List Row) → Option (List ℕ) → List Row
rows_of rows None = []
rows_of rows (Some name) = rows name

abbrev pub name_rows : (List ℕ → List Row) → Option (List (List ℕ)) → Place → List Row
name_rows rows None place = []
name_rows rows (Some names) (TopicAt i) = rows_of rows (element_at names i)
name_rows rows (Some names) (PartitionAt i j) = []

abbrev pub offset_rows : (List ℕ → List Row) → Option (List (Topic ℤ)) → Place → List Row
offset_rows rows None place = []
offset_rows rows (Some ts) place = partition_rows rows ts place

abbrev pub rows_at : Request → Place → List Row
rows_at (requests.Produce r) place = partition_rows (topic_rows (requests.Produce r)) r.topics place
rows_at (requests.Fetch r) place = partition_rows (topic_rows (requests.Fetch r)) r.topics place
rows_at (requests.ListOffsets r) place =
    partition_rows (topic_rows (requests.ListOffsets r)) r.topics place
rows_at (requests.Metadata r) place = name_rows (topic_rows (requests.Metadata r)) r.topics place
rows_at (requests.OffsetCommit r) place =
    partition_rows (topic_rows (requests.OffsetCommit r)) r.topics place
rows_at (requests.OffsetFetch r) place =
    offset_rows (topic_rows (requests.OffsetFetch r)) r.topics place
rows_at (requests.AddPartitionsToTxn r) place =
    partition_rows (topic_rows (requests.AddPartitionsToTxn r)) r.topics place
rows_at (requests.TxnOffsetCommit r) place =
    partition_rows (topic_rows (requests.TxnOffsetCommit r)) r.topics place
rows_at request place = []

-- ---- what is told

-- the verdict on it is Yes
abbrev pub is_row_granted : World → Caller → Row → Bool
is_row_granted w caller r = is_yes (verdict w.book w.supers (row_question caller r))

-- the first row that isn't granted, if one isn't
abbrev pub first_refused : World → Caller → List Row → Option Row
first_refused w caller [] = None
first_refused w caller (r ∷ rows) =
    if is_row_granted w caller r then first_refused w caller rows else Some r

abbrev pub refusal_number : Kind → ℤ
refusal_number kinds.Topic = pos 29
refusal_number kinds.Group = pos 30
refusal_number kinds.Cluster = pos 31
refusal_number kinds.TransactionalId = pos 53

-- no error of authorization
abbrev pub IsNoRefusal : ℤ → Type 0
IsNoRefusal error = list_any (λ (n : ℕ). int_eq error (pos n)) (29 ∷ 30 ∷ 31 ∷ 53 ∷ []) ≡ false

-- the number of the row's kind, so many times; without such a row no error of authorization
abbrev pub TellsItself : Option Row → ℕ → List ℤ → Type 0
TellsItself (Some r) times errors = errors ≡ replicate times (refusal_number r.kind)
TellsItself None times errors = AllByRecursion IsNoRefusal errors

abbrev pub TellsAt : Option Row → Option ℤ → Type 0
TellsAt (Some r) error = error ≡ Some (refusal_number r.kind)
TellsAt None error = IfSome error IsNoRefusal

-- CreateAcls and DeleteAcls tell it in each result
abbrev pub result_count : Request → ℕ
result_count (requests.CreateAcls r) = length r.creations
result_count (requests.DeleteAcls r) = length r.filters
result_count request = 1

-- ---- the law

-- what an event is answered in a world
abbrev pub AnswerRule : Type 0
AnswerRule = World → Event → Reply

-- Whatever the world is: a request is told the number of the first of its own rows that isn't
-- granted; and where each of them is, each of its parts the number of the first of its rows that
-- isn't. Nobody else is told an error of authorization. (Of an OffsetFetch alone both the request
-- and its parts ask.)
pub record AsksByTable (reply_to : AnswerRule) : Type 0 where
  pub itself : (w : World) (caller : Caller) (client : Option (List ℕ)) (request : Request)
      → TellsItself (first_refused w caller (request_rows w caller request)) (result_count request)
      (errors_itself (reply_to w (Ask caller client request)))
  pub parts : (w : World) (caller : Caller) (client : Option (List ℕ)) (request : Request)
      (place : Place)
      → first_refused w caller (request_rows w caller request) ≡ None
      → TellsAt (first_refused w caller (rows_at request place))
      (error_at (reply_to w (Ask caller client request)) place)
  -- each part is told one or the other
  pub answered : (w : World) (caller : Caller) (client : Option (List ℕ)) (request : Request)
      (place : Place)
      → first_refused w caller (request_rows w caller request) ≡ None
      → has_any (rows_at request place) ≡ true
      → is_some (error_at (reply_to w (Ask caller client request)) place) ≡ true
  -- and the definitions from which the audit's refusals are made ask the same
  pub refused_itself : (w : World) (caller : Caller) (request : Request)
      → part_refusal (rules_of w) (asks_itself (rules_of w) caller request)
      ≡ part_refusal (rules_of w) (map (row_question caller) (request_rows w caller request))
  pub asked_of_topic : (caller : Caller) (request : Request) (name : List ℕ)
      → asks_at caller request name ≡ map (row_question caller) (topic_rows request name)
