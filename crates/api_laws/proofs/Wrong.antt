-- The wrong rules are refuted, each in a worked case.
use Rattle.std.proofs.lemmas.Int.{ints}
use Rattle.std.proofs.Common.{◌≡◌, ◌⊎◌, inl, inr, ℕ, zero, suc, ◌≤◌, ℤ, pos, negsuc, Bool, true, false, cond, List, [], ◌∷◌, ◌++◌, length, Option, Some, None, refl, codes as bytes, sym, ap, subst, ◌∙◌, arith, get_or, ◌<◌}
use Rattle.std.specs.Option.{option_and_then}
use Rattle.std.specs.List.{AllByRecursion}
use Rattle.std.specs.Str.{bytes_eq}
use Rattle.acl_binding.specs.declared.question.Caller.{Caller}
use Rattle.acl_binding.specs.declared.words.Kind.{Kind}
use Rattle.acl_binding.specs.declared.words.Kind.TheVariants as kinds
use Rattle.acl_binding.specs.declared.words.Operation.TheVariants as operations
use Rattle.acl_binding.specs.declared.words.Pattern.TheVariants as patterns
use Rattle.acl_binding.specs.declared.words.Permission.TheVariants as permissions
use Rattle.acl_binding.specs.declared.binding.Binding.{Binding}
use Rattle.acl_binding.specs.declared.binding.Numbered.{Numbered}
use Rattle.acl_binding.specs.Book.{empty_book}
use Rattle.acl_binding.specs.WireNumbers.{kind_at, pattern_at, operation_at, permission_at, filter_pattern_at, kind_code, pattern_code, operation_code, permission_code, filter_pattern_code}
use Rattle.msg_acl.specs.declared.entries.BindingEntry.{BindingEntry}
use Rattle.msg_acl.specs.declared.entries.FilterEntry.{FilterEntry}
use Rattle.wire_types.specs.declared.error_code.ErrorCode.TheVariants as codes
use Rattle.msg_data.specs.declared.metadata.BrokerInfo.{BrokerInfo}
use Rattle.msg_data.specs.declared.metadata.MetadataReply.{MetadataReply}
use Rattle.msg_admin.specs.declared.api.Api.{Api}
use Rattle.msg_admin.specs.declared.api_key.ApiKey.TheVariants as keys
use Rattle.msg_admin.specs.declared.request.Request.{Request}
use Rattle.msg_admin.specs.declared.request.Request.TheVariants as requests
use Rattle.msg_admin.specs.declared.reply.Reply.{Reply}
use Rattle.msg_admin.specs.declared.reply.Reply.TheVariants as replies
use Rattle.audit_trail.specs.declared.event.Event.TheVariants.{Ask}
use Rattle.authorizer.specs.declared.answer.DenyReason.TheVariants as why
use Rattle.authorizer.specs.declared.answer.Refusal.{Refusal}
use Rattle.wire_types.specs.ErrorCode.{number_of}
use Rattle.record_batch.specs.Batch.{BatchData}
use Rattle.msg_data.specs.declared.isolation.Isolation.TheVariants.{ReadUncommitted}
use Rattle.msg_data.specs.declared.fetch.FetchRequest.{FetchRequest}
use Rattle.msg_data.specs.declared.fetch.FetchReply.{FetchReply}
use Rattle.msg_data.specs.declared.metadata.TopicInfo.{TopicInfo}
use Rattle.txn_coordinator.specs.Coordinator.{no_transactions}
use Rattle.broker_world.specs.World.{World, TopicValue, LogValue}
use Rattle.broker_world.specs.Logs.{log_in, log_of, log_at}
use Rattle.data_handlers.specs.Fetch.{fetched_partition, served_at}
use Rattle.api_laws.specs.Numbers.{RefusalsByNumber}
use Rattle.api_laws.specs.Headline.{NullTellsDescribable}
use Rattle.api_laws.specs.Longest.{ServesWhatFits}
use Rattle.api_laws.specs.FetchSizes.{IsOneBatch, IsWithin, FetchIsWithin}
use Rattle.api_laws.specs.AskedTable.{AsksByTable}
use Rattle.api_laws.specs.ToldErrors.{TopicAt}
use Rattle.api_laws.specs.OneNode.{OneNodeIsAll}
use Rattle.api_laws.specs.AclLaws.{CreatesEach, DeletesEach}
use Rattle.api_laws.specs.Framing.{after_size, ResponsesAreFramed}
use Rattle.msg_admin.specs.Api.{is_flexible}
use Rattle.msg_admin.specs.Bodies.{reply_body}
use Rattle.wire_types.specs.Spelling.{int_written}
use Rattle.api_laws.specs.Wrong.{code_of_topics, code_of_ids_as_groups, topics_for_everybody, topics_for_nobody, serving_to_the_end, serving_one_less, serving_too_much, fetch_keeping_the_budget, fetch_without_max_bytes, reply_to_anybody, reply_to_alterers, reply_without_leaders, reply_without_brokers, creating_nothing, creating_alone, deleting_nothing, deleting_everything, response_under_another_id, response_without_size}

-- ---- codes of refused parts

abbrev refusal : Kind → Refusal
refusal kind = record { question = record { who = bytes "User:ann"; host = bytes "h"; op = operations.Read; kind = kind; name = bytes "a" }; why = why.Nothing }

pub not_of_topics : ¬ RefusalsByNumber code_of_topics
unfolding number_of
not_of_topics law = let clash : pos 29 ≡ pos 30 = law.group (refusal kinds.Group) refl in cc

pub not_ids_as_groups : ¬ RefusalsByNumber code_of_ids_as_groups
unfolding number_of
not_ids_as_groups law = let clash : pos 30 ≡ pos 53 = law.transactional_id (refusal kinds.TransactionalId) refl in cc

-- ---- a topic `a` with two partitions, in each a batch of three bytes; `User:root` may do everything, and nobody else anything

abbrev pub batch : ℤ → BatchData
batch attributes = record {
  header = record { base_offset = pos 0; batch_length = pos 58; partition_leader_epoch = pos 0; magic = pos 2; crc = 0; attributes = attributes; last_offset_delta = pos 0; base_timestamp = pos 0; max_timestamp = pos 0; producer_id = pos 7; producer_epoch = pos 0; base_sequence = pos 0; record_count = pos 1 };
  records = record { timestamp_delta = pos 0; key = None; value = None; headers = [] } ∷ [];
  marker = None;
  bytes = 1 ∷ 2 ∷ 3 ∷ [];
}

abbrev pub plain : BatchData
plain = batch (pos 0)

abbrev logs : List LogValue
logs = (plain ∷ []) ∷ (plain ∷ []) ∷ []

abbrev pub topic : TopicValue
topic = record { name = bytes "a"; partitions = logs }

abbrev pub w : World
w = record { node = record { node_id = pos 0; host = bytes "h"; port = pos 9092; max_batch = pos 1048576; max_txn_timeout = pos 900000 }; supers = bytes "User:root" ∷ []; book = empty_book; topics = topic ∷ []; coordinator = no_transactions; groups = []; moment = 0; events = 0 }

abbrev pub root : Caller
root = record { who = bytes "User:root"; host = bytes "h" }

abbrev pub ann : Caller
ann = record { who = bytes "User:ann"; host = bytes "h" }

-- ---- Metadata of a null list

pub not_for_everybody : ¬ NullTellsDescribable topics_for_everybody
not_for_everybody law = let clash : ◌≡◌ {A = ℕ} 1 0 = ap (λ (ts : List TopicInfo). length ts) (law w ann) in cc

pub not_for_nobody : ¬ NullTellsDescribable topics_for_nobody
not_for_nobody law = let clash : ◌≡◌ {A = ℕ} 0 1 = ap (λ (ts : List TopicInfo). length ts) (law w root) in cc

-- ---- how much is served

-- the batch is of a transaction that is open
pub not_to_the_end : ¬ ServesWhatFits serving_to_the_end
not_to_the_end law =
    let run = (law (batch (pos 16) ∷ []) (pos 0) 10 false).committed in
    let clash : ◌≡◌ {A = ℕ} 0 (suc (length run.rest)) = ap (λ (bs : List BatchData). length bs) run.first in cc

pub not_one_less : ¬ ServesWhatFits serving_one_less
not_one_less law =
    let none = (law (plain ∷ []) (pos 0) 10 false).uncommitted.none refl plain [] refl in
    omega (arith, none.1)

pub not_too_much : ¬ ServesWhatFits serving_too_much
not_too_much law = by (law (plain ∷ []) (pos 0) 1 false).uncommitted.fits where
  by : (3 ≤ 1) ⊎ ((false ≡ true) × (◌≡◌ {A = ℕ} 1 1)) → ⊥
  by (inl fits) = omega (arith, fits)
  by (inr (forced, one)) = let clash : false ≡ true = forced in cc

-- ---- a Fetch for three bytes of both partitions, which would be served six

Three : LogValue → Type 0
Three log = AllByRecursion (λ (b : BatchData). length b.bytes ≡ 3) log

found_log : (o : Option LogValue) (log : LogValue) → o ≡ Some (plain ∷ []) → o ≡ Some log → Three log
unfolding Three
found_log o log is found = let same : plain ∷ [] ≡ log = inside (plain ∷ []) log (sym is ∙ found) in subst (λ (l : LogValue). AllByRecursion (λ (b : BatchData). length b.bytes ≡ 3) l) same (refl, tt) where
  inside : (a b : LogValue) → Some a ≡ Some b → a ≡ b
  inside a b h = cc

in_logs : (index : ℤ) (log : LogValue) → log_in index logs ≡ Some log → Three log
in_logs (pos zero) log found = found_log (Some (plain ∷ [])) log refl found
in_logs (pos (suc zero)) log found = found_log (Some (plain ∷ [])) log refl found
in_logs (pos (suc (suc n))) log found = absurd (let clash : None ≡ Some log = found in cc)
in_logs (negsuc n) log found = absurd (let clash : None ≡ Some log = found in cc)

in_world : (name : List ℕ) (index : ℤ) (log : LogValue) → log_at w.topics name index ≡ Some log → Three log
in_world name index log found = by (bytes_eq (bytes "a") name) found where
  by : (b : Bool) → option_and_then (log_of index) (cond b (Some topic) None) ≡ Some log → Three log
  by true found = in_logs index log found
  by false found = absurd (let clash : None ≡ Some log = found in cc)

at_place : (before : List BatchData) (b : BatchData) (after : List BatchData) → Three (before ++ b ∷ after) → length b.bytes ≡ 3
unfolding Three
at_place [] b after all = all.0
at_place (x ∷ before) b after all = at_place before b after all.1

one_batch : (sent : List ℕ) → IsOneBatch w sent → length sent ≡ 3
one_batch sent one = ap (λ (l : List ℕ). length l) one.whole ∙ at_place one.before one.batch one.after (subst Three one.stands (in_world one.name one.index one.log one.there))

six_bytes : IsWithin w (pos 3) (1 ∷ 2 ∷ 3 ∷ 1 ∷ 2 ∷ 3 ∷ []) → ⊥
six_bytes (inl few) = omega (arith, few)
six_bytes (inr one) = let clash : ◌≡◌ {A = ℕ} 6 3 = one_batch (1 ∷ 2 ∷ 3 ∷ 1 ∷ 2 ∷ 3 ∷ []) one in cc

abbrev request : FetchRequest
request = record { replica = negsuc 0; max_wait = pos 0; min_bytes = pos 1; max_bytes = pos 3; isolation = ReadUncommitted; topics = record { name = bytes "a"; partitions = record { index = pos 0; offset = pos 0; max_bytes = pos 10 } ∷ record { index = pos 1; offset = pos 0; max_bytes = pos 10 } ∷ [] } ∷ [] }

abbrev reply : FetchReply
reply = record { throttle = pos 0; topics = record { name = bytes "a"; partitions = fetched_partition ReadUncommitted (record { index = pos 0; offset = pos 0; max_bytes = pos 10 }) (served_at ReadUncommitted w.topics (record { left = 100; given = false }) (bytes "a") (record { index = pos 0; offset = pos 0; max_bytes = pos 10 })) ∷ fetched_partition ReadUncommitted (record { index = pos 1; offset = pos 0; max_bytes = pos 10 }) (served_at ReadUncommitted w.topics (record { left = 100; given = false }) (bytes "a") (record { index = pos 1; offset = pos 0; max_bytes = pos 10 })) ∷ [] } ∷ [] }

pub not_keeping : ¬ FetchIsWithin fetch_keeping_the_budget
not_keeping law = six_bytes (law.whole w root request reply refl)

pub not_without_max : ¬ FetchIsWithin fetch_without_max_bytes
not_without_max law = six_bytes (law.whole w root request reply refl)

-- ---- what is asked

abbrev asks_metadata : Request
asks_metadata = requests.Metadata (record { topics = Some (bytes "a" ∷ []) })

pub not_anybody : ¬ AsksByTable reply_to_anybody
unfolding number_of
not_anybody law = let clash : Some (pos 0) ≡ Some (pos 29) = law.parts w ann None asks_metadata (TopicAt 0) refl in cc

-- ann may describe the cluster, and not alter it
abbrev describes_cluster : Binding
describes_cluster = record { kind = kinds.Cluster; name = bytes "kafka-cluster"; pattern = patterns.Literal; principal = bytes "User:ann"; host = bytes "*"; operation = operations.Describe; permission = permissions.Allow }

abbrev pub with_describer : World
with_describer = record w { book = record { entries = record { number = 1; binding = describes_cluster } ∷ []; next = 2 } }

abbrev pub any_entry : FilterEntry
any_entry = record { kind = pos 1; name = None; pattern = pos 1; principal = None; host = None; operation = pos 1; permission = pos 1 }

pub not_alterers : ¬ AsksByTable reply_to_alterers
unfolding number_of
not_alterers law = let clash : true ≡ false = (law.itself with_describer ann None (requests.DescribeAcls (record { filter = any_entry }))).0 in cc

-- ---- the one node

abbrev metadata_in : Reply → MetadataReply
metadata_in (replies.Metadata told) = told
metadata_in _ = record { brokers = []; controller = negsuc 0; topics = [] }

pub not_leaderless : ¬ OneNodeIsAll reply_without_leaders
not_leaderless law =
    let listed = law.listed w root None (record { topics = Some (bytes "a" ∷ []) }) (metadata_in (reply_without_leaders w (Ask root None asks_metadata))) refl in
    let clash : negsuc 0 ≡ pos 0 = (listed.partitions 0 0 _ _ refl refl).leader in cc

pub not_brokerless : ¬ OneNodeIsAll reply_without_brokers
not_brokerless law =
    let listed = law.listed w root None (record { topics = Some (bytes "a" ∷ []) }) (metadata_in (reply_without_brokers w (Ask root None asks_metadata))) refl in
    let clash : ◌≡◌ {A = ℕ} 0 1 = ap (λ (bs : List BrokerInfo). length bs) listed.brokers in cc

-- ---- edits of the book

abbrev pub entry : BindingEntry
entry = record { kind = pos 4; name = bytes "kafka-cluster"; pattern = pos 3; principal = bytes "User:ann"; host = bytes "*"; operation = pos 8; permission = pos 3 }

pub not_creating_nothing : ¬ CreatesEach creating_nothing
unfolding kind_at pattern_at operation_at permission_at kind_code pattern_code operation_code permission_code
not_creating_nothing law = let clash : false ≡ true = (law w root (record { creations = entry ∷ [] }) refl).each.0 in cc

pub not_creating_alone : ¬ CreatesEach creating_alone
not_creating_alone law =
    let clash : ◌≡◌ {A = List Numbered} [] (record { number = 1; binding = describes_cluster } ∷ (law with_describer root (record { creations = [] }) refl).more) = (law with_describer root (record { creations = [] }) refl).kept in cc

pub not_deleting_nothing : ¬ DeletesEach deleting_nothing
unfolding kind_at operation_at permission_at filter_pattern_at filter_pattern_code kind_code operation_code permission_code
not_deleting_nothing law =
    let clash : describes_cluster ∷ [] ≡ [] = (law with_describer root (record { filters = any_entry ∷ [] }) refl).each.0 in cc

pub not_deleting_everything : ¬ DeletesEach deleting_everything
not_deleting_everything law = (law with_describer root (record { filters = [] }) refl).kept (record { number = 1; binding = describes_cluster }) (inl refl) tt

-- ---- responses: to a Heartbeat, which is answered no error

abbrev beat : Reply
beat = replies.Heartbeat (record { throttle = pos 0; error = codes.None })

abbrev heartbeat : Api
heartbeat = record { key = keys.Heartbeat; version = pos 1 }

ten : length (after_size (pos 5) heartbeat beat) ≡ 10
unfolding number_of is_flexible reply_body int_written
ten = refl

small : length (after_size (pos 5) heartbeat beat) < 2147483648
small = subst (λ (n : ℕ). n < 2147483648) (sym ten) (omega arith)

sixth : List ℕ → ℕ
sixth l = get_or l 7 0

pub not_another_id : ¬ ResponsesAreFramed response_under_another_id
unfolding sixth number_of is_flexible reply_body int_written
not_another_id law =
    let clash : ◌≡◌ {A = ℕ} 6 5 = ap sixth (law (pos 5) beat heartbeat refl (omega (arith, ints)) (omega (arith, ints)) small) in cc

pub not_without_size : ¬ ResponsesAreFramed response_without_size
unfolding number_of is_flexible reply_body int_written
not_without_size law =
    let clash : ◌≡◌ {A = ℕ} 10 14 = ap (λ (l : List ℕ). length l) (law (pos 5) beat heartbeat refl (omega (arith, ints)) (omega (arith, ints)) small) in cc
