-- Each error of the table in a worked case.
use Rattle.std.specs.Prelude.{◌≡◌, ℕ, ℤ, pos, negsuc, Bool, true, false, cond, List, [], ◌∷◌, ◌++◌, replicate, Option, Some, None, refl}
use Rattle.std.specs.List.{list_any, AllByRecursion}
use Rattle.std.specs.Ordering.{int_eq}
use Rattle.acl_binding.specs.declared.binding.Numbered.{Numbered}
use Rattle.acl_binding.specs.declared.question.Caller.{Caller}
use Rattle.acl_binding.specs.declared.words.Kind.TheVariants as kinds
use Rattle.acl_binding.specs.declared.words.Operation.TheVariants as operations
use Rattle.acl_binding.specs.declared.words.Pattern.TheVariants as patterns
use Rattle.acl_binding.specs.declared.words.Permission.TheVariants as permissions
use Rattle.acl_binding.specs.WireNumbers.{kind_code, pattern_code, operation_code, permission_code, filter_pattern_code, kind_at, pattern_at, operation_at, permission_at, filter_pattern_at}
use Rattle.wire_types.specs.declared.topic.Topic.{Topic}
use Rattle.wire_types.specs.ErrorCode.{number_of}
use Rattle.record_batch.specs.Crc.{bit_shift_by, crc_after}
use Rattle.record_batch.specs.Faults.{has_records, is_valid, first_fault}
use Rattle.record_batch.specs.Record.{records_at}
use Rattle.record_batch.specs.CombinatorLaws.{fixed_at, whole_value, sized_at}
use Rattle.wire_types.specs.Reading.{nat_at, int_at, front_at, many_at, items_at, after_count_at, null_or, after_null_count_at, varint_at, null_or_count, null_count_at, not_null, required_at, counted_at}
use Rattle.msg_data.specs.declared.isolation.Isolation.TheVariants as levels
use Rattle.msg_txn.specs.declared.end_txn.EndTxn.{EndTxn}
use Rattle.msg_txn.specs.declared.end_txn.EndTxnRequest.{EndTxnRequest}
use Rattle.msg_txn.specs.declared.end_txn.EndTxnRequest.TheVariants as versions
use Rattle.msg_acl.specs.declared.entries.BindingEntry.{BindingEntry}
use Rattle.msg_acl.specs.declared.entries.FilterEntry.{FilterEntry}
use Rattle.msg_admin.specs.declared.request.Request.{Request}
use Rattle.msg_admin.specs.declared.request.Request.TheVariants as requests
use Rattle.audit_trail.specs.declared.event.Event.TheVariants.{Ask}
use Rattle.txn_coordinator.specs.declared.transaction.TransactionState.{TransactionState}
use Rattle.txn_coordinator.specs.declared.transaction.TransactionState.TheVariants.{Empty, Ongoing, PrepareCommit}
use Rattle.txn_coordinator.specs.Coordinator.{CoordinatorValue, no_transactions}
use Rattle.group_offsets.specs.declared.event.OffsetEvent.TheVariants.{Stage}
use Rattle.group_offsets.specs.declared.group.Group.{Group}
use Rattle.broker_world.specs.World.{World, TopicValue}
use Rattle.api_dispatch.specs.Step.{reply_to}
use Rattle.api_laws.specs.ToldErrors.{all_errors}
use Rattle.api_laws.specs.ErrorTable.{epoch_error, id_errors, metadata_errors, named_errors, coordinator_errors, init_errors}
use Rattle.api_laws.specs.ErrorCases.{api_key, IsToldFor, ErrorsAreAnswered}

-- ---- who asks, and in which worlds

abbrev who : Caller
who = record { who = 97 ∷ []; host = [] }

abbrev world : ℕ → List (List ℕ) → List Numbered → List TopicValue → CoordinatorValue → List Group → World
world most supers entries topics c groups = record {
  node = record { node_id = pos 0; host = []; port = pos 0; max_batch = pos most; max_txn_timeout = pos 1000 };
  supers = supers;
  book = record { entries = entries; next = 9 };
  topics = topics;
  coordinator = c;
  groups = groups;
  moment = 0;
  events = 0;
}

-- nothing is allowed
abbrev closed : World
closed = world 1000 [] [] [] no_transactions []

-- what these bindings allow
abbrev granting : List Numbered → World
granting entries = world 1000 [] entries [] no_transactions []

-- everything is
abbrev free : List TopicValue → CoordinatorValue → List Group → World
free topics c groups = world 1000 ((97 ∷ []) ∷ []) [] topics c groups

-- there is a topic `t` with one partition
abbrev there : List TopicValue
there = record { name = 116 ∷ []; partitions = [] ∷ [] } ∷ []

-- the caller may read the group `g`, and write with the transactional id `x`
abbrev reads_group : Numbered
reads_group = record { number = 1; binding = record { kind = kinds.Group; name = 103 ∷ []; pattern = patterns.Literal; principal = 97 ∷ []; host = 42 ∷ []; operation = operations.Read; permission = permissions.Allow } }

abbrev writes_id : Numbered
writes_id = record { number = 2; binding = record { kind = kinds.TransactionalId; name = 120 ∷ []; pattern = patterns.Literal; principal = 97 ∷ []; host = 42 ∷ []; operation = operations.Write; permission = permissions.Allow } }

-- the group `g` with its member `m` in generation 1
abbrev joined_group : Option (List ℕ) → Group
joined_group assignment = record { name = 103 ∷ []; member = Some (record { id = 109 ∷ []; session_timeout = 6000; heard = 0 }); generation = pos 1; assignment = assignment; offsets = [] }

-- an offset for it is staged
abbrev staged_group : Group
staged_group = record { name = 103 ∷ []; member = None; generation = pos 1; assignment = None; offsets = Stage (pos 0) (record { topic = 116 ∷ []; index = pos 0; offset = pos 0; metadata = [] }) ∷ [] }

-- the transactional id `x` with producer 0 in epoch 0, and with partition 0 of `t` and these groups in its transaction
abbrev in_state : TransactionState → List (List ℕ) → CoordinatorValue
in_state state groups = record {
  transactions = record {
    id = 120 ∷ [];
    pair = record { producer = pos 0; epoch = pos 0 };
    timeout = 10;
    start = 0;
    state = state;
    partitions = record { topic = 116 ∷ []; index = pos 0 } ∷ [];
    groups = groups;
    kept = None;
  } ∷ [];
  given = Some (120 ∷ []) ∷ [];
  warrants = [];
}

-- producer 0 was given out to this id, or to none
abbrev given_out : List (Option (List ℕ)) → CoordinatorValue
given_out ids = record { transactions = []; given = ids; warrants = [] }

-- no batch has more than 10 bytes
abbrev narrow : List TopicValue → World
narrow topics = world 10 ((97 ∷ []) ∷ []) [] topics no_transactions []

told_for : {key number : ℕ} (w : World) (request : Request) → api_key request ≡ key → list_any (λ (error : ℤ). int_eq error (pos number)) (all_errors (reply_to w (Ask who None request))) ≡ true → IsToldFor reply_to key number
told_for w request api told = record { world = w; caller = who; request = request; api = api; told = told }

-- ---- Produce

abbrev producing : Option (List ℕ) → ℤ → Option (List ℕ) → Request
producing id acks records = requests.Produce (record { transactional_id = id; acks = acks; timeout = pos 0; topics = record { name = 116 ∷ []; partitions = record { index = pos 0; records = records } ∷ [] } ∷ [] })

-- a batch with one record, under these attributes and of this producer, and the crc of what follows
abbrev pub batch : List ℕ → ℕ → List ℕ → List ℕ
batch crc attributes producer = replicate 11 0 ++ (56 ∷ replicate 4 0 ++ (2 ∷ crc ++ (0 ∷ attributes ∷ replicate 20 0 ++ (producer ++ (0 ∷ 0 ∷ 0 ∷ 1 ∷ 12 ∷ 0 ∷ 0 ∷ 0 ∷ 1 ∷ 1 ∷ 0 ∷ [])))))

abbrev no_producer : List ℕ
no_producer = replicate 14 255

-- of no producer
abbrev pub plain_batch : List ℕ
plain_batch = batch (52 ∷ 187 ∷ 146 ∷ 115 ∷ []) 0 no_producer

-- compressed
abbrev pub packed_batch : List ℕ
packed_batch = batch (116 ∷ 171 ∷ 243 ∷ 157 ∷ []) 1 no_producer

-- with the time of its append
abbrev timed_batch : List ℕ
timed_batch = batch (63 ∷ 224 ∷ 112 ∷ 225 ∷ []) 8 no_producer

-- the first of producer 0
abbrev pub first_batch : List ℕ
first_batch = batch (92 ∷ 120 ∷ 134 ∷ 71 ∷ []) 0 (replicate 14 0)

-- of producer 0, from its sequence number 5 on
abbrev gapped_batch : List ℕ
gapped_batch = batch (168 ∷ 206 ∷ 2 ∷ 183 ∷ []) 0 (replicate 13 0 ++ 5 ∷ [])

-- of a transaction of producer 0 in epoch 1
abbrev pub other_batch : List ℕ
other_batch = batch (184 ∷ 195 ∷ 78 ∷ 157 ∷ []) 16 (replicate 9 0 ++ 1 ∷ replicate 4 0)

produces_2 : IsToldFor reply_to 0 2
unfolding number_of bit_shift_by crc_after has_records is_valid first_fault records_at fixed_at whole_value sized_at nat_at int_at front_at many_at items_at after_count_at null_or after_null_count_at varint_at null_or_count null_count_at not_null required_at counted_at
produces_2 = told_for (free there no_transactions []) (producing None (pos 1) (Some (0 ∷ []))) refl refl

produces_3 : IsToldFor reply_to 0 3
unfolding number_of
produces_3 = told_for (free [] no_transactions []) (producing None (pos 1) None) refl refl

produces_10 : IsToldFor reply_to 0 10
unfolding number_of bit_shift_by crc_after has_records is_valid first_fault records_at fixed_at whole_value sized_at nat_at int_at front_at many_at items_at after_count_at null_or after_null_count_at varint_at null_or_count null_count_at not_null required_at counted_at
produces_10 = told_for (narrow there) (producing None (pos 1) (Some plain_batch)) refl refl

produces_21 : IsToldFor reply_to 0 21
unfolding number_of
produces_21 = told_for (free there no_transactions []) (producing None (pos 5) None) refl refl

produces_29 : IsToldFor reply_to 0 29
unfolding number_of
produces_29 = told_for closed (producing None (pos 1) None) refl refl

produces_32 : IsToldFor reply_to 0 32
unfolding number_of bit_shift_by crc_after has_records is_valid first_fault records_at fixed_at whole_value sized_at nat_at int_at front_at many_at items_at after_count_at null_or after_null_count_at varint_at null_or_count null_count_at not_null required_at counted_at
produces_32 = told_for (free there no_transactions []) (producing None (pos 1) (Some timed_batch)) refl refl

produces_45 : IsToldFor reply_to 0 45
unfolding number_of bit_shift_by crc_after has_records is_valid first_fault records_at fixed_at whole_value sized_at nat_at int_at front_at many_at items_at after_count_at null_or after_null_count_at varint_at null_or_count null_count_at not_null required_at counted_at
produces_45 = told_for (free there (given_out (None ∷ [])) []) (producing None (pos 1) (Some gapped_batch)) refl refl

produces_47 : IsToldFor reply_to 0 47
unfolding number_of bit_shift_by crc_after has_records is_valid first_fault records_at fixed_at whole_value sized_at nat_at int_at front_at many_at items_at after_count_at null_or after_null_count_at varint_at null_or_count null_count_at not_null required_at counted_at
produces_47 = told_for (free there (in_state Ongoing []) []) (producing (Some (120 ∷ [])) (pos 1) (Some other_batch)) refl refl

produces_48 : IsToldFor reply_to 0 48
unfolding number_of bit_shift_by crc_after has_records is_valid first_fault records_at fixed_at whole_value sized_at nat_at int_at front_at many_at items_at after_count_at null_or after_null_count_at varint_at null_or_count null_count_at not_null required_at counted_at
produces_48 = told_for (free there (given_out (Some (120 ∷ []) ∷ [])) []) (producing None (pos 1) (Some first_batch)) refl refl

produces_49 : IsToldFor reply_to 0 49
unfolding number_of bit_shift_by crc_after has_records is_valid first_fault records_at fixed_at whole_value sized_at nat_at int_at front_at many_at items_at after_count_at null_or after_null_count_at varint_at null_or_count null_count_at not_null required_at counted_at
produces_49 = told_for (free there no_transactions []) (producing None (pos 1) (Some first_batch)) refl refl

produces_53 : IsToldFor reply_to 0 53
unfolding number_of
produces_53 = told_for closed (producing (Some (120 ∷ [])) (pos 1) None) refl refl

produces_76 : IsToldFor reply_to 0 76
unfolding number_of bit_shift_by crc_after has_records is_valid first_fault records_at fixed_at whole_value sized_at nat_at int_at front_at many_at items_at after_count_at null_or after_null_count_at varint_at null_or_count null_count_at not_null required_at counted_at
produces_76 = told_for (free there no_transactions []) (producing None (pos 1) (Some packed_batch)) refl refl

produces_87 : IsToldFor reply_to 0 87
unfolding number_of
produces_87 = told_for (free there no_transactions []) (producing None (pos 1) None) refl refl

-- ---- Fetch

abbrev fetching : ℤ → Request
fetching offset = requests.Fetch (record { replica = negsuc 0; max_wait = pos 0; min_bytes = pos 0; max_bytes = pos 100; isolation = levels.ReadUncommitted; topics = record { name = 116 ∷ []; partitions = record { index = pos 0; offset = offset; max_bytes = pos 100 } ∷ [] } ∷ [] })

fetch_1 : IsToldFor reply_to 1 1
unfolding number_of
fetch_1 = told_for (free there no_transactions []) (fetching (pos 5)) refl refl

fetch_3 : IsToldFor reply_to 1 3
unfolding number_of
fetch_3 = told_for (free [] no_transactions []) (fetching (pos 0)) refl refl

fetch_29 : IsToldFor reply_to 1 29
unfolding number_of
fetch_29 = told_for closed (fetching (pos 0)) refl refl

-- ---- ListOffsets

abbrev listing : ℤ → Request
listing timestamp = requests.ListOffsets (record { replica = negsuc 0; isolation = levels.ReadUncommitted; topics = record { name = 116 ∷ []; partitions = record { index = pos 0; timestamp = timestamp } ∷ [] } ∷ [] })

lists_3 : IsToldFor reply_to 2 3
unfolding number_of
lists_3 = told_for (free [] no_transactions []) (listing (negsuc 0)) refl refl

lists_29 : IsToldFor reply_to 2 29
unfolding number_of
lists_29 = told_for closed (listing (negsuc 0)) refl refl

lists_42 : IsToldFor reply_to 2 42
unfolding number_of
lists_42 = told_for (free there no_transactions []) (listing (pos 5)) refl refl

-- ---- Metadata

abbrev describing : Request
describing = requests.Metadata (record { topics = Some ((116 ∷ []) ∷ []) })

metadata_3 : IsToldFor reply_to 3 3
unfolding number_of
metadata_3 = told_for (free [] no_transactions []) (describing) refl refl

metadata_29 : IsToldFor reply_to 3 29
unfolding number_of
metadata_29 = told_for closed (describing) refl refl

-- ---- OffsetCommit

abbrev committing : ℤ → List ℕ → Request
committing generation member = requests.OffsetCommit (record { group = 103 ∷ []; generation = generation; member = member; retention = pos 0; topics = record { name = 116 ∷ []; partitions = record { index = pos 0; offset = pos 0; metadata = None } ∷ [] } ∷ [] })

commit_3 : IsToldFor reply_to 8 3
unfolding number_of
commit_3 = told_for (free [] no_transactions []) (committing (pos 1) (109 ∷ [])) refl refl

commit_22 : IsToldFor reply_to 8 22
unfolding number_of
commit_22 = told_for (free there no_transactions (joined_group (Some []) ∷ [])) (committing (pos 2) (109 ∷ [])) refl refl

commit_25 : IsToldFor reply_to 8 25
unfolding number_of
commit_25 = told_for (free there no_transactions (joined_group (Some []) ∷ [])) (committing (pos 1) (120 ∷ [])) refl refl

commit_27 : IsToldFor reply_to 8 27
unfolding number_of
commit_27 = told_for (free there no_transactions (joined_group None ∷ [])) (committing (pos 1) (109 ∷ [])) refl refl

commit_29 : IsToldFor reply_to 8 29
unfolding number_of
commit_29 = told_for (granting (reads_group ∷ [])) (committing (pos 1) (109 ∷ [])) refl refl

commit_30 : IsToldFor reply_to 8 30
unfolding number_of
commit_30 = told_for closed (committing (pos 1) (109 ∷ [])) refl refl

-- ---- OffsetFetch

abbrev fetching_offsets : Request
fetching_offsets = requests.OffsetFetch (record { group = 103 ∷ []; topics = Some (record { name = 116 ∷ []; partitions = pos 0 ∷ [] } ∷ []); require_stable = true })

offsets_29 : IsToldFor reply_to 9 29
unfolding number_of
offsets_29 = told_for (granting (reads_group ∷ [])) (fetching_offsets) refl refl

offsets_30 : IsToldFor reply_to 9 30
unfolding number_of
offsets_30 = told_for closed (fetching_offsets) refl refl

offsets_88 : IsToldFor reply_to 9 88
unfolding number_of
offsets_88 = told_for (free there no_transactions (staged_group ∷ [])) (fetching_offsets) refl refl

-- ---- FindCoordinator

abbrev finding : ℤ → Request
finding key_type = requests.FindCoordinator (record { key = 103 ∷ []; key_type = key_type })

finds_30 : IsToldFor reply_to 10 30
unfolding number_of
finds_30 = told_for closed (finding (pos 0)) refl refl

finds_42 : IsToldFor reply_to 10 42
unfolding number_of
finds_42 = told_for (free [] no_transactions []) (finding (pos 2)) refl refl

finds_53 : IsToldFor reply_to 10 53
unfolding number_of
finds_53 = told_for closed (finding (pos 1)) refl refl

-- ---- JoinGroup

abbrev joining : List ℕ → ℤ → List ℕ → List ℕ → Request
joining group timeout member protocol_type = requests.JoinGroup (record { group = group; session_timeout = timeout; rebalance_timeout = pos 0; member = member; protocol_type = protocol_type; protocols = record { name = []; metadata = [] } ∷ [] })

joins_23 : IsToldFor reply_to 11 23
unfolding number_of
joins_23 = told_for (free [] no_transactions []) (joining (103 ∷ []) (pos 6000) [] []) refl refl

joins_24 : IsToldFor reply_to 11 24
unfolding number_of
joins_24 = told_for (free [] no_transactions []) (joining [] (pos 6000) [] (99 ∷ [])) refl refl

joins_25 : IsToldFor reply_to 11 25
unfolding number_of
joins_25 = told_for (free [] no_transactions (joined_group (Some []) ∷ [])) (joining (103 ∷ []) (pos 6000) (120 ∷ []) (99 ∷ [])) refl refl

joins_26 : IsToldFor reply_to 11 26
unfolding number_of
joins_26 = told_for (free [] no_transactions []) (joining (103 ∷ []) (pos 0) [] (99 ∷ [])) refl refl

joins_30 : IsToldFor reply_to 11 30
unfolding number_of
joins_30 = told_for closed (joining (103 ∷ []) (pos 6000) [] (99 ∷ [])) refl refl

joins_81 : IsToldFor reply_to 11 81
unfolding number_of
joins_81 = told_for (free [] no_transactions (joined_group (Some []) ∷ [])) (joining (103 ∷ []) (pos 6000) [] (99 ∷ [])) refl refl

-- ---- Heartbeat

abbrev beating : List ℕ → ℤ → List ℕ → Request
beating group generation member = requests.Heartbeat (record { group = group; generation = generation; member = member })

beats_22 : IsToldFor reply_to 12 22
unfolding number_of
beats_22 = told_for (free [] no_transactions (joined_group (Some []) ∷ [])) (beating (103 ∷ []) (pos 2) (109 ∷ [])) refl refl

beats_24 : IsToldFor reply_to 12 24
unfolding number_of
beats_24 = told_for (free [] no_transactions []) (beating [] (pos 1) (109 ∷ [])) refl refl

beats_25 : IsToldFor reply_to 12 25
unfolding number_of
beats_25 = told_for (free [] no_transactions (joined_group (Some []) ∷ [])) (beating (103 ∷ []) (pos 1) (120 ∷ [])) refl refl

beats_30 : IsToldFor reply_to 12 30
unfolding number_of
beats_30 = told_for closed (beating (103 ∷ []) (pos 1) (109 ∷ [])) refl refl

-- ---- LeaveGroup

abbrev leaving : List ℕ → Request
leaving group = requests.LeaveGroup (record { group = group; member = 109 ∷ [] })

leaves_24 : IsToldFor reply_to 13 24
unfolding number_of
leaves_24 = told_for (free [] no_transactions []) (leaving []) refl refl

leaves_25 : IsToldFor reply_to 13 25
unfolding number_of
leaves_25 = told_for (free [] no_transactions []) (leaving (103 ∷ [])) refl refl

leaves_30 : IsToldFor reply_to 13 30
unfolding number_of
leaves_30 = told_for closed (leaving (103 ∷ [])) refl refl

-- ---- SyncGroup

abbrev syncing : List ℕ → ℤ → List ℕ → Request
syncing group generation member = requests.SyncGroup (record { group = group; generation = generation; member = member; assignments = [] })

syncs_22 : IsToldFor reply_to 14 22
unfolding number_of
syncs_22 = told_for (free [] no_transactions (joined_group (Some []) ∷ [])) (syncing (103 ∷ []) (pos 2) (109 ∷ [])) refl refl

syncs_24 : IsToldFor reply_to 14 24
unfolding number_of
syncs_24 = told_for (free [] no_transactions []) (syncing [] (pos 1) (109 ∷ [])) refl refl

syncs_25 : IsToldFor reply_to 14 25
unfolding number_of
syncs_25 = told_for (free [] no_transactions (joined_group (Some []) ∷ [])) (syncing (103 ∷ []) (pos 1) (120 ∷ [])) refl refl

syncs_30 : IsToldFor reply_to 14 30
unfolding number_of
syncs_30 = told_for closed (syncing (103 ∷ []) (pos 1) (109 ∷ [])) refl refl

-- ---- SaslHandshake

handshake_34 : IsToldFor reply_to 17 34
unfolding number_of
handshake_34 = told_for (free [] no_transactions []) (requests.SaslHandshake (record { mechanism = [] })) refl refl

-- ---- InitProducerId

abbrev initializing : Option (List ℕ) → ℤ → Request
initializing id timeout = requests.InitProducerId (record { transactional_id = id; timeout = timeout })

inits_31 : IsToldFor reply_to 22 31
unfolding number_of
inits_31 = told_for closed (initializing None (pos 10)) refl refl

inits_42 : IsToldFor reply_to 22 42
unfolding number_of
inits_42 = told_for (free [] no_transactions []) (initializing (Some []) (pos 10)) refl refl

inits_50 : IsToldFor reply_to 22 50
unfolding number_of
inits_50 = told_for (free [] no_transactions []) (initializing (Some (120 ∷ [])) (pos 0)) refl refl

inits_51 : IsToldFor reply_to 22 51
unfolding number_of
inits_51 = told_for (free [] (in_state Ongoing []) []) (initializing (Some (120 ∷ [])) (pos 10)) refl refl

inits_53 : IsToldFor reply_to 22 53
unfolding number_of
inits_53 = told_for closed (initializing (Some (120 ∷ [])) (pos 10)) refl refl

-- ---- AddPartitionsToTxn

abbrev adding : List ℕ → ℤ → List ℤ → Request
adding id epoch indices = requests.AddPartitionsToTxn (record { transactional_id = id; producer = pos 0; epoch = epoch; topics = record { name = 116 ∷ []; partitions = indices } ∷ [] })

adds_3 : IsToldFor reply_to 24 3
unfolding number_of
adds_3 = told_for (free [] no_transactions []) (adding (120 ∷ []) (pos 0) (pos 0 ∷ [])) refl refl

adds_29 : IsToldFor reply_to 24 29
unfolding number_of
adds_29 = told_for (granting (writes_id ∷ [])) (adding (120 ∷ []) (pos 0) (pos 0 ∷ [])) refl refl

adds_42 : IsToldFor reply_to 24 42
unfolding number_of
adds_42 = told_for (free there no_transactions []) (adding [] (pos 0) (pos 0 ∷ [])) refl refl

adds_47 : IsToldFor reply_to 24 47
unfolding number_of
adds_47 = told_for (free there (in_state Ongoing []) []) (adding (120 ∷ []) (pos 1) (pos 0 ∷ [])) refl refl

adds_49 : IsToldFor reply_to 24 49
unfolding number_of
adds_49 = told_for (free there no_transactions []) (adding (120 ∷ []) (pos 0) (pos 0 ∷ [])) refl refl

adds_51 : IsToldFor reply_to 24 51
unfolding number_of
adds_51 = told_for (free there (in_state PrepareCommit []) []) (adding (120 ∷ []) (pos 0) (pos 0 ∷ [])) refl refl

adds_53 : IsToldFor reply_to 24 53
unfolding number_of
adds_53 = told_for closed (adding (120 ∷ []) (pos 0) (pos 0 ∷ [])) refl refl

adds_55 : IsToldFor reply_to 24 55
unfolding number_of
adds_55 = told_for (free there no_transactions []) (adding (120 ∷ []) (pos 0) (pos 0 ∷ pos 7 ∷ [])) refl refl

-- ---- AddOffsetsToTxn

abbrev adding_group : List ℕ → ℤ → Request
adding_group id epoch = requests.AddOffsetsToTxn (record { transactional_id = id; producer = pos 0; epoch = epoch; group = 103 ∷ [] })

groups_30 : IsToldFor reply_to 25 30
unfolding number_of
groups_30 = told_for (granting (writes_id ∷ [])) (adding_group (120 ∷ []) (pos 0)) refl refl

groups_42 : IsToldFor reply_to 25 42
unfolding number_of
groups_42 = told_for (free [] no_transactions []) (adding_group [] (pos 0)) refl refl

groups_47 : IsToldFor reply_to 25 47
unfolding number_of
groups_47 = told_for (free [] (in_state Ongoing []) []) (adding_group (120 ∷ []) (pos 1)) refl refl

groups_49 : IsToldFor reply_to 25 49
unfolding number_of
groups_49 = told_for (free [] no_transactions []) (adding_group (120 ∷ []) (pos 0)) refl refl

groups_51 : IsToldFor reply_to 25 51
unfolding number_of
groups_51 = told_for (free [] (in_state PrepareCommit []) []) (adding_group (120 ∷ []) (pos 0)) refl refl

groups_53 : IsToldFor reply_to 25 53
unfolding number_of
groups_53 = told_for closed (adding_group (120 ∷ []) (pos 0)) refl refl

-- ---- EndTxn

abbrev committing_with : List ℕ → ℤ → EndTxn
committing_with id epoch = record { transactional_id = id; producer = pos 0; epoch = epoch; committed = true }

ends_42 : IsToldFor reply_to 26 42
unfolding number_of
ends_42 = told_for (free [] no_transactions []) (requests.EndTxn (versions.Version0 (committing_with [] (pos 0)))) refl refl

ends_47 : IsToldFor reply_to 26 47
unfolding number_of
ends_47 = told_for (free [] (in_state Ongoing []) []) (requests.EndTxn (versions.Version0 (committing_with (120 ∷ []) (pos 1)))) refl refl

ends_48 : IsToldFor reply_to 26 48
unfolding number_of
ends_48 = told_for (free [] (in_state Empty []) []) (requests.EndTxn (versions.Version0 (committing_with (120 ∷ []) (pos 0)))) refl refl

ends_49 : IsToldFor reply_to 26 49
unfolding number_of
ends_49 = told_for (free [] no_transactions []) (requests.EndTxn (versions.Version0 (committing_with (120 ∷ []) (pos 0)))) refl refl

ends_51 : IsToldFor reply_to 26 51
unfolding number_of
ends_51 = told_for (free [] (in_state PrepareCommit []) []) (requests.EndTxn (versions.Version0 (committing_with (120 ∷ []) (pos 0)))) refl refl

ends_53 : IsToldFor reply_to 26 53
unfolding number_of
ends_53 = told_for closed (requests.EndTxn (versions.Version0 (committing_with (120 ∷ []) (pos 0)))) refl refl

ends_90 : IsToldFor reply_to 26 90
unfolding number_of
ends_90 = told_for (free [] (in_state Ongoing []) []) (requests.EndTxn (versions.Version2 (committing_with (120 ∷ []) (pos 1)))) refl refl

-- ---- TxnOffsetCommit

abbrev staging : ℤ → ℤ → List ℕ → Request
staging epoch generation member = requests.TxnOffsetCommit (record { transactional_id = 120 ∷ []; group = 103 ∷ []; producer = pos 0; epoch = epoch; generation = generation; member = member; instance = None; topics = record { name = 116 ∷ []; partitions = record { index = pos 0; offset = pos 0; leader_epoch = pos 0; metadata = None } ∷ [] } ∷ [] })

stages_3 : IsToldFor reply_to 28 3
unfolding number_of
stages_3 = told_for (free [] no_transactions []) (staging (pos 0) (pos 1) (109 ∷ [])) refl refl

stages_22 : IsToldFor reply_to 28 22
unfolding number_of
stages_22 = told_for (free there (in_state Ongoing ((103 ∷ []) ∷ [])) (joined_group (Some []) ∷ [])) (staging (pos 0) (pos 2) (109 ∷ [])) refl refl

stages_25 : IsToldFor reply_to 28 25
unfolding number_of
stages_25 = told_for (free there (in_state Ongoing ((103 ∷ []) ∷ [])) (joined_group (Some []) ∷ [])) (staging (pos 0) (pos 1) (120 ∷ [])) refl refl

stages_29 : IsToldFor reply_to 28 29
unfolding number_of
stages_29 = told_for (granting (writes_id ∷ reads_group ∷ [])) (staging (pos 0) (pos 1) (109 ∷ [])) refl refl

stages_30 : IsToldFor reply_to 28 30
unfolding number_of
stages_30 = told_for (granting (writes_id ∷ [])) (staging (pos 0) (pos 1) (109 ∷ [])) refl refl

stages_47 : IsToldFor reply_to 28 47
unfolding number_of
stages_47 = told_for (free there (in_state Ongoing ((103 ∷ []) ∷ [])) (joined_group (Some []) ∷ [])) (staging (pos 1) (pos 1) (109 ∷ [])) refl refl

stages_48 : IsToldFor reply_to 28 48
unfolding number_of
stages_48 = told_for (free there (in_state Empty []) (joined_group (Some []) ∷ [])) (staging (pos 0) (pos 1) (109 ∷ [])) refl refl

stages_49 : IsToldFor reply_to 28 49
unfolding number_of
stages_49 = told_for (free there no_transactions []) (staging (pos 0) (pos 1) (109 ∷ [])) refl refl

stages_53 : IsToldFor reply_to 28 53
unfolding number_of
stages_53 = told_for closed (staging (pos 0) (pos 1) (109 ∷ [])) refl refl

-- ---- DescribeAcls

-- there is no kind 99
abbrev no_filter : FilterEntry
no_filter = record { kind = pos 99; name = None; pattern = pos 1; principal = None; host = None; operation = pos 1; permission = pos 1 }

describes_31 : IsToldFor reply_to 29 31
unfolding number_of
describes_31 = told_for closed (requests.DescribeAcls (record { filter = no_filter })) refl refl

describes_42 : IsToldFor reply_to 29 42
unfolding number_of kind_code kind_at pattern_code pattern_at operation_code operation_at permission_code permission_at filter_pattern_code filter_pattern_at
describes_42 = told_for (free [] no_transactions []) (requests.DescribeAcls (record { filter = no_filter })) refl refl

-- ---- CreateAcls

abbrev no_binding : BindingEntry
no_binding = record { kind = pos 99; name = []; pattern = pos 3; principal = []; host = []; operation = pos 3; permission = pos 3 }

creates_31 : IsToldFor reply_to 30 31
unfolding number_of
creates_31 = told_for closed (requests.CreateAcls (record { creations = no_binding ∷ [] })) refl refl

creates_42 : IsToldFor reply_to 30 42
unfolding number_of kind_code kind_at pattern_code pattern_at operation_code operation_at permission_code permission_at filter_pattern_code filter_pattern_at
creates_42 = told_for (free [] no_transactions []) (requests.CreateAcls (record { creations = no_binding ∷ [] })) refl refl

-- ---- DeleteAcls

deletes_31 : IsToldFor reply_to 31 31
unfolding number_of
deletes_31 = told_for closed (requests.DeleteAcls (record { filters = no_filter ∷ [] })) refl refl

deletes_42 : IsToldFor reply_to 31 42
unfolding number_of kind_code kind_at pattern_code pattern_at operation_code operation_at permission_code permission_at filter_pattern_code filter_pattern_at
deletes_42 = told_for (free [] no_transactions []) (requests.DeleteAcls (record { filters = no_filter ∷ [] })) refl refl

-- ---- SaslAuthenticate

authenticate_34 : IsToldFor reply_to 36 34
unfolding number_of
authenticate_34 = told_for (free [] no_transactions []) (requests.SaslAuthenticate (record { auth = [] })) refl refl

-- ---- any request

of_id : (id : Option (List ℕ)) → AllByRecursion (IsToldFor reply_to 0) (id_errors id)
of_id None = tt
of_id (Some id) = (produces_53, tt)

of_names : (topics : Option (List (List ℕ))) → AllByRecursion (IsToldFor reply_to 3) (metadata_errors topics)
of_names None = tt
of_names (Some names) = (metadata_3, (metadata_29, tt))

of_offsets : (topics : Option (List (Topic ℤ))) → AllByRecursion (IsToldFor reply_to 9) (named_errors topics)
of_offsets None = tt
of_offsets (Some ts) = (offsets_29, tt)

of_key : (key_type : ℤ) → AllByRecursion (IsToldFor reply_to 10) (coordinator_errors key_type)
of_key key_type = by_tests (int_eq key_type (pos 0)) (int_eq key_type (pos 1)) where
  by_tests : (a b : Bool) → AllByRecursion (IsToldFor reply_to 10) (cond a (30 ∷ []) (cond b (53 ∷ []) (42 ∷ [])))
  by_tests true b = (finds_30, tt)
  by_tests false true = (finds_53, tt)
  by_tests false false = (finds_42, tt)

of_init : (id : Option (List ℕ)) → AllByRecursion (IsToldFor reply_to 22) (init_errors id)
of_init None = (inits_31, tt)
of_init (Some id) = (inits_42, (inits_50, (inits_51, (inits_53, tt))))

of_version : (r : EndTxnRequest) → AllByRecursion (IsToldFor reply_to 26) (epoch_error r ∷ [])
of_version (versions.Version0 r) = (ends_47, tt)
of_version (versions.Version1 r) = (ends_47, tt)
of_version (versions.Version2 r) = (ends_90, tt)
of_version (versions.Version3 r) = (ends_90, tt)
of_version (versions.Version4 r) = (ends_90, tt)
of_version (versions.Version5 r) = (ends_90, tt)

pub errors_are_answered : ErrorsAreAnswered reply_to
errors_are_answered (requests.Produce r) = (produces_2, (produces_3, (produces_10, (produces_21, (produces_29, (produces_32, (produces_45, (produces_47, (produces_48, (produces_49, (produces_76, (produces_87, of_id r.transactional_id))))))))))))
errors_are_answered (requests.Fetch r) = (fetch_1, (fetch_3, (fetch_29, tt)))
errors_are_answered (requests.ListOffsets r) = (lists_3, (lists_29, (lists_42, tt)))
errors_are_answered (requests.Metadata r) = of_names r.topics
errors_are_answered (requests.OffsetCommit r) = (commit_3, (commit_22, (commit_25, (commit_27, (commit_29, (commit_30, tt))))))
errors_are_answered (requests.OffsetFetch r) = (offsets_30, (offsets_88, of_offsets r.topics))
errors_are_answered (requests.FindCoordinator r) = of_key r.key_type
errors_are_answered (requests.JoinGroup r) = (joins_23, (joins_24, (joins_25, (joins_26, (joins_30, (joins_81, tt))))))
errors_are_answered (requests.Heartbeat r) = (beats_22, (beats_24, (beats_25, (beats_30, tt))))
errors_are_answered (requests.LeaveGroup r) = (leaves_24, (leaves_25, (leaves_30, tt)))
errors_are_answered (requests.SyncGroup r) = (syncs_22, (syncs_24, (syncs_25, (syncs_30, tt))))
errors_are_answered (requests.SaslHandshake r) = (handshake_34, tt)
errors_are_answered requests.ApiVersions = tt
errors_are_answered (requests.InitProducerId r) = of_init r.transactional_id
errors_are_answered (requests.AddPartitionsToTxn r) = (adds_3, (adds_29, (adds_42, (adds_47, (adds_49, (adds_51, (adds_53, (adds_55, tt))))))))
errors_are_answered (requests.AddOffsetsToTxn r) = (groups_30, (groups_42, (groups_47, (groups_49, (groups_51, (groups_53, tt))))))
errors_are_answered (requests.EndTxn r) = (ends_42, (ends_48, (ends_49, (ends_51, (ends_53, of_version r)))))
errors_are_answered (requests.TxnOffsetCommit r) = (stages_3, (stages_22, (stages_25, (stages_29, (stages_30, (stages_47, (stages_48, (stages_49, (stages_53, tt)))))))))
errors_are_answered (requests.DescribeAcls r) = (describes_31, (describes_42, tt))
errors_are_answered (requests.CreateAcls r) = (creates_31, (creates_42, tt))
errors_are_answered (requests.DeleteAcls r) = (deletes_31, (deletes_42, tt))
errors_are_answered (requests.SaslAuthenticate r) = (authenticate_34, tt)
