-- Wrong rules that read what another tenant has, or write it, are refuted, each in a worked case.
use Rattle.std.proofs.Common.{◌≡◌, ℕ, ℤ, pos, negsuc, Bool, true, false, List, [], ◌∷◌, map, length, Option, Some, None, refl, codes as bytes, ap}
use Rattle.std.specs.Str.{bytes_eq}
use Rattle.acl_binding.specs.declared.words.Kind.TheVariants as kinds
use Rattle.acl_binding.specs.declared.words.Operation.TheVariants as operations
use Rattle.acl_binding.specs.declared.words.Pattern.TheVariants as patterns
use Rattle.acl_binding.specs.declared.words.Permission.TheVariants as permissions
use Rattle.acl_binding.specs.declared.binding.Binding.{Binding}
use Rattle.acl_binding.specs.Book.{BookValue}
use Rattle.acl_binding.specs.WireNumbers.{kind_at, pattern_at, operation_at, permission_at, filter_pattern_at, kind_code, pattern_code, operation_code, permission_code, filter_pattern_code}
use Rattle.authorizer.specs.declared.answer.Refusal.{Refusal}
use Rattle.wire_types.specs.ErrorCode.{number_of}
use Rattle.record_batch.specs.Crc.{bit_shift_by, crc_after}
use Rattle.record_batch.specs.Faults.{has_records, is_valid, first_fault}
use Rattle.record_batch.specs.Record.{records_at}
use Rattle.record_batch.specs.CombinatorLaws.{fixed_at, whole_value, sized_at}
use Rattle.wire_types.specs.Reading.{nat_at, int_at, front_at, many_at, items_at, after_count_at, null_or, after_null_count_at, varint_at, null_or_count, null_count_at, not_null, required_at, counted_at}
use Rattle.msg_data.specs.declared.isolation.Isolation.TheVariants.{ReadUncommitted}
use Rattle.msg_data.specs.declared.metadata.TopicInfo.{TopicInfo}
use Rattle.msg_data.specs.declared.metadata.MetadataReply.{MetadataReply}
use Rattle.msg_data.specs.declared.fetch.FetchRequest.{FetchRequest}
use Rattle.msg_data.specs.declared.list_offsets.ListOffsetsRequest.{ListOffsetsRequest}
use Rattle.msg_data.specs.declared.produce.ProduceRequest.{ProduceRequest}
use Rattle.msg_group.specs.declared.offset_fetch.FetchedOffset.{FetchedOffset}
use Rattle.msg_group.specs.declared.offset_fetch.OffsetFetchRequest.{OffsetFetchRequest}
use Rattle.msg_txn.specs.declared.add_offsets.AddOffsetsToTxnRequest.{AddOffsetsToTxnRequest}
use Rattle.msg_txn.specs.declared.txn_offset_commit.TxnOffsetCommitRequest.{TxnOffsetCommitRequest}
use Rattle.msg_acl.specs.declared.entries.BindingEntry.{BindingEntry}
use Rattle.msg_admin.specs.declared.reply.Reply.{Reply}
use Rattle.msg_admin.specs.declared.reply.Reply.TheVariants as replies
use Rattle.walk.specs.Headline.{element_at}
use Rattle.group_offsets.specs.declared.event.OffsetEvent.TheVariants.{Put}
use Rattle.group_offsets.specs.declared.group.Group.{Group}
use Rattle.broker_world.specs.World.{World, TopicValue, LogValue}
use Rattle.group_handlers.specs.Members.{join_group_outcome}
use Rattle.group_handlers.specs.OffsetFetch.{offset_fetch_outcome}
use Rattle.txn_handlers.specs.AddOffsets.{add_offsets_outcome}
use Rattle.txn_handlers.specs.TxnOffsetCommit.{txn_offset_commit_outcome}
use Rattle.acl_handlers.specs.CreateAcls.{create_acls_outcome}
use Rattle.acl_handlers.specs.DescribeAcls.{describe_acls_outcome}
use Rattle.api_laws.specs.Tenants.{SameBase, DependsOnGrants}
use Rattle.api_laws.specs.DataTenants.{ProduceKeepsTheRest, ProduceKeepsOtherPartitions, ProduceDependsOnGrants, FetchDependsOnGrants, ListOffsetsDependsOnGrants}
use Rattle.api_laws.specs.GroupLaws.{GroupsDependOnGrants, GroupsKeepTheRest}
use Rattle.api_laws.specs.StagingLaws.{StagingDependsOnGrants, StagingKeepsTheRest}
use Rattle.api_laws.specs.AclLaws.{AclsDependOnTheBook, AclsKeepTopics}
use Rattle.api_laws.specs.ToldErrors.{PartitionAt, error_at, errors_itself}
use Rattle.api_laws.specs.BareAnswers.{offsets_in, part_at}
use Rattle.api_laws.specs.Wrong.{metadata_of_everybody, metadata_telling_missing, fetching_unasked, fetching_telling_missing, listing_unasked, producing_unasked, producing_to_the_first, fetching_offsets_unasked, joining_unasked, joining_alone, adding_groups_unasked, staging_unasked, staging_alone, describing_topics_there, creating_for_topics_there, creating_topics}
use Rattle.api_laws.proofs.ErrorCases.{plain_batch}
use Rattle.api_laws.proofs.Wrong.{w, root, ann, any_entry}
use Rattle.api_laws.proofs.WrongReads.{a, from, latest}
use Rattle.api_laws.proofs.WrongTransactions.{unasked, count, x, open_x, unrecorded_x, same_but_x, joins}

-- ---- the same broker without a topic

abbrev bare : World
bare = record w { topics = [] }

same_but_topics : SameBase bare w
same_but_topics = record { node = refl; rules = refl; moment = refl; events = refl; given = refl }

pub not_of_everybody : ¬ DependsOnGrants metadata_of_everybody
not_of_everybody law =
    let clash : ◌≡◌ {A = ℕ} 0 1 = ap (λ (m : MetadataReply). length m.topics) (law bare w ann (record { topics = None }) same_but_topics (record { names = refl; topics = tt })).0 in cc

pub not_telling_missing : ¬ DependsOnGrants metadata_telling_missing
unfolding number_of
not_telling_missing law =
    let clash : pos 3 ∷ [] ≡ pos 29 ∷ [] = ap (λ (m : MetadataReply). map (λ (t : TopicInfo). number_of t.error) m.topics) (law bare w ann (record { topics = Some (a ∷ []) }) same_but_topics ((λ yes. absurd (unasked yes)), tt)).0 in cc

abbrev error_told : Reply → Option ℤ
error_told r = error_at r (PartitionAt 0 0)

abbrev fetches : FetchRequest
fetches = record { replica = negsuc 0; max_wait = pos 0; min_bytes = pos 1; max_bytes = pos 100; isolation = ReadUncommitted; topics = record { name = a; partitions = from (pos 0) ∷ [] } ∷ [] }

pub not_fetching_unasked : ¬ FetchDependsOnGrants fetching_unasked
unfolding number_of
not_fetching_unasked law =
    let clash : ◌≡◌ {A = Option ℤ} (Some (pos 3)) (Some (pos 0)) = ap error_told (law bare w ann fetches same_but_topics ((((λ yes. absurd (unasked yes)), tt), tt), tt)).reply in cc

pub not_fetching_missing : ¬ FetchDependsOnGrants fetching_telling_missing
unfolding number_of
not_fetching_missing law =
    let clash : ◌≡◌ {A = Option ℤ} None (Some (pos 29)) = ap error_told (law bare w ann fetches same_but_topics ((((λ yes. absurd (unasked yes)), tt), tt), tt)).reply in cc

abbrev lists : ListOffsetsRequest
lists = record { replica = negsuc 0; isolation = ReadUncommitted; topics = record { name = a; partitions = latest ∷ [] } ∷ [] }

pub not_listing_unasked : ¬ ListOffsetsDependsOnGrants listing_unasked
unfolding number_of
not_listing_unasked law =
    let clash : ◌≡◌ {A = Option ℤ} (Some (pos 3)) (Some (pos 0)) = ap error_told (law bare w ann lists same_but_topics ((((λ yes. absurd (unasked yes)), tt), tt), tt)).reply in cc

-- ---- Produce

abbrev produces : ℤ → Option (List ℕ) → ProduceRequest
produces index records = record { transactional_id = None; acks = pos 1; timeout = pos 0; topics = record { name = a; partitions = record { index = index; records = records } ∷ [] } ∷ [] }

pub not_producing_unasked : ¬ ProduceDependsOnGrants producing_unasked
unfolding number_of
not_producing_unasked law =
    let clash : ◌≡◌ {A = Option ℤ} (Some (pos 3)) (Some (pos 87)) = ap error_told (law bare w ann (produces (pos 0) None) same_but_topics ((((λ yes. absurd (unasked yes)), tt), tt), tt)).reply in cc

-- two partitions without a batch
abbrev empty : World
empty = record w { topics = record { name = a; partitions = [] ∷ [] ∷ [] } ∷ [] }

some_none : (r : Refusal) → Some r ≡ None → ⊥
some_none r h = let clash : ◌≡◌ {A = Option Refusal} (Some r) None = h in cc

length_of_first : List LogValue → ℕ
length_of_first [] = 0
length_of_first (log ∷ logs) = length log

written : Option TopicValue → ℕ
written None = 0
written (Some t) = length_of_first t.partitions

pub not_produced_unasked : ¬ ProduceKeepsTheRest producing_unasked
unfolding written length_of_first bit_shift_by crc_after has_records is_valid first_fault records_at fixed_at whole_value sized_at nat_at int_at front_at many_at items_at after_count_at null_or after_null_count_at varint_at null_or_count null_count_at not_null required_at counted_at
not_produced_unasked law =
    let clash : ◌≡◌ {A = ℕ} 1 0 = ap written (law empty ann (produces (pos 0) (Some plain_batch)) a (λ h. some_none _ h)) in cc

log_length : Option LogValue → ℕ
log_length None = 0
log_length (Some log) = length log

pub not_to_the_first : ¬ ProduceKeepsOtherPartitions producing_to_the_first
unfolding log_length bit_shift_by crc_after has_records is_valid first_fault records_at fixed_at whole_value sized_at nat_at int_at front_at many_at items_at after_count_at null_or after_null_count_at varint_at null_or_count null_count_at not_null required_at counted_at
not_to_the_first law =
    let clash : ◌≡◌ {A = ℕ} 1 0 = ap log_length (law empty root (produces (pos 1) (Some plain_batch)) a (pos 0) (((λ granted same at. absurd (let other : pos 1 ≡ pos 0 = at in cc)), tt), tt)) in cc

-- ---- groups: `g` with a member and an offset that was committed, and `h`

abbrev joined : List ℕ → Group
joined name = record { name = name; member = Some (record { id = bytes "m"; session_timeout = 10000; heard = 0 }); generation = pos 1; assignment = None; offsets = Put (record { topic = a; index = pos 0; offset = pos 5; metadata = [] }) ∷ [] }

abbrev grouped : List ℕ → World
grouped name = record w { groups = joined name ∷ [] }

same_but_groups : SameBase (grouped (bytes "g")) w
same_but_groups = record { node = refl; rules = refl; moment = refl; events = refl; given = refl }

abbrev fetches_offsets : OffsetFetchRequest
fetches_offsets = record { group = bytes "g"; topics = Some (record { name = a; partitions = pos 0 ∷ [] } ∷ []); require_stable = false }

offset_at : Option FetchedOffset → ℤ
offset_at None = pos 0
offset_at (Some o) = o.offset

pub not_offsets_unasked : ¬ GroupsDependOnGrants join_group_outcome fetching_offsets_unasked
unfolding offset_at
not_offsets_unasked law =
    let clash : pos 5 ≡ negsuc 0 = ap (λ (r : Reply). offset_at (part_at (element_at (offsets_in r) 0) 0)) (law.fetches (grouped (bytes "g")) w ann fetches_offsets same_but_groups ((λ yes. absurd (unasked yes)), tt) tt).reply in cc

pub not_joining_unasked : ¬ GroupsDependOnGrants joining_unasked offset_fetch_outcome
unfolding number_of
not_joining_unasked law =
    let clash : pos 81 ∷ [] ≡ pos 0 ∷ [] = ap errors_itself (law.joins (grouped (bytes "g")) w ann joins same_but_groups ((λ yes. absurd (unasked yes)), tt)).reply in cc

is_begun : Option Group → Bool
is_begun None = false
is_begun (Some g) = true

other_group : bytes "h" ≡ bytes "g" → ⊥
other_group h = let clash : false ≡ true = ap (bytes_eq (bytes "g")) h in cc

pub not_joining_alone : ¬ GroupsKeepTheRest joining_alone
unfolding is_begun
not_joining_alone law = let clash : false ≡ true = ap is_begun ((law.joins (grouped (bytes "h")) root joins).others (bytes "h") other_group) in cc

pub not_joined_unasked : ¬ GroupsKeepTheRest joining_unasked
not_joined_unasked law = let clash : ◌≡◌ {A = ℕ} 0 1 = ap count (law.refused_join w ann joins _ refl).refusals in cc

-- ---- offsets of transactions

abbrev adds_group : AddOffsetsToTxnRequest
adds_group = record { transactional_id = x; producer = pos 0; epoch = pos 3; group = bytes "g" }

abbrev stages : TxnOffsetCommitRequest
stages = record { transactional_id = x; group = bytes "g"; producer = pos 0; epoch = pos 3; generation = negsuc 0; member = []; instance = None; topics = record { name = a; partitions = record { index = pos 0; offset = pos 5; leader_epoch = negsuc 0; metadata = None } ∷ [] } ∷ [] }

pub not_groups_unasked : ¬ StagingDependsOnGrants adding_groups_unasked txn_offset_commit_outcome
unfolding number_of
not_groups_unasked law =
    let clash : pos 0 ∷ [] ≡ pos 49 ∷ [] = ap errors_itself (law.adds open_x unrecorded_x ann adds_group same_but_x ((λ yes. absurd (unasked yes)), ((λ yes. absurd (unasked yes)), tt))).reply in cc

pub not_staging_unasked : ¬ StagingDependsOnGrants add_offsets_outcome staging_unasked
unfolding number_of
not_staging_unasked law =
    let clash : ◌≡◌ {A = Option ℤ} (Some (pos 3)) (Some (pos 49)) = ap error_told (law.stages bare w ann stages same_but_topics ((((λ yes. absurd (unasked yes)), ((λ yes. absurd (unasked yes)), ((λ yes. absurd (unasked yes)), tt))), tt), tt)).reply in cc

pub not_staging_alone : ¬ StagingKeepsTheRest add_offsets_outcome staging_alone
unfolding is_begun
not_staging_alone law = let clash : false ≡ true = ap is_begun ((law.stages (grouped (bytes "h")) root stages).others (bytes "h") other_group) in cc

pub not_added_unasked : ¬ StagingKeepsTheRest adding_groups_unasked txn_offset_commit_outcome
not_added_unasked law = let clash : ◌≡◌ {A = ℕ} 0 1 = ap count (law.refused_add w ann adds_group _ refl).refusals in cc

-- ---- ACLs: a binding of the topic `a`, with and without the topic

abbrev reads_a : Binding
reads_a = record { kind = kinds.Topic; name = a; pattern = patterns.Literal; principal = bytes "User:ann"; host = bytes "*"; operation = operations.Read; permission = permissions.Allow }

abbrev reads_book : BookValue
reads_book = record { entries = record { number = 1; binding = reads_a } ∷ []; next = 2 }

same_book : SameBase (record bare { book = reads_book }) (record w { book = reads_book })
same_book = record { node = refl; rules = refl; moment = refl; events = refl; given = refl }

resources_told : Reply → ℕ
resources_told (replies.DescribeAcls reply) = length reply.resources
resources_told reply = 0

pub not_topics_there : ¬ AclsDependOnTheBook describing_topics_there create_acls_outcome
unfolding resources_told kind_at operation_at permission_at filter_pattern_at filter_pattern_code kind_code pattern_code operation_code permission_code
not_topics_there law =
    let clash : ◌≡◌ {A = ℕ} 0 1 = ap resources_told (law.describe (record bare { book = reads_book }) (record w { book = reads_book }) root (record { filter = any_entry }) same_book).answer.reply in cc

abbrev entry_of_a : BindingEntry
entry_of_a = record { kind = pos 2; name = a; pattern = pos 3; principal = bytes "User:ann"; host = bytes "*"; operation = pos 3; permission = pos 3 }

pub not_for_topics_there : ¬ AclsDependOnTheBook describe_acls_outcome creating_for_topics_there
unfolding kind_at pattern_at operation_at permission_at kind_code pattern_code operation_code permission_code
not_for_topics_there law =
    let clash : ◌≡◌ {A = ℕ} 0 1 = ap (λ (b : BookValue). length b.entries) (law.create bare w root (record { creations = entry_of_a ∷ [] }) same_but_topics).book in cc

pub not_creating_topics : ¬ AclsKeepTopics creating_topics
unfolding kind_at pattern_at operation_at permission_at kind_code pattern_code operation_code permission_code
not_creating_topics law =
    let clash : ◌≡◌ {A = ℕ} 2 1 = ap (λ (ts : List TopicValue). length ts) (law.create w root (record { creations = entry_of_a ∷ [] })) in cc
