-- Small histories whose answers are known from outside.
use Rattle.std.proofs.Common.{◌≡◌, ℕ, ℤ, pos, negsuc, List, [], ◌∷◌, ◌++◌, map, Some, None, true, false, refl}
use Rattle.std.specs.Prelude.{Ok, Err, codes, decimal}
use Rattle.record_batch.specs.declared.transaction_result.TransactionResult.TheVariants.{Abort, Commit}
use Rattle.wire_types.specs.declared.error_code.ErrorCode.TheVariants.{GroupMaxSizeReached, RebalanceInProgress, IllegalGeneration, InvalidSessionTimeout, UnknownMemberId, UnstableOffsetCommit}
use Rattle.msg_group.specs.declared.join_group.JoinGroupRequest.{JoinGroupRequest}
use Rattle.msg_group.specs.declared.join_group.OfferedProtocol.{OfferedProtocol}
use Rattle.msg_group.specs.declared.sync_group.SyncGroupRequest.{SyncGroupRequest}
use Rattle.group_offsets.specs.declared.event.PartitionOffset.{PartitionOffset}
use Rattle.group_offsets.specs.declared.group.Group.{Group}
use Rattle.group_offsets.specs.GroupTransition.{answer_of}
use Rattle.group_offsets.specs.Group.{without_lapsed}
use Rattle.group_offsets.specs.Offsets.{offset_of, fetch_result}
use Rattle.group_offsets.specs.Groups.{group_of, groups_after, join, sync, beat, commit, stage, decide}

abbrev group : List ℕ
group = codes "g"

abbrev range : OfferedProtocol
range = record { name = codes "range"; metadata = codes "a" }

abbrev asks : JoinGroupRequest
asks = record {
  group = group;
  session_timeout = pos 6000;
  rebalance_timeout = pos 0;
  member = [];
  protocol_type = codes "consumer";
  protocols = range ∷ record { name = codes "roundrobin"; metadata = [] } ∷ [];
}

abbrev syncs : SyncGroupRequest
syncs = record { group = group; generation = pos 1; member = codes "m-0"; assignments = [] }

abbrev at_topic : ℤ → PartitionOffset
at_topic offset = record { topic = codes "t"; index = pos 0; offset = offset; metadata = [] }

-- ---- a member and the next one

begins : answer_of (join [] asks 0 0) ≡ Ok (record { generation = pos 1; member = codes "m-" ++ decimal 0; protocol = range })
begins = refl

too_short : answer_of (join [] (record asks { session_timeout = pos 5999 }) 0 0) ≡ Err InvalidSessionTimeout
too_short = refl

-- the group once its member is in, which has this id
abbrev begun_by : List ℕ → List Group
begun_by id = record {
  name = group;
  member = Some (record { id = id; session_timeout = 6000; heard = 0 });
  generation = pos 1;
  assignment = None;
  offsets = [];
} ∷ []

joined : groups_after [] (join [] asks 0 0) ≡ begun_by (codes "m-" ++ decimal 0)
joined = refl

abbrev begun : List Group
begun = begun_by (codes "m-0")

second : answer_of (join begun asks 1 0) ≡ Err GroupMaxSizeReached
second = refl

before_sync : answer_of (commit begun group (pos 1) (codes "m-0") (at_topic (pos 3))) ≡ Err RebalanceInProgress
before_sync = refl

old_generation : answer_of (commit begun group (pos 0) (codes "m-0") (at_topic (pos 3))) ≡ Err IllegalGeneration
old_generation = refl

assigned_nothing : answer_of (sync begun syncs 0) ≡ Ok []
assigned_nothing = refl

abbrev in_sync : List Group
in_sync = groups_after begun (sync begun syncs 0)

after_sync : answer_of (commit in_sync group (pos 1) (codes "m-0") (at_topic (pos 3))) ≡ Ok tt
after_sync = refl

abbrev committed : List Group
committed = groups_after in_sync (commit in_sync group (pos 1) (codes "m-0") (at_topic (pos 3)))

in_time : map (without_lapsed 6000) committed ≡ committed
in_time = refl

abbrev lapsed : List Group
lapsed = map (without_lapsed 6001) committed

gone : answer_of (beat lapsed (record { group = group; generation = pos 1; member = codes "m-0" }) 6001) ≡ Err UnknownMemberId
gone = refl

next : answer_of (join lapsed asks 7 6001) ≡ Ok (record { generation = pos 2; member = codes "m-" ++ decimal 7; protocol = range })
next = refl

still_committed : offset_of (group_of lapsed group).offsets (codes "t") (pos 0) ≡ Some (at_topic (pos 3))
still_committed = refl

-- ---- a staged offset

abbrev staged : List Group
staged = groups_after [] (stage [] group (pos 0) (negsuc 0) [] (at_topic (pos 5)))

unstable : fetch_result (group_of staged group).offsets true (codes "t") (pos 0) ≡ Err UnstableOffsetCommit
unstable = refl

unseen : fetch_result (group_of staged group).offsets false (codes "t") (pos 0) ≡ Ok None
unseen = refl

abbrev overtaken : List Group
overtaken = groups_after staged (commit staged group (negsuc 0) [] (at_topic (pos 9)))

shows : fetch_result (group_of (groups_after overtaken (decide overtaken group (pos 0) Commit)) group).offsets true (codes "t") (pos 0) ≡ Ok (Some (at_topic (pos 5)))
shows = refl

of_another : fetch_result (group_of (groups_after overtaken (decide overtaken group (pos 1) Commit)) group).offsets true (codes "t") (pos 0) ≡ Err UnstableOffsetCommit
of_another = refl

aborted : fetch_result (group_of (groups_after overtaken (decide overtaken group (pos 0) Abort)) group).offsets true (codes "t") (pos 0) ≡ Ok (Some (at_topic (pos 9)))
aborted = refl
