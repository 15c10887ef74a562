-- Wrong rules of the whole broker, each of which a law refutes.
use Rattle.std.specs.Prelude.{◌+◌, true, List, [], ◌∷◌, map, Option, Some, None, codes}
use Rattle.acl_binding.specs.Book.{empty_book}
use Rattle.acl_binding.specs.declared.question.Caller.{Caller}
use Rattle.authorizer.specs.declared.answer.Refusal.{Refusal}
use Rattle.msg_txn.specs.declared.end_txn.EndTxnRequest.TheVariants as versions
use Rattle.msg_admin.specs.declared.request.Request.TheVariants.{LeaveGroup, EndTxn, TxnOffsetCommit}
use Rattle.audit_trail.specs.declared.event.Event.TheVariants.{Ask, Mark, Tick}
use Rattle.txn_coordinator.specs.declared.marker.PendingMarker.{PendingMarker}
use Rattle.txn_coordinator.specs.declared.target.Target.{Target}
use Rattle.txn_coordinator.specs.declared.target.Target.TheVariants.{Partition, Group}
use Rattle.txn_coordinator.specs.Warrants.{next_warrant}
use Rattle.group_offsets.specs.declared.event.OffsetEvent.{OffsetEvent}
use Rattle.group_offsets.specs.declared.event.OffsetEvent.TheVariants.{Put, Stage, Decide}
use Rattle.group_offsets.specs.declared.group.Group.{Group as GroupValue}
use Rattle.group_offsets.specs.Group.{fresh_group}
use Rattle.group_offsets.specs.Groups.{groups_with}
use Rattle.txn_coordinator.specs.Expiry.{expire}
use Rattle.broker_world.specs.First.{first_world}
use Rattle.broker_world.specs.World.{World, TopicValue, LogValue}
use Rattle.api_dispatch.specs.Step.{step, refusals_of}
use Rattle.broker_laws.specs.FirstWorld.{FirstRule}
use Rattle.txn_laws.specs.Small.{Entry}
use Rattle.broker_laws.specs.Entries.{entries_in}
use Rattle.broker_laws.specs.Rules.{WorldRule, RefusalsRule}

-- ---- the first world

-- `User:*` is a super user from the beginning on
abbrev pub first_for_everybody : FirstRule
first_for_everybody s = record (first_world s) { supers = codes "User:*" ∷ s.supers }

-- the ACLs of the settings are left out
abbrev pub first_without_acls : FirstRule
first_without_acls s = record (first_world s) { book = empty_book }

-- ---- ticks

-- the clock is what was told, though that be earlier
abbrev pub step_going_back : WorldRule
step_going_back w (Tick told) = record (step w (Tick told)) { moment = told }
step_going_back w e = step w e

-- no member lapses
abbrev pub step_without_lapses : WorldRule
step_without_lapses w (Tick told) = record (step w (Tick told)) { groups = w.groups }
step_without_lapses w e = step w e

-- a transaction is aborted at the end of its time, and not after it
abbrev pub step_ending_early : WorldRule
step_ending_early w (Tick told) =
    record (step w (Tick told)) {
      coordinator = expire w.coordinator ((step w (Tick told)).moment + 1);
    }
step_ending_early w e = step w e

-- ---- logs

abbrev pub without_first_batch : LogValue → LogValue
without_first_batch [] = []
without_first_batch (b ∷ log) = log

-- a tick deletes the first batch of each log, as if its time were over
abbrev pub step_with_retention : WorldRule
step_with_retention w (Tick told) =
    record (step w (Tick told)) {
      topics = map
          (λ (t : TopicValue). record t { partitions = map without_first_batch t.partitions })
          w.topics;
    }
step_with_retention w e = step w e

-- ---- groups

-- a LeaveGroup removes the group, with the offsets that were committed
abbrev pub step_removing_groups : WorldRule
step_removing_groups w (Ask caller client (LeaveGroup r)) =
    record (step w (Ask caller client (LeaveGroup r))) {
      groups = groups_with w.groups (fresh_group r.group);
    }
step_removing_groups w e = step w e

abbrev pub committed_at_once : OffsetEvent → OffsetEvent
committed_at_once (Put o) = Put o
committed_at_once (Stage producer o) = Put o
committed_at_once (Decide producer outcome) = Decide producer outcome

-- a TxnOffsetCommit commits its offsets at once, and waits for no EndTxn
abbrev pub step_committing_at_once : WorldRule
step_committing_at_once w (Ask caller client (TxnOffsetCommit r)) =
    record (step w (Ask caller client (TxnOffsetCommit r))) {
      groups = map
          (λ (g : GroupValue). record g { offsets = map committed_at_once g.offsets })
          (step w (Ask caller client (TxnOffsetCommit r))).groups;
    }
step_committing_at_once w e = step w e

-- ---- marks

abbrev pub anonymous : Caller
anonymous = record { who = codes "User:ANONYMOUS"; host = codes "*" }

-- what an EndTxn of nobody in particular would be refused
abbrev pub refusals_of_marker : World → Option PendingMarker → List Refusal
refusals_of_marker w None = []
refusals_of_marker w (Some m) =
    refusals_of w
    (Ask anonymous None
    (EndTxn
    (versions.Version1
    (record {
      transactional_id = m.id;
      producer = m.pair.producer;
      epoch = m.pair.epoch;
      committed = true;
    }))))

-- a mark asks for the transactional id whose marker it writes
abbrev pub refusals_of_marks : RefusalsRule
refusals_of_marks w Mark = refusals_of_marker w (next_warrant w.coordinator)
refusals_of_marks w e = refusals_of w e

-- ---- what the laws of transactions see

-- nothing is seen of a group
abbrev pub entries_of_partitions_alone : World → Target → List Entry
entries_of_partitions_alone w (Partition p) = entries_in w (Partition p)
entries_of_partitions_alone w (Group g) = []
