-- What the definitions tell as they read.
use Rattle.std.proofs.Common.{◌≡◌, [], map, Option, Some, None, refl, ap}
use Rattle.std.specs.Prelude.{unwrap_or}
use Rattle.txn_coordinator.specs.declared.marker.PendingMarker.{PendingMarker}
use Rattle.txn_coordinator.specs.Warrants.{next_warrant}
use Rattle.group_offsets.specs.declared.group.Group.{Group as GroupValue}
use Rattle.group_offsets.specs.Group.{fresh_group}
use Rattle.broker_world.specs.World.{World}
use Rattle.txn_handlers.specs.Marks.{mark_by}
use Rattle.api_dispatch.specs.Step.{refusals_of}
use Rattle.broker_laws.specs.Entries.{event_entry, log_entries, entries_in}
use Rattle.broker_laws.specs.Laws.{EntriesAreTheLog, MarksAreNotRefused}

pub entries_are_the_log : EntriesAreTheLog entries_in
entries_are_the_log = record {
  there = λ w p log e. ap log_entries e;
  missing = λ w p e. ap log_entries e;
  begun = λ w name g e. ap (λ (o : Option GroupValue). map event_entry (unwrap_or o (fresh_group name)).offsets) e;
  fresh = λ w name e. ap (λ (o : Option GroupValue). map event_entry (unwrap_or o (fresh_group name)).offsets) e;
}

by_front : (w : World) (o : Option PendingMarker) → (mark_by w o).refusals ≡ []
by_front w None = refl
by_front w (Some m) = refl

pub marks_are_not_refused : MarksAreNotRefused refusals_of
marks_are_not_refused w = by_front w (next_warrant w.coordinator)
