-- A tick of the clock: the moment goes on, members that were not heard of for too long are let go
-- (Kafka protocol guide, session_timeout), and then transactions whose time is over are aborted
-- (KIP-98, 'transaction.timeout.ms').
use Rattle.std.specs.Prelude.{ℕ, [], length, map}
use Rattle.msg_admin.specs.declared.reply.Reply.TheVariants as replies
use Rattle.txn_coordinator.specs.Expiry.{expire}
use Rattle.group_offsets.specs.Group.{without_lapsed}
use Rattle.broker_world.specs.World.{World}
use Rattle.broker_world.specs.HandlerResult.{HandlerResult}
use Rattle.broker_world.specs.Clock.{moment_after}

abbrev pub at_moment : World → ℕ → World
at_moment w moment =
    record w {
      moment = moment;
      groups = map (without_lapsed moment) w.groups;
      coordinator = expire w.coordinator moment;
    }

abbrev pub ticked_outcome : World → HandlerResult
ticked_outcome w =
    record { world = w; reply = replies.Ticked (length w.coordinator.warrants); refusals = [] }

abbrev pub tick_outcome : World → ℕ → HandlerResult
tick_outcome w told = ticked_outcome (at_moment w (moment_after w.moment told))
