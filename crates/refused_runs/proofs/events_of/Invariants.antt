use denote.Text.{Utf8}
use denote.Shadow.{shadow}
use Rattle.std.specs.List.{AllByRecursion}
use Rattle.request_handlers.specs.Bounds.{EventFits}
use Rattle.refused_runs.proofs.events_of.Given as goal

abbrev pub invariant-loop : goal.invariant-loop
invariant-loop l = shadow (Utf8 l.rest) × AllByRecursion EventFits l.events.items
