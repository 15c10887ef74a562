use Rattle.std.proofs.Common.{◌≡◌, true, false, sym, rules}
use Rattle.walk.specs.Woven.{has_part}
use Rattle.txn_handlers.proofs.Added.{no_part, nothing_added, nothing_told}
use Rattle.txn_handlers.proofs.add_partitions.add_all.Goals as goal

pub returns-then-not-has_part-clause-coordinator : goal.returns-then-not-has_part-clause-coordinator
returns-then-not-has_part-clause-coordinator c =
    let none : has_part c.args.request.now.topics ≡ false = search rules in
    sym (nothing_added c.args.coordinator.now c.args.moment c.args.request.now (no_part c.args.request.now.topics none))

pub returns-then-not-has_part-clause-code : goal.returns-then-not-has_part-clause-code
returns-then-not-has_part-clause-code c =
    let none : has_part c.args.request.now.topics ≡ false = search rules in
    sym (nothing_told c.args.coordinator.now c.args.moment c.args.request.now (no_part c.args.request.now.topics none))

pub granted-permit-requires-clause-granted : goal.granted-permit-requires-clause-granted
granted-permit-requires-clause-granted c =
    let some : has_part c.args.request.now.topics ≡ true = search rules in
    c.requires.granted some
