use Rattle.server_tests.proofs.settled.settle_each.Given as goal

abbrev pub ghosts-settle_each_at-L-DeskLedger : goal.ghosts-settle_each_at-L-DeskLedger
ghosts-settle_each_at-L-DeskLedger g a = record { settings = a.core.settings }

abbrev pub ghosts-settle_each_at-L-Ledger : goal.ghosts-settle_each_at-L-Ledger
ghosts-settle_each_at-L-Ledger g a = record { name = a.blank.name; parts = a.blank.parts }
