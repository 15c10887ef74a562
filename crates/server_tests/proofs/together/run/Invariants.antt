use Rattle.server_tests.proofs.together.run.Given as goal

abbrev pub ghosts-run_at-L-DeskLedger : goal.ghosts-run_at-L-DeskLedger
ghosts-run_at-L-DeskLedger g a = record { settings = a.core.settings }

abbrev pub ghosts-run_at-L-Ledger : goal.ghosts-run_at-L-Ledger
ghosts-run_at-L-Ledger g a = record { name = a.blank.name; parts = a.blank.parts }
