use Rattle.server_tests.proofs.settled.first_receipts.Given as goal

abbrev pub ghosts-first_receipts_at-L-DeskLedger : goal.ghosts-first_receipts_at-L-DeskLedger
ghosts-first_receipts_at-L-DeskLedger g a = record { settings = a.core.settings }

abbrev pub ghosts-first_receipts_at-L-Ledger : goal.ghosts-first_receipts_at-L-Ledger
ghosts-first_receipts_at-L-Ledger g a = record { name = a.blank.name; parts = a.blank.parts }
