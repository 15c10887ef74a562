use Rattle.server_tests.proofs.served.rested.Given as goal

abbrev pub ghosts-rested_on-L-DeskLedger : goal.ghosts-rested_on-L-DeskLedger
ghosts-rested_on-L-DeskLedger g a = record { settings = a.core.settings }

abbrev pub ghosts-rested_on-L-Ledger : goal.ghosts-rested_on-L-Ledger
ghosts-rested_on-L-Ledger g a = record { name = a.blank.name; parts = a.blank.parts }
