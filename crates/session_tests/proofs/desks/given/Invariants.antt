use Rattle.session_tests.proofs.desks.given.Given as goal

abbrev pub ghosts-given_on-L-DeskLedger : goal.ghosts-given_on-L-DeskLedger
ghosts-given_on-L-DeskLedger g a = record { settings = a.core.settings }

abbrev pub ghosts-given_on-L-Ledger : goal.ghosts-given_on-L-Ledger
ghosts-given_on-L-Ledger g a = record { name = a.blank.name; parts = a.blank.parts }
