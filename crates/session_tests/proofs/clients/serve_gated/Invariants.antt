use Rattle.session_tests.proofs.clients.serve_gated.Given as goal

abbrev pub ghosts-serve_on-L-DeskLedger : goal.ghosts-serve_on-L-DeskLedger
ghosts-serve_on-L-DeskLedger g a = record { settings = a.core.settings }

abbrev pub ghosts-serve_on-L-Ledger : goal.ghosts-serve_on-L-Ledger
ghosts-serve_on-L-Ledger g a = record { name = a.blank.name; parts = a.blank.parts }
