use Rattle.server_tests.proofs.strangers.serve_site.Given as goal

abbrev pub ghosts-serve_at-L-DeskLedger : goal.ghosts-serve_at-L-DeskLedger
ghosts-serve_at-L-DeskLedger g a = record { settings = a.core.settings }

abbrev pub ghosts-serve_at-L-Ledger : goal.ghosts-serve_at-L-Ledger
ghosts-serve_at-L-Ledger g a = record { name = a.blank.name; parts = a.blank.parts }
