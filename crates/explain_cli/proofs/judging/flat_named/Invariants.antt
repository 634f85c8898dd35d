use Rattle.explain_cli.proofs.judging.flat_named.Given as goal

abbrev pub ghosts-flat_counted-L-Ledger : goal.ghosts-flat_counted-L-Ledger
ghosts-flat_counted-L-Ledger a = record { name = a.parses.name; parts = a.parses.parts }

abbrev pub ghosts-flat_counted-M-Ledger : goal.ghosts-flat_counted-M-Ledger
ghosts-flat_counted-M-Ledger a = record { name = a.merges.name; parts = a.merges.parts }
