use Rattle.theme_css.proofs.building.build_anew.Given as goal

abbrev pub ghosts-counted-L-Ledger : goal.ghosts-counted-L-Ledger
ghosts-counted-L-Ledger a = record { name = a.parses.name; parts = a.parses.parts }

abbrev pub ghosts-counted-M-Ledger : goal.ghosts-counted-M-Ledger
ghosts-counted-M-Ledger a = record { name = a.merges.name; parts = a.merges.parts }

abbrev pub ghosts-counted-N-Ledger : goal.ghosts-counted-N-Ledger
ghosts-counted-N-Ledger a = record { name = a.evals.name; parts = a.evals.parts }
