use Rattle.explain_cli.proofs.judging.evaluated.Given as goal

abbrev pub ghosts-cells_counted : goal.ghosts-cells_counted
ghosts-cells_counted a = record { name = a.evals.name; parts = a.evals.parts }
