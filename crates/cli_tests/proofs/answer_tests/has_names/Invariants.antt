use Rattle.cli_tests.proofs.answer_tests.has_names.Given as goal

abbrev pub ghosts-names_by : goal.ghosts-names_by
ghosts-names_by a = record { name = a.page.name; parts = a.page.parts }
