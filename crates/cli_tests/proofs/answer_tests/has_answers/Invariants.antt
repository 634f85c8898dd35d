use Rattle.cli_tests.proofs.answer_tests.has_answers.Given as goal

abbrev pub ghosts-answers_by : goal.ghosts-answers_by
ghosts-answers_by a = record { name = a.page.name; parts = a.page.parts }
