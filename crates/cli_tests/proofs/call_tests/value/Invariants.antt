use Rattle.cli_tests.proofs.call_tests.value.Given as goal

abbrev pub ghosts-read_by : goal.ghosts-read_by
ghosts-read_by a = record { name = a.page.name; parts = a.page.parts }
