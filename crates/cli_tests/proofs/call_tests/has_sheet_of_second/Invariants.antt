use Rattle.cli_tests.proofs.call_tests.has_sheet_of_second.Given as goal

abbrev pub ghosts-tokens_by : goal.ghosts-tokens_by
ghosts-tokens_by a = record { name = a.page.name; parts = a.page.parts }
