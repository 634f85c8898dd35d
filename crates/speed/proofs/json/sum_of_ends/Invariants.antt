use Rattle.speed.proofs.json.sum_of_ends.Given as goal

abbrev pub ghosts-counted : goal.ghosts-counted
ghosts-counted a = record { name = a.page.name; parts = a.page.parts }
