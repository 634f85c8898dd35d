use Rattle.theme_css.proofs.building.resolver_tree.Given as goal

abbrev pub ghosts-counted_tree : goal.ghosts-counted_tree
ghosts-counted_tree a = record { name = a.page.name; parts = a.page.parts }
