-- Names in memory.
use Rattle.std.specs.Prelude.{List, ℕ, [], ◌∷◌}
use Rattle.transforms.specs.declared.frag.Held.{Held}
use Rattle.transforms.specs.declared.frag.Held.TheVariants.{No, One, Several}

-- the list of them
abbrev pub listed : Held → List (List ℕ)
listed No = []
listed (One name) = name.now ∷ []
listed (Several names) = names
