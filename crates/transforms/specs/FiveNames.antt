-- The names of a typography's five values: what stands after the name of its token.
use Rattle.std.specs.Prelude.{ℕ, List, [], ◌∷◌, ◌++◌, codes, map}
use Rattle.ring.specs.Lists.{AreApart}
use Rattle.transforms.specs.PlatformName.{joint}
use Rattle.transforms.specs.declared.platform.Platform.{Platform}

-- two words after joints
abbrev pub two_words : Platform → List ℕ → List ℕ → List ℕ
two_words platform first second = joint platform ∷ (first ++ (joint platform ∷ second))

abbrev pub family_end : Platform → List ℕ
family_end platform = two_words platform (codes "font") (codes "family")

abbrev pub size_end : Platform → List ℕ
size_end platform = two_words platform (codes "font") (codes "size")

abbrev pub weight_end : Platform → List ℕ
weight_end platform = two_words platform (codes "font") (codes "weight")

abbrev pub spacing_end : Platform → List ℕ
spacing_end platform = two_words platform (codes "letter") (codes "spacing")

abbrev pub height_end : Platform → List ℕ
height_end platform = two_words platform (codes "line") (codes "height")

-- the five names of a token of the name
abbrev pub five_names : Platform → List ℕ → List (List ℕ)
five_names platform name =
    map (λ ending. name ++ ending)
    (family_end platform ∷ size_end platform ∷ weight_end platform ∷ spacing_end platform ∷ height_end platform ∷ [])

-- they differ
abbrev pub FiveNamesDiffer : Type 0
FiveNamesDiffer = (platform : Platform) (name : List ℕ) → AreApart (five_names platform name)
