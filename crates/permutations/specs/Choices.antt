-- The choices of a resolver document, by the places of their picks: all of them, in which order, and how many.
use Rattle.std.specs.Prelude.{◌≡◌, ℕ, ◌+◌, ◌*◌, List, [], ◌∷◌, length, Some, slice_get}
use Rattle.resolver_doc.specs.Document.{ItemData}
use Rattle.permutations.specs.Permutation.{Pick, picks, choices}

-- how many choices there are: the product of how many picks each item has
abbrev pub choice_count : List ItemData → ℕ
choice_count [] = 1
choice_count (item ∷ items) = length (picks item) * choice_count items

-- the place of a choice among all, by the places of its picks, each among those of its item: the first item weighs most
abbrev pub place_of : List ItemData → List ℕ → ℕ
place_of [] ks = 0
place_of (item ∷ items) [] = 0
place_of (item ∷ items) (k ∷ ks) = k * choice_count items + place_of items ks

-- these are picks at these places, one of each item
abbrev pub ArePicksAt : List ItemData → List ℕ → List Pick → Type 0
ArePicksAt [] [] [] = Unit {0}
ArePicksAt [] [] (p ∷ ps) = ⊥
ArePicksAt [] (k ∷ ks) ps = ⊥
ArePicksAt (item ∷ items) [] ps = ⊥
ArePicksAt (item ∷ items) (k ∷ ks) [] = ⊥
ArePicksAt (item ∷ items) (k ∷ ks) (p ∷ ps) = (slice_get (picks item) k ≡ Some p) × ArePicksAt items ks ps

-- one pick of each item is a choice, and stands at the place that these picks have
abbrev pub PicksAreChoices : Type 0
PicksAreChoices = (items : List ItemData) (ks : List ℕ) (ps : List Pick) → ArePicksAt items ks ps
    → slice_get (choices items) (place_of items ks) ≡ Some ps

-- each choice is one pick of each item, and stands at the place that these picks have
abbrev pub ChoicesArePicks : Type 0
ChoicesArePicks = (items : List ItemData) (i : ℕ) (ps : List Pick) → slice_get (choices items) i ≡ Some ps
    → (ks : List ℕ) × ArePicksAt items ks ps × (i ≡ place_of items ks)

-- there are as many choices as the product says
abbrev pub ChoicesAreCounted : Type 0
ChoicesAreCounted = (items : List ItemData) → length (choices items) ≡ choice_count items
