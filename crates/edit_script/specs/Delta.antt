-- How the outputs changed from one commit to the next, and what the changes make of outputs.
use Rattle.std.specs.Prelude.{◌≡◌, ℕ, List, [], ◌∷◌, Option, Some, None, if◌then◌else◌, get_or}
use Rattle.std.specs.FinMap as map
use Rattle.std.specs.Str.{bytes_eq}
use Rattle.tk_io.specs.FilesData.{FilesData}
use Rattle.tk_io.specs.Order.{text_cmp}

-- from path to its new bytes, or to none where the output is held no more
abbrev pub Delta : Type 0
Delta = map.FinMap text_cmp (Option (List ℕ))

-- a path, with its new bytes, or with none where the output is held no more
abbrev pub ChangeData : Type 0
ChangeData = List ℕ × Option (List ℕ)

-- what is said of a path that had the first and has the second: nothing where its bytes are the same
abbrev pub change_of : Option (List ℕ) → Option (List ℕ) → Option (Option (List ℕ))
change_of None None = None
change_of None (Some new) = Some (Some new)
change_of (Some old) None = Some None
change_of (Some old) (Some new) = if bytes_eq old new then None else Some (Some new)

-- the delta says of each path how it changed
abbrev pub IsDelta : FilesData → FilesData → Delta → Type 0
IsDelta old new delta = (path : List ℕ) → map.get delta path ≡ change_of (map.get old path) (map.get new path)

-- outputs after a change
abbrev pub changed : FilesData → ChangeData → FilesData
changed held (path, None) = map.remove held path
changed held (path, Some bytes) = map.insert held path bytes

-- outputs after changes, one after another
abbrev pub applied : List ChangeData → FilesData → FilesData
applied [] held = held
applied (c ∷ cs) held = applied cs (changed held c)

-- outputs after the changes of deltas, one after another
abbrev pub replayed : List Delta → FilesData → FilesData
replayed [] held = held
replayed (d ∷ ds) held = replayed ds (applied (map.entries d) held)

-- each delta leads from what was held before to the next outputs
abbrev pub AreDeltas : FilesData → List FilesData → List Delta → Type 0
AreDeltas before [] [] = Unit {0}
AreDeltas before [] (d ∷ ds) = ⊥
AreDeltas before (o ∷ os) [] = ⊥
AreDeltas before (o ∷ os) (d ∷ ds) = IsDelta before o d × AreDeltas o os ds

-- what is held after the k-th of these outputs, counted from 1, and before the first of them
abbrev pub held_at : FilesData → List FilesData → ℕ → FilesData
held_at before os k = get_or (before ∷ os) k before
