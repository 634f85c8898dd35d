-- Texts end to end, and where they end.
use Rattle.std.specs.Prelude.{◌≡◌, ℕ, zero, suc, ◌≤◌, List, [], ◌∷◌, slice_index, slice_range}

-- the texts that end at these places, the first of which starts here
abbrev pub texts_from : ℕ → List ℕ → List ℕ → List (List ℕ)
texts_from start [] bytes = []
texts_from start (end ∷ ends) bytes = slice_range bytes start end ∷ texts_from end ends bytes

-- where the i-th of them starts: where the one before it ends
abbrev pub start_from : ℕ → List ℕ → ℕ → ℕ
start_from start ends zero = start
start_from start ends (suc i) = slice_index ends i

-- no text ends before it starts, and the last one ends with the bytes
abbrev pub AreEnds : ℕ → List ℕ → ℕ → Type 0
AreEnds start [] len = start ≡ len
AreEnds start (end ∷ ends) len = (start ≤ end) × AreEnds end ends len
