-- Breaks as they are printed, each once, with the names of the permutations that have it.
use Rattle.std.specs.Prelude.{ℕ, List, [], ◌∷◌, ◌++◌, cond, codes, flat_map}
use Rattle.std.specs.List.{list_any}
use Rattle.std.specs.Str.{bytes_eq}
use Rattle.refusals.specs.Refusal.{quoted_line}

-- what is printed of a break, and the names of the permutations that have it
pub record ToldBreak : Type 0 where
  pub text : List ℕ
  pub names : List (List ℕ)

abbrev pub told_break : List ℕ → List (List ℕ) → ToldBreak
told_break text names = record { text = text; names = names }

-- the names behind the break that reads so; none where there is no such break
abbrev pub names_of : List ToldBreak → List ℕ → List (List ℕ)
names_of [] text = []
names_of (t ∷ ts) text = cond (bytes_eq text t.text) t.names (names_of ts text)

-- these names with one more, where it is another
abbrev pub with_name : List (List ℕ) → List ℕ → List (List ℕ)
with_name names name = cond (list_any (bytes_eq name) names) names (names ++ name ∷ [])

-- a break of the permutation of this name: the name is added to the break that reads so, or else it is the last one
abbrev pub with_break : List ToldBreak → List ℕ → List ℕ → List ToldBreak
with_break [] name text = told_break text (name ∷ []) ∷ []
with_break (t ∷ ts) name text = cond (bytes_eq text t.text) (told_break t.text (with_name t.names name) ∷ ts) (t ∷ with_break ts name text)

-- its breaks, one after another
abbrev pub with_breaks : List ToldBreak → List ℕ → List (List ℕ) → List ToldBreak
with_breaks told name [] = told
with_breaks told name (text ∷ texts) = with_breaks (with_break told name text) name texts

-- The text of a list.

-- a line for each permutation, and the lines of the break
abbrev pub entry_text : ToldBreak → List ℕ
entry_text t = flat_map (quoted_line (codes "in ")) t.names ++ t.text

-- .. behind an empty line
abbrev pub next_text : ToldBreak → List ℕ
next_text t = codes "\n" ++ entry_text t

abbrev pub listing_text : List ToldBreak → List ℕ
listing_text [] = []
listing_text (t ∷ ts) = entry_text t ++ flat_map next_text ts
