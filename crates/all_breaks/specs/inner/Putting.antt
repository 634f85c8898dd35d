-- Names that are put behind a break.
use Rattle.std.specs.Prelude.{ℕ, List, [], ◌∷◌, cond}
use Rattle.std.specs.Str.{bytes_eq}
use Rattle.all_breaks.specs.Told.{ToldBreak, told_break}

-- in place of those of the break that reads so, or else it is the last one
abbrev pub with_names : List ToldBreak → List ℕ → List (List ℕ) → List ToldBreak
with_names [] text names = told_break text names ∷ []
with_names (t ∷ ts) text names = cond (bytes_eq text t.text) (told_break t.text names ∷ ts) (t ∷ with_names ts text names)
