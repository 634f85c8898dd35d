-- The text of a list of breaks, one after another.
use Rattle.std.specs.Prelude.{ℕ, ◌==◌, List, [], cond, Option, Some, None}
use Rattle.std.specs.List.{slice_get}
use Rattle.all_breaks.specs.Told.{ToldBreak, entry_text, next_text}

-- a break at this place
abbrev pub placed_text : ℕ → Option ToldBreak → List ℕ
placed_text i None = []
placed_text i (Some t) = cond (i == 0) (entry_text t) (next_text t)

abbrev pub text_at : List ToldBreak → ℕ → List ℕ
text_at told i = placed_text i (slice_get told i)
