-- How two lists of outputs in path order are gone over together, path by path.
use Rattle.std.specs.Prelude.{◌≡◌, ◌<◌, ◌≤◌, ℕ, ◌+◌, T, List, [], ◌∷◌, ◌++◌, Some, None, length, drop}
use Rattle.std.specs.Borrow.{Bor}
use Rattle.std.specs.FinMap.{find, is_sorted}
use Rattle.std.specs.String.{string_bytes}
use Rattle.std.specs.declared.string.String.{String}
use Rattle.tk_io.specs.Order.{text_cmp}
use Rattle.tk_io.specs.View.{entries_view}
use Rattle.edit_script.specs.Delta.{ChangeData, change_of}
use Rattle.edit_script.specs.declared.merging.Found.{Found}
use Rattle.edit_script.specs.declared.merging.Found.TheVariants as found

-- the entries of outputs
abbrev pub Entries : Type 0
Entries = List (List ℕ × List ℕ)

-- a path and bytes that are lent
abbrev pub lent_view : Bor (List ℕ) × Bor (List ℕ) → List ℕ × List ℕ
lent_view e = (e.0.now, e.1.now)

abbrev pub outputs_view : {Z : Type 0} → List (String Z × List ℕ) → Entries
outputs_view entries = entries_view string_bytes (λ body. body) entries

-- the changes rise, and say of each path how it changed
pub record AreChanges (old new : Entries) (cs : List ChangeData) : Type 0 where
  pub rise : T (is_sorted text_cmp cs)
  pub each : (path : List ℕ) → find text_cmp path cs ≡ change_of (find text_cmp path old) (find text_cmp path new)

-- these are the changes at the first path, which so many entries of each list have
pub record IsStep (old new : Entries) (cs : List ChangeData) (olds news : ℕ) : Type 0 where
  pub some : 0 < olds + news
  pub old_bound : olds ≤ length old
  pub new_bound : news ≤ length new
  pub whole : T (is_sorted text_cmp old) → T (is_sorted text_cmp new) → (ds : List ChangeData) → AreChanges (drop olds old) (drop news new) ds → AreChanges old new (cs ++ ds)

-- the changes that were found at a path: one or none
abbrev pub found_changes : Found → List ChangeData
found_changes found.Same = []
found_changes (found.Gone path) = (path.now, None) ∷ []
found_changes (found.Written path bytes) = (path.now, Some bytes.now) ∷ []
