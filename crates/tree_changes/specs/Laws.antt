-- Laws over the definitions.
use Rattle.std.specs.Prelude.{◌≡◌, ◌⊎◌, ◌↔◌, List, true, Some}
use Rattle.std.specs.FinMap as finite
use Rattle.ring.specs.Lists.{In}
use Rattle.group_inherit.specs.Flattening.{Flattened}
use Rattle.alias_ref.specs.Laws.{Flat}
use Rattle.alias_ref.specs.Refs.{refs_of}
use Rattle.alias_ref.specs.Written.{Step}
use Rattle.tree_changes.specs.Reached.{is_changed, IsReached}

-- the token at the path refers to a path that is reached
pub record RefersToReached (old new : Flat) (path : List Step) : Type 0 where
  pub token : Flattened
  pub there : finite.get new path ≡ Some token
  pub next : List Step
  pub refers : In next (refs_of token.def)
  pub reached : IsReached old new next

-- a path is reached exactly where it is changed or refers to one that is reached
abbrev pub ReachedByOne : Type 0
ReachedByOne = (old new : Flat) (path : List Step)
    → IsReached old new path ↔ ((is_changed old new path ≡ true) ⊎ RefersToReached old new path)

-- in the tree that is kept none is reached
abbrev pub NoneReached : Type 0
NoneReached = (flat : Flat) (path : List Step) → IsReached flat flat path → ⊥
