-- Which tokens of a flat tree are reached from a change: those that are not what they were in an earlier tree, and those
-- whose references lead to one.
use Rattle.std.specs.Prelude.{◌≡◌, List, Bool, true}
use Rattle.alias_ref.specs.Laws.{Flat}
use Rattle.alias_ref.specs.Unchanged.{raw_in, differ, Reaches}
use Rattle.alias_ref.specs.Written.{Step}

-- Whether a path is changed: a token stands there in one of the trees alone, or its source, or the kind or the mark of
-- its groups, is another. Neither its file nor its offsets count.
abbrev pub is_changed : Flat → Flat → List Step → Bool
is_changed old new path = differ (raw_in old path) (raw_in new path)

-- A walk of none or more references of the new tree leads from the path to a changed one. A reference leads to the path
-- that it names, also where no token stands there.
pub record IsReached (old new : Flat) (path : List Step) : Type 0 where
  pub end : List Step
  pub walk : Reaches new path end
  pub changed : is_changed old new end ≡ true
