-- Flat trees whose tokens are evaluated.
use Rattle.std.specs.FinMap as finite
use Rattle.std.specs.Prelude.{List}
use Rattle.std.specs.Coded.{Coded, coded_list, coded_ℕ}
use Rattle.group_inherit.specs.Codes.{coded_flattened}
use Rattle.alias_ref.specs.Laws.{Flat}
use Rattle.transforms.specs.Config.{Settings}
use Rattle.token_cells.specs.TokenCell.{TokenCell}

-- a flat tree, and what its tokens come to, in path order
pub record EvaluatedTree : Type 0 where
  pub tokens : Flat
  pub cells : List TokenCell

-- the code of a flat tree, by which a proof tells it from others
abbrev pub coded_flat : Coded Flat
coded_flat = finite.code (coded_list (coded_list coded_ℕ)) coded_flattened

-- a tree that was evaluated under these settings
pub record KnownTree : Type 0 where
  pub settings : Settings
  pub tree : EvaluatedTree
