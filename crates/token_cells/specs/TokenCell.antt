-- What a token comes to.
use Rattle.std.specs.Prelude.{List}
use Rattle.name_path.specs.declared.place.Place.{Place}
use Rattle.transforms.specs.Frag.{Frag}
use Rattle.refusals.specs.declared.rule.CellRule.{CellRule}

-- The first rule that it breaks, the place where it does, which may be in another token, and the ring of references, in which each place leads to the
-- next and the last to the first; for other rules it is empty. Or what it gives to CSS, Android, Swift and JSON. It holds no offset, so that it
-- stays right where its file is moved.
pub data TokenCell : Type 0 where
  Refused : (rule : CellRule) (place : Place) (ring : List Place) → TokenCell
  Made : (css android ios json : Frag) → TokenCell
