-- How far the parts of a place were walked.
use Rattle.std.specs.Prelude.{◌≡◌, ℕ, List, ◌++◌, Bool}
use Rattle.name_path.specs.declared.link.Link.{Link}
use Rattle.name_path.specs.declared.place.Place.{Place}
use Rattle.json_span.specs.PlainView.{ValueEntry}
use Rattle.alias_ref.specs.Written.{WrittenPlaces, Parts, steps_of}
use Rattle.alias_ref.specs.Meaning.{EachMeans}
use Rattle.alias_ref.specs.Visits.{visits_each, walked}
use Rattle.alias_ref.specs.Kinds.{Kinds}
use Rattle.alias_ref.specs.inner.Seen.{Clean}
use Rattle.alias_ref.specs.inner.Spots.{HasGrownEach}

-- the first parts were walked without a break, and mean these entries; the rest is still to come
pub record PartsWalked (T : WrittenPlaces) (own : Bool) (kinds groups : Kinds) (branch : List Place) (p : Place) (all rest : Parts) (n m : ℕ) (es : List ValueEntry) (old new : List Link) : Type 0 where
  pub front : Parts
  pub split : all ≡ front ++ rest
  pub clean : Clean T n m (visits_each (walked T branch) p (steps_of front))
  pub means : EachMeans T p (steps_of front) es
  pub links : HasGrownEach own T kinds groups p (steps_of front) old new
