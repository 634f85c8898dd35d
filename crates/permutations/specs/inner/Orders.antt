-- Orders of the sets of a document.
use Rattle.std.specs.Prelude.{ℕ, List, [], ◌<◌, length}
use Rattle.ring.specs.Order.{Follows}
use Rattle.ring.specs.Lists.{In, AreApart}
use Rattle.resolver_doc.specs.Document.{SetData}
use Rattle.resolver_doc.specs.Rings.{set_needs}

-- a topological order: each set once, after those that it names
pub record IsSetOrder (sets : List SetData) (order : List ℕ) : Type 0 where
  pub follows : Follows (set_needs sets) [] order
  pub apart : AreApart order
  pub all : (v : ℕ) → v < length sets → In v order
