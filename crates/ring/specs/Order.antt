-- Orders of the nodes of a graph, in which each node follows what it needs.
use Rattle.std.specs.Prelude.{List, [], ◌∷◌, ◌++◌}
use Rattle.ring.specs.Lists.{In, AreApart}
use Rattle.ring.specs.Routes.{IsReached}

-- Each node of the list comes after all that it needs, which may also be among those seen before.
abbrev pub Follows : {N : Type 0} → (N → List N) → List N → List N → Type 0
Follows needs seen [] = Unit {0}
Follows {N} needs seen (v ∷ vs) = ((w : N) → In w (needs v) → In w seen) × Follows needs (seen ++ v ∷ []) vs

-- exactly the nodes that routes from the root come to, each once and after all that it needs
pub record IsOrder {N : Type 0} (needs : N → List N) (root : N) (order : List N) : Type 0 where
  pub follows : Follows needs [] order
  pub apart : AreApart order
  pub all : (v : N) → IsReached needs root v → In v order
  pub only : (v : N) → In v order → IsReached needs root v
