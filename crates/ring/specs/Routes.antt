-- Routes of a graph in which each node needs others, in an order of its own, and the ring of the first that closes.
use Rattle.std.specs.Prelude.{◌≡◌, ◌≢◌, List, [], ◌∷◌, ◌++◌, ◌⊎◌}
use Rattle.ring.specs.Lists.{In, AreApart}

-- x stands in the list before the first place of y
abbrev pub Precedes : {N : Type 0} → N → N → List N → Type 0
Precedes x y [] = ⊥
Precedes x y (z ∷ zs) = (y ≢ z) × ((x ≡ z) ⊎ Precedes x y zs)

-- from a node on, each needs the next
abbrev pub IsChain : {N : Type 0} → (N → List N) → N → List N → Type 0
IsChain needs at [] = Unit {0}
IsChain needs at (x ∷ xs) = In x (needs at) × IsChain needs x xs

-- A route is a list of nodes that begins with the root, and of which each needs the next.
abbrev pub IsRoute : {N : Type 0} → (N → List N) → N → List N → Type 0
IsRoute needs root [] = ⊥
IsRoute needs root (x ∷ xs) = (x ≡ root) × IsChain needs x xs

-- the last stands once before, and no other stands twice
pub record Closes {N : Type 0} (route : List N) : Type 0 where
  pub front : List N
  pub last : N
  pub whole : route ≡ front ++ last ∷ []
  pub apart : AreApart front
  pub again : In last front

-- a route that comes back to one of its nodes, and ends there
pub record IsClosedRoute {N : Type 0} (needs : N → List N) (root : N) (route : List N) : Type 0 where
  pub steps : IsRoute needs root route
  pub closes : Closes route

-- Routes are ordered position by position, by the place of the next node among the needs. Of what follows a node in two
-- routes, the first is not after the second: where they part, its next node has the earlier place.
abbrev pub NotAfter : {N : Type 0} → (N → List N) → N → List N → List N → Type 0
NotAfter needs at [] ys = Unit {0}
NotAfter needs at (x ∷ xs) [] = ⊥
NotAfter needs at (x ∷ xs) (y ∷ ys) = Precedes x y (needs at) ⊎ ((x ≡ y) × NotAfter needs y xs ys)

-- the same of two routes from one root
abbrev pub IsNotAfter : {N : Type 0} → (N → List N) → List N → List N → Type 0
IsNotAfter needs (x ∷ xs) (y ∷ ys) = NotAfter needs y xs ys
IsNotAfter needs [] ys = Unit {0}
IsNotAfter needs (x ∷ xs) [] = ⊥

-- the closed route that comes after no other
pub record IsFirstClosedRoute {N : Type 0} (needs : N → List N) (root : N) (route : List N) : Type 0 where
  pub closed : IsClosedRoute needs root route
  pub first : (other : List N) → IsClosedRoute needs root other → IsNotAfter needs route other

-- the part of a route from the earlier place of its last node on, without its last entry
pub record IsPartOf {N : Type 0} (ring route : List N) : Type 0 where
  pub before : List N
  pub last : N
  pub rest : List N
  pub whole : route ≡ before ++ (ring ++ last ∷ [])
  pub begins : ring ≡ last ∷ rest

-- the ring of the first closed route
pub record IsRing {N : Type 0} (needs : N → List N) (root : N) (ring : List N) : Type 0 where
  pub route : List N
  pub first : IsFirstClosedRoute needs root route
  pub part : IsPartOf ring route

-- no route from the root is closed
abbrev pub HasNoRing : {N : Type 0} → (N → List N) → N → Type 0
HasNoRing {N} needs root = (route : List N) → IsClosedRoute needs root route → ⊥

-- a route from the root ends at the node
pub record IsReached {N : Type 0} (needs : N → List N) (root : N) (node : N) : Type 0 where
  pub before : List N
  pub steps : IsRoute needs root (before ++ node ∷ [])
