-- What a search finds, case by case.
use Rattle.std.specs.Prelude.{ℕ, List}
use Rattle.ring.specs.declared.search.Found.{Found}
use Rattle.ring.specs.declared.search.Found.TheVariants.{Ring, Order}

-- P holds of the ring, where one was found
abbrev pub IfRing : Found → (List ℕ → Type 0) → Type 0
IfRing (Ring ring) P = P ring.items
IfRing (Order order) P = Unit {0}

-- P holds of the order, where one was found
abbrev pub IfOrder : Found → (List ℕ → Type 0) → Type 0
IfOrder (Ring ring) P = Unit {0}
IfOrder (Order order) P = P order.items
