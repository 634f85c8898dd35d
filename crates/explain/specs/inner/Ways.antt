-- What is remembered of the hops of a certificate.
use Rattle.std.specs.Prelude.{◌≡◌, ℕ, zero, suc, List, length, Option, Some, None}
use Rattle.std.specs.BTreeMap.{get, btree_map_len}
use Rattle.std.specs.Ordering.{ordering_then}
use Rattle.std.specs.declared.cmp.Ordering.{Ordering}
use Rattle.tk_io.specs.Order.{names_cmp}
use Rattle.ring.specs.Lists.{In, AreApart}
use Rattle.name_path.specs.declared.place.Place.{Place}
use Rattle.certificates.specs.declared.certificate.Hop.{Hop}
use Rattle.explain.specs.Following.{starts_of}
use Rattle.explain.specs.declared.ways.Ways.{Ways}

-- q is reached from p by following so many hops
pub data Along (hops : List Hop) : ℕ → Place → Place → Type 0 where
  here : {p : Place} → Along hops zero p p
  onward : {n : ℕ} {p q : Place} (hop : Hop) → In hop hops → hop.spot.place ≡ p → Along hops n hop.target q → Along hops (suc n) p q

-- places in their order: by token, and then by trail
abbrev pub place_cmp : Place → Place → Ordering
place_cmp p q = ordering_then (names_cmp p.token q.token) (names_cmp p.trail q.trail)

-- what is remembered of a place
abbrev pub remembered : Ways → Place → Option Place
remembered ways p = get place_cmp ways.reached p

-- what is remembered of the hops is right: a place where one starts is known with one that is reached from it
pub record Knows (hops : List Hop) (ways : Ways) : Type 0 where
  pub starts : AreApart (starts_of hops)
  pub count : btree_map_len ways.reached ≡ length hops
  pub reached : (p q : Place) → remembered ways p ≡ Some q → (n : ℕ) × Along hops (suc n) p q
  pub unknown : (p : Place) → remembered ways p ≡ None → In p (starts_of hops) → ⊥
