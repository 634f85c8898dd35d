-- A ring that is the first break is real.
use Rattle.std.proofs.Common.{◌≡◌, ℕ, ◌+◌, ◌-◌, List, [], ◌∷◌, Bool, true, false, cond, Option, Some, None, length, ap, inl, inr}
use Rattle.std.specs.Prelude.{nat_le, ◌⊎◌}
use Rattle.std.specs.Option.{option_or}
use Rattle.name_path.specs.declared.place.Place.{Place}
use Rattle.alias_ref.specs.Written.{Step, WrittenPlaces, whole, is_misspelled}
use Rattle.alias_ref.specs.Visits.{Visit, visit, lost, since, RefBreak, ref_break, most_on_branch, most_visits, break_if, own_break, first_break, walked, walk_break}
use Rattle.alias_ref.specs.declared.fault.RefRule.{RefRule}
use Rattle.alias_ref.specs.declared.fault.RefRule.TheVariants as rule
use Rattle.alias_ref.specs.Asking.{starts, differ_none, IsRingOfPlaces}
use Rattle.alias_ref.proofs.BranchesAreChains.{Each, Good, since-ring, walk_visits-good}

pub option_or_is : (a b : Option RefBreak) (x : RefBreak) → option_or a b ≡ Some x → (a ≡ Some x) ⊎ (b ≡ Some x)
option_or_is (Some y) b x h = inl h
option_or_is None b x h = inr h

-- the rule and the ring of a break
abbrev rule_of : Option RefBreak → RefRule
rule_of None = rule.NoType
rule_of (Some b) = b.rule

abbrev ring_in : Option RefBreak → List Place
ring_in None = []
ring_in (Some b) = b.ring

no_ring : (a b c : Bool) (p q : Place) (r : List Place) → cond a (Some (ref_break rule.Deep p)) (cond b (Some (ref_break rule.Big p)) (cond c (Some (ref_break rule.RefSyntax p)) None)) ≡ Some (record { rule = rule.Cycle; place = q; ring = r }) → ⊥
no_ring true b c p q r h = let e : rule.Deep ≡ rule.Cycle = ap (λ o. rule_of o) h in cc
no_ring false true c p q r h = let e : rule.Big ≡ rule.Cycle = ap (λ o. rule_of o) h in cc
no_ring false false true p q r h = let e : rule.RefSyntax ≡ rule.Cycle = ap (λ o. rule_of o) h in cc
no_ring false false false p q r h = cc

module _ (T : WrittenPlaces) where
  ring_of_visit : (n : ℕ) (b : List Place) (p q : Place) (r : List Place) (o : Option (List Place)) → break_if T n b p o ≡ Some (record { rule = rule.Cycle; place = q; ring = r }) → o ≡ Some r
  ring_of_visit n b p q r (Some k) h = ap (λ x. Some (ring_in x)) h
  ring_of_visit n b p q r None h = absurd (no_ring (nat_le most_on_branch (length b)) (nat_le most_visits n) (is_misspelled (T p)) p q r h)

  own_ring : (n : ℕ) (e : Visit) (p : Place) (r : List Place) → Good T e → own_break T n e ≡ Some (record { rule = rule.Cycle; place = p; ring = r }) → IsRingOfPlaces T r
  own_ring n (visit b p) q r g h = since-ring T p b r g.0 g.1 (ring_of_visit n b p q r (since p b) h)
  own_ring n (lost p) q r g h = let e : rule.RefTarget ≡ rule.Cycle = ap (λ o. rule_of o) h in cc

  first_ring : (n : ℕ) (es : List Visit) (p : Place) (r : List Place) → Each (Good T) es → first_break T n es ≡ Some (record { rule = rule.Cycle; place = p; ring = r }) → IsRingOfPlaces T r
  unfolding first_break
  first_ring n [] p r g h = cc
  first_ring n (e ∷ es) p r (g, gs) h = elim (option_or_is (own_break T n e) (first_break T (n + 1) es) (record { rule = rule.Cycle; place = p; ring = r }) h) as (λ _. IsRingOfPlaces T r) [
    | inl k ↦ own_ring n e p r g k
    | inr k ↦ first_ring (n + 1) es p r gs k
  ]

  pub walk_break-ring : (t : List Step) (p : Place) (r : List Place) → walk_break T t ≡ Some (record { rule = rule.Cycle; place = p; ring = r }) → IsRingOfPlaces T r
  unfolding walked
  walk_break-ring t p r h = first_ring 0 (walked T [] (whole t)) p r (walk_visits-good T (most_on_branch - length {A = Place} []) [] (whole t) starts differ_none) h
