-- Where a limit of a walk is the first break, it is reached.
use Rattle.std.proofs.Common.{◌≡◌, ◌≤◌, ℕ, ◌+◌, ◌-◌, List, [], ◌∷◌, ◌++◌, Bool, true, false, cond, Option, Some, None, length, refl, sym, ap, ◌∙◌, subst, inl, inr, arith}
use Rattle.std.specs.Prelude.{nat_le, ◌⊎◌}
use Rattle.std.proofs.lemmas.Bool.{leb-true}
use Rattle.name_path.specs.declared.place.Place.{Place}
use Rattle.alias_ref.specs.Written.{Step, WrittenPlaces, whole, is_misspelled}
use Rattle.alias_ref.specs.Visits.{Visit, visit, lost, since, RefBreak, ref_break, most_on_branch, most_visits, break_if, own_break, first_break, walked, walk_break}
use Rattle.alias_ref.specs.declared.fault.RefRule.TheVariants as rule
use Rattle.alias_ref.specs.Asking.{Manner, starts, differ_none, IsVisited, begins, asked}
use Rattle.alias_ref.specs.Laws.{IsTooDeep, IsTooBig}
use Rattle.alias_ref.proofs.BranchesAreChains.{Each, Good, HasBy, walk_each, walk_visits-good}
use Rattle.alias_ref.proofs.BreaksAreReal.{got}
use Rattle.alias_ref.proofs.RingsAreReal.{option_or_is}

-- the visit whose break is the first
pub record Broke (T : WrittenPlaces) (n : ℕ) (es : List Visit) (b : RefBreak) : Type 0 where
  pub before : List Visit
  pub e : Visit
  pub after : List Visit
  pub split : es ≡ before ++ e ∷ after
  pub own : own_break T (n + length before) e ≡ Some b

pub first_broke : (T : WrittenPlaces) (n : ℕ) (es : List Visit) (b : RefBreak) → first_break T n es ≡ Some b → Broke T n es b
unfolding first_break
first_broke T n [] b h = absurd (cc)
first_broke T n (e ∷ es) b h = elim (option_or_is (own_break T n e) (first_break T (n + 1) es) b h) as (λ _. Broke T n (e ∷ es) b) [
  | inl k ↦ let same : n ≡ n + 0 = omega arith in record { before = []; e = e; after = es; split = refl; own = subst (λ m. own_break T m e ≡ Some b) same k }
  | inr k ↦
      let r = first_broke T (n + 1) es b k in
      let same : (n + 1) + length r.before ≡ n + length (e ∷ r.before) = omega arith in
      record { before = e ∷ r.before; e = r.e; after = r.after; split = ap (λ l. e ∷ l) r.split; own = subst (λ m. own_break T m r.e ≡ Some b) same r.own }
]

-- what holds of each visit holds of this one
pub each_at : (P : Visit → Type 0) (xs : List Visit) (e : Visit) (ys : List Visit) → Each P (xs ++ e ∷ ys) → P e
each_at P [] e ys h = h.0
each_at P (x ∷ xs) e ys h = each_at P xs e ys h.1

-- a visit that is broken by a limit: it is a visit of the place, and the limit is reached
record IsLimited (b : RefBreak) (m : ℕ) (e : Visit) : Type 0 where
  branch : List Place
  is : e ≡ visit branch b.place
  deep : b.rule ≡ rule.Deep → most_on_branch ≤ length branch
  big : b.rule ≡ rule.Big → most_visits ≤ m

-- .. by any of the two
abbrev IsLimit : RefBreak → Type 0
IsLimit b = (b.rule ≡ rule.Deep) ⊎ (b.rule ≡ rule.Big)

pub same_break : {b c : RefBreak} → Some b ≡ Some c → b ≡ c
same_break {b} {c} e = ap (got b) e

limited_if : (m : ℕ) (bs : List Place) (p : Place) (x y z : Bool) (b : RefBreak) → nat_le most_on_branch (length bs) ≡ x → nat_le most_visits m ≡ y
    → cond x (Some (ref_break rule.Deep p)) (cond y (Some (ref_break rule.Big p)) (cond z (Some (ref_break rule.RefSyntax p)) None)) ≡ Some b → IsLimit b → IsLimited b m (visit bs p)
limited_if m bs p true y z b e f h limit =
    subst (λ c. IsLimited c m (visit bs p)) (same_break h) (record { branch = bs; is = refl; deep = λ _. leb-true most_on_branch (length bs) e; big = λ k. absurd (cc) })
limited_if m bs p false true z b e f h limit =
    subst (λ c. IsLimited c m (visit bs p)) (same_break h) (record { branch = bs; is = refl; deep = λ k. absurd (cc); big = λ _. leb-true most_visits m f })
limited_if m bs p false false true b e f h limit = absurd (no (subst IsLimit (sym (same_break h)) limit))
  where
    no : IsLimit (ref_break rule.RefSyntax p) → ⊥
    no (inl k) = cc
    no (inr k) = cc
limited_if m bs p false false false b e f h limit = absurd (cc)

limited_of : (T : WrittenPlaces) (m : ℕ) (bs : List Place) (p : Place) (o : Option (List Place)) (b : RefBreak) → break_if T m bs p o ≡ Some b → IsLimit b → IsLimited b m (visit bs p)
limited_of T m bs p (Some ring) b h limit = absurd (no (subst IsLimit (sym (same_break h)) limit))
  where
    no : IsLimit (record { rule = rule.Cycle; place = p; ring = ring }) → ⊥
    no (inl k) = cc
    no (inr k) = cc
limited_of T m bs p None b h limit = limited_if m bs p (nat_le most_on_branch (length bs)) (nat_le most_visits m) (is_misspelled (T p)) b refl refl h limit

limited : (T : WrittenPlaces) (m : ℕ) (e : Visit) (b : RefBreak) → own_break T m e ≡ Some b → IsLimit b → IsLimited b m e
limited T m (visit bs p) b h limit = limited_of T m bs p (since p bs) b h limit
limited T m (lost p) b h limit = absurd (no (subst IsLimit (sym (same_break h)) limit))
  where
    no : IsLimit (ref_break rule.RefTarget p) → ⊥
    no (inl k) = cc
    no (inr k) = cc

-- a visit breaks no rule on types
typed_if : (p : Place) (x y z : Bool) (b : RefBreak) → cond x (Some (ref_break rule.Deep p)) (cond y (Some (ref_break rule.Big p)) (cond z (Some (ref_break rule.RefSyntax p)) None)) ≡ Some b → b.rule ≡ rule.NoType → ⊥
typed_if p true y z b h is = let e : rule.Deep ≡ rule.NoType = ap (λ c. c.rule) (same_break h) ∙ is in cc
typed_if p false true z b h is = let e : rule.Big ≡ rule.NoType = ap (λ c. c.rule) (same_break h) ∙ is in cc
typed_if p false false true b h is = let e : rule.RefSyntax ≡ rule.NoType = ap (λ c. c.rule) (same_break h) ∙ is in cc
typed_if p false false false b h is = absurd (cc)

typed_of : (T : WrittenPlaces) (m : ℕ) (bs : List Place) (p : Place) (o : Option (List Place)) (b : RefBreak) → break_if T m bs p o ≡ Some b → b.rule ≡ rule.NoType → ⊥
typed_of T m bs p (Some ring) b h is = let e : rule.Cycle ≡ rule.NoType = ap (λ c. c.rule) (same_break h) ∙ is in cc
typed_of T m bs p None b h is = typed_if p (nat_le most_on_branch (length bs)) (nat_le most_visits m) (is_misspelled (T p)) b h is

typed : (T : WrittenPlaces) (m : ℕ) (e : Visit) (b : RefBreak) → own_break T m e ≡ Some b → b.rule ≡ rule.NoType → ⊥
typed T m (visit bs p) b h is = typed_of T m bs p (since p bs) b h is
typed T m (lost p) b h is = let e : rule.RefTarget ≡ rule.NoType = ap (λ c. c.rule) (same_break h) ∙ is in cc

all_visited : (T : WrittenPlaces) (token : List Step) → Each (HasBy (λ m b p. IsVisited T token b m p)) (walked T [] (whole token))
unfolding walked
all_visited T token = walk_each T (λ m b p. IsVisited T token b m p) (λ m n b p q v s a. asked v a) (most_on_branch - length {A = Place} []) [] (whole token) begins

pub visits_visited : (T : WrittenPlaces) (token : List Step) (before after : List Visit) (b : List Place) (p : Place) → walked T [] (whole token) ≡ before ++ visit b p ∷ after → (m : Manner) × IsVisited T token b m p
visits_visited T token before after b p split =
    each_at (HasBy (λ m c q. IsVisited T token c m q)) before (visit b p) after (subst (Each (HasBy (λ m c q. IsVisited T token c m q))) split (all_visited T token))

module _ (T : WrittenPlaces) (token : List Step) (b : RefBreak) (h : walk_break T token ≡ Some b) where
  all_good : Each (Good T) (walked T [] (whole token))
  unfolding walked
  all_good = walk_visits-good T (most_on_branch - length {A = Place} []) [] (whole token) starts differ_none

  pub too_deep : b.rule ≡ rule.Deep → IsTooDeep T token b.place
  too_deep is =
      let r = first_broke T 0 (walked T [] (whole token)) b h in
      let l = limited T (0 + length r.before) r.e b r.own (inl is) in
      let good = subst (Good T) l.is (each_at (Good T) r.before r.e r.after (subst (Each (Good T)) r.split all_good)) in
      let split = r.split ∙ ap (λ e. r.before ++ e ∷ r.after) l.is in
      let seen = visits_visited T token r.before r.after l.branch b.place split in
      record { branch = l.branch; long = l.deep is; manner = seen.0; visited = seen.1; apart = good.1; chain = good.0 }

  pub too_big : b.rule ≡ rule.Big → IsTooBig T token b.place
  too_big is =
      let r = first_broke T 0 (walked T [] (whole token)) b h in
      let l = limited T (0 + length r.before) r.e b r.own (inr is) in
      let many = l.big is in
      record { before = r.before; branch = l.branch; after = r.after; split = r.split ∙ ap (λ e. r.before ++ e ∷ r.after) l.is; many = omega (arith, many) }

  pub of_walk : b.rule ≡ rule.NoType → ⊥
  of_walk is = let r = first_broke T 0 (walked T [] (whole token)) b h in typed T (0 + length r.before) r.e b r.own is
