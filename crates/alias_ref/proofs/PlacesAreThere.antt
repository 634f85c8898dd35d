-- A break is told at a place in a token that is there.
use Rattle.std.proofs.Common.{◌≡◌, ℕ, ◌+◌, List, [], ◌∷◌, ◌++◌, Bool, true, false, cond, Option, Some, None, length, refl, sym, ap, ◌∙◌, inl, inr}
use Rattle.std.specs.Prelude.{nat_le, ◌⊎◌}
use Rattle.std.specs.FinMap as flat_map
use Rattle.name_path.specs.declared.place.Place.{Place}
use Rattle.group_inherit.specs.Flattening.{Flattened}
use Rattle.alias_ref.specs.Written.{Step, Written, leaf, parts, refers, misspelled, whole, part, is_reference, is_misspelled, is_written, written_in}
use Rattle.alias_ref.specs.Meaning.{Leads, leads, Goes, arrived, onward}
use Rattle.alias_ref.specs.Asking.{Manner, AsksFor, for_part, for_step, for_target, for_next, IsVisited, begins, asked}
use Rattle.alias_ref.specs.Visits.{Visit, visit, lost, since, RefBreak, ref_break, most_on_branch, most_visits, break_if, own_break, walked, walk_break}
use Rattle.alias_ref.specs.declared.fault.RefRule.TheVariants as rule
use Rattle.alias_ref.specs.Laws.{Flat, HasToken}
use Rattle.alias_ref.proofs.BreaksAreReal.{break_tells}
use Rattle.alias_ref.proofs.LimitsAreReal.{first_broke, same_break, visits_visited}
use Rattle.alias_ref.proofs.WrittenParts.{token_lost}

reference_written : (o : Option Written) → is_reference o ≡ true → is_written o ≡ true
reference_written (Some (refers token steps)) h = refl
reference_written (Some misspelled) h = refl
reference_written (Some (leaf v)) h = refl
reference_written (Some (parts c steps)) h = refl
reference_written None h = cc

module _ (flat : Flat) where
  written_there : (p : Place) → is_written (written_in flat p) ≡ true → HasToken flat p
  written_there p h = go (flat_map.get flat p.token) refl
    where
      go : (o : Option Flattened) → flat_map.get flat p.token ≡ o → HasToken flat p
      go None e = let k : false ≡ true = sym (ap is_written (token_lost flat p e)) ∙ h in absurd (cc)
      go (Some f) e = (f, e)

  goes_there : {p q : Place} {steps : List Step} → Goes (written_in flat) p steps q → HasToken flat p → HasToken flat q
  goes_there arrived h = h
  goes_there (onward {q = k} {s = s} a w g) h = goes_there g (written_there (part k s) w)

  leads_there : {p q : Place} → Leads (written_in flat) p q → HasToken flat q
  leads_there (leads {token = t} e w g) = goes_there g (written_there (whole t) w)

  asks_there : {m n : Manner} {p q : Place} → AsksFor (written_in flat) m p n q → HasToken flat p → HasToken flat q
  asks_there (for_part before after s e f) h = h
  asks_there (for_step {q = q} before after s e w f g r) h = written_there q (reference_written (written_in flat q) r)
  asks_there (for_target l) h = leads_there l
  asks_there (for_next l r) h = leads_there l

  visited_there : (token : List Step) → HasToken flat (whole token) → {b : List Place} {m : Manner} {p : Place} → IsVisited (written_in flat) token b m p → HasToken flat p
  visited_there token there begins = there
  visited_there token there (asked v a) = asks_there a (visited_there token there v)

-- where a break is told: at the place of its visit, or at a reference whose target is lost
at_if : (p : Place) (x y z : Bool) (b : RefBreak) → cond x (Some (ref_break rule.Deep p)) (cond y (Some (ref_break rule.Big p)) (cond z (Some (ref_break rule.RefSyntax p)) None)) ≡ Some b → p ≡ b.place
at_if p true y z b h = ap (λ c. c.place) (same_break h)
at_if p false true z b h = ap (λ c. c.place) (same_break h)
at_if p false false true b h = ap (λ c. c.place) (same_break h)
at_if p false false false b h = absurd (cc)

module _ (flat : Flat) where
  at_visit : (m : ℕ) (bs : List Place) (p : Place) (o : Option (List Place)) (b : RefBreak) → break_if (written_in flat) m bs p o ≡ Some b → p ≡ b.place
  at_visit m bs p (Some ring) b h = ap (λ c. c.place) (same_break h)
  at_visit m bs p None b h = at_if p (nat_le most_on_branch (length bs)) (nat_le most_visits m) (is_misspelled (written_in flat p)) b h

  at_own : (m : ℕ) (e : Visit) (b : RefBreak) → own_break (written_in flat) m e ≡ Some b → ((bs : List Place) × (e ≡ visit bs b.place)) ⊎ (b.rule ≡ rule.RefTarget)
  at_own m (visit bs p) b h = inl (bs, ap (λ q. visit bs q) (at_visit m bs p (since p bs) b h))
  at_own m (lost p) b h = inr (sym (ap (λ c. c.rule) (same_break h)))

pub place_there : (flat : Flat) (token : List Step) (f : Flattened) (b : RefBreak) → flat_map.get flat token ≡ Some f → walk_break (written_in flat) token ≡ Some b → HasToken flat b.place
place_there flat token f b there h =
    let T = written_in flat in
    let r = first_broke T 0 (walked T [] (whole token)) b h in
    elim (at_own flat (0 + length r.before) r.e b r.own) as (λ _. HasToken flat b.place) [
      | inl (bs, is) ↦
          let seen = visits_visited T token r.before r.after bs b.place (r.split ∙ ap (λ e. r.before ++ e ∷ r.after) is) in
          visited_there flat token (f, there) seen.1
      | inr lost_there ↦ written_there flat b.place (reference_written (written_in flat b.place) ((break_tells T token b h).1 lost_there).0)
    ]
