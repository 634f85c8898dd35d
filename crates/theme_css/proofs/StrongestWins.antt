-- What the cascade takes is said by the block that wins.
use Rattle.std.proofs.Common.{◌≡◌, ◌⊎◌, ◌≤◌, ◌<◌, ℕ, Bool, true, false, List, [], ◌∷◌, Option, Some, None, inl, inr, refl, sym, ◌∙◌, ap, subst, arith}
use Rattle.std.specs.Prelude.{IfSome, if◌then◌else◌, nat_le}
use Rattle.std.specs.List.{AllByRecursion}
use Rattle.std.proofs.lemmas.Bool.Decides.{nat_tests}
use Rattle.std.proofs.lemmas.Option.{none-some, same_Some}
use Rattle.permutations.specs.Name.{Choice}
use Rattle.theme_css.specs.Cascade.{Block, Offer, offer, stronger, strongest}
use Rattle.theme_css.specs.Laws.{NoneIsOffered, StrongestWins, Wins}

no_heavier : (a b : ℕ) → nat_le a b ≡ true → a ≤ b
no_heavier a b h = grind (arith, nat_tests, h)

lighter : (a b : ℕ) → nat_le a b ≡ false → b < a
lighter a b h = grind (arith, nat_tests, h)

-- the stronger of two is as heavy as each
each_within : (k : ℕ) (s t : Option Offer) → IfSome (stronger s t) (λ e. e.weight ≤ k) → IfSome s (λ e. e.weight ≤ k) × IfSome t (λ e. e.weight ≤ k)
each_within k None t h = (tt, h)
each_within k (Some e) None h = (h, tt)
each_within k (Some e) (Some f) h = go (nat_le e.weight f.weight) refl h
  where
    go : (b : Bool) → nat_le e.weight f.weight ≡ b → IfSome (if b then Some f else Some e) (λ x. x.weight ≤ k) → (e.weight ≤ k) × (f.weight ≤ k)
    go true is h = let l = no_heavier e.weight f.weight is in (omega (arith, l, h), h)
    go false is h = let l = lighter e.weight f.weight is in (h, omega (arith, l, h))

module _ (page : List Choice) (name : List ℕ) (o : Offer) where
  abbrev Fewer : Option Offer → Type 0
  Fewer s = IfSome s (λ e. e.weight < o.weight)

  abbrev Below : Block → Type 0
  Below b = Fewer (offer page name b)

  abbrev Within : Option Offer → Type 0
  Within s = IfSome s (λ e. e.weight ≤ o.weight)

  -- what was taken before holds, or a block wins over it
  abbrev Held : Option Offer → List Block → Type 0
  Held s bs = ((s ≡ Some o) × AllByRecursion Below bs) ⊎ (Wins bs page name o × Within s)

  here : (b : Block) (bs : List Block) → offer page name b ≡ Some o → AllByRecursion Below bs → Wins (b ∷ bs) page name o
  here b bs e h = record { before = []; block = b; after = bs; whole = refl; offered = e; no_more = tt; fewer = h }

  behind : (b : Block) (bs : List Block) → Wins bs page name o → Within (offer page name b) → Wins (b ∷ bs) page name o
  behind b bs w h =
      record {
        before = b ∷ w.before;
        block = w.block;
        after = w.after;
        whole = ap (λ (l : List Block). b ∷ l) w.whole;
        offered = w.offered;
        no_more = (h, w.no_more);
        fewer = w.fewer;
      }

  -- by what the first block says
  first_holds : (b : Block) (bs : List Block) (s t : Option Offer) → offer page name b ≡ t → stronger s t ≡ Some o → AllByRecursion Below bs → Held s (b ∷ bs)
  first_holds b bs None None is e h = absurd (none-some o e)
  first_holds b bs (Some x) None is e h = inl (e, (subst Fewer (sym is) tt, h))
  first_holds b bs None (Some y) is e h = inr (here b bs (is ∙ e) h, tt)
  first_holds b bs (Some x) (Some y) is e h = go (nat_le x.weight y.weight) refl e
    where
      go : (c : Bool) → nat_le x.weight y.weight ≡ c → (if c then Some y else Some x) ≡ Some o → Held (Some x) (b ∷ bs)
      go true le e =
          let same : y ≡ o = same_Some y o e in
          let l = no_heavier x.weight y.weight le in
          let Q : Offer → Type 0 = λ (z : Offer). x.weight ≤ z.weight in
          inr (here b bs (is ∙ e) h, subst Q same l)
      go false le e =
          let same : x ≡ o = same_Some x o e in
          let l = lighter x.weight y.weight le in
          let Q : Offer → Type 0 = λ (z : Offer). y.weight < z.weight in
          inl (e, (subst Fewer (sym is) (subst Q same l), h))

  holds : (s : Option Offer) (bs : List Block) → strongest page name s bs ≡ Some o → Held s bs
  holds s [] e = inl (e, tt)
  holds s (b ∷ bs) e =
      elim (holds (stronger s (offer page name b)) bs e) as (λ _. Held s (b ∷ bs)) [
        | inl x ↦ first_holds b bs s (offer page name b) refl x.0 x.1
        | inr y ↦ let both = each_within o.weight s (offer page name b) y.1 in inr (behind b bs y.0 both.1, both.0)
      ]

pub strongest_wins : StrongestWins
strongest_wins blocks page name o e =
    elim (holds page name o None blocks e) as (λ _. Wins blocks page name o) [ inl x ↦ absurd (none-some o x.0) | inr y ↦ y.0 ]

-- What stands is never lost.
module _ (page : List Choice) (name : List ℕ) where
  both_none : (s t : Option Offer) → stronger s t ≡ None → (s ≡ None) × (t ≡ None)
  both_none None t e = (refl, e)
  both_none (Some x) None e = cc
  both_none (Some x) (Some y) e = go (nat_le x.weight y.weight) e
    where
      go : (b : Bool) → (if b then Some y else Some x) ≡ None → (Some x ≡ None) × (Some y ≡ None)
      go true e = cc
      go false e = cc

  none_before : (s : Option Offer) (bs : List Block) → strongest page name s bs ≡ None → (s ≡ None) × AllByRecursion (λ b. offer page name b ≡ None) bs
  none_before s [] e = (e, tt)
  none_before s (b ∷ bs) e =
      let later = none_before (stronger s (offer page name b)) bs e in
      let now = both_none s (offer page name b) later.0 in
      (now.0, (now.1, later.1))

pub none_offered : NoneIsOffered
none_offered blocks page name e = (none_before page name None blocks e).1
