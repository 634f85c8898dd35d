-- Texts around the first of some byte.
use Rattle.std.proofs.Common.{◌≡◌, ◌≢◌, ℕ, suc, ◌<◌, Bool, true, false, not, ◌&&◌, eqb, List, [], ◌∷◌, ◌++◌, length, get_or, Option, Some, None, Bor, refl, sym, ap, ◌∙◌, inl, inr, subst, append_assoc, arith}
use Rattle.std.specs.Option.{MatchOption}
use Rattle.std.specs.List.{list_all}
use Rattle.std.proofs.lemmas.Bool.{cases_eq}
use Rattle.std.proofs.lemmas.Bool.Decides.{nat_tests}
use Rattle.std.proofs.lemmas.Str.Pattern.{IsSplitOnceResult, split_parts}
use Rattle.edit_script.specs.inner.Cut.{lacks}
use Rattle.certificates.specs.inner.Fronts.{Lacks}

all_from : (c : ℕ) (xs : List ℕ) → ((i : ℕ) → i < length xs → get_or xs i 0 ≢ c) → Lacks c xs
all_from c [] h = tt
all_from c (x ∷ xs) h = (h 0 (omega arith), all_from c xs (λ i less. h (suc i) (omega arith)))

-- what `split_once` finds
pub parts : (c : ℕ) (bs : List ℕ) (r : Option (Bor (List ℕ) × Bor (List ℕ))) → IsSplitOnceResult c bs r → c < 128
    → MatchOption r (Lacks c bs) (λ x. (bs ≡ x.0.now ++ c ∷ x.1.now) × Lacks c x.0.now)
parts c bs None h small = all_from c bs (split_parts c bs None h small)
parts c bs (Some x) h small = (let p = split_parts c bs (Some x) h small in (p.0, all_from c x.0.now p.1))

-- there is one way to cut at the first such byte
pub cut_once : (c : ℕ) (f g s t : List ℕ) → Lacks c f → Lacks c g → f ++ c ∷ s ≡ g ++ c ∷ t → (f ≡ g) × (s ≡ t)
cut_once c [] [] s t p q e = (refl, cc)
cut_once c [] (y ∷ g) s t p q e = absurd (q.0 (cc))
cut_once c (x ∷ f) [] s t p q e = absurd (p.0 (cc))
cut_once c (x ∷ f) (y ∷ g) s t p q e =
    let (a, b) = cut_once c f g s t p.1 q.1 (cc) in
    let head : x ≡ y = cc in
    (λ i. head i ∷ a i, b)

-- a list with the byte in it does not lack it
pub has : (c : ℕ) (f s : List ℕ) → Lacks c (f ++ c ∷ s) → ⊥
has c [] s h = h.0 refl
has c (x ∷ f) s h = has c f s h.1

pub lacks_front : (c : ℕ) (xs ys : List ℕ) → Lacks c (xs ++ ys) → Lacks c xs
lacks_front c [] ys h = tt
lacks_front c (x ∷ xs) ys h = (h.0, lacks_front c xs ys h.1)

-- of a list that lacks the byte each front does
pub front_of : (c : ℕ) (text xs ys : List ℕ) → Lacks c text → text ≡ xs ++ ys → Lacks c xs
front_of c text xs ys h e = lacks_front c xs ys (subst (Lacks c) e h)

apart : (b c : ℕ) → not (eqb b c) ≡ true → b ≡ c → ⊥
apart b c h e = grind (arith, nat_tests)

pub both : (a b : Bool) → (a && b) ≡ true → (a ≡ true) × (b ≡ true)
both true b e = (refl, e)
both false b e = (e, absurd (cc))

-- the test of scripts says the same
pub tested : (c : ℕ) (bs : List ℕ) → lacks c bs ≡ true → Lacks c bs
tested c [] h = tt
tested c (b ∷ bs) h = let (x, y) = both (not (eqb b c)) (lacks c bs) h in (apart b c x, tested c bs y)

-- a byte that fails the test stands nowhere in a list that passes it
pub failing : (p : ℕ → Bool) (c : ℕ) → p c ≡ false → (bs : List ℕ) → list_all p bs ≡ true → Lacks c bs
failing p c absent [] h = tt
failing p c absent (b ∷ bs) h =
    let (x, y) = both (p b) (list_all p bs) h in
    ((λ e. let k : true ≡ false = sym x ∙ subst (λ (d : ℕ). p d ≡ false) (sym e) absent in cc), failing p c absent bs y)

-- where the byte stands first
pub record FirstCut (m : ℕ) (zs : List ℕ) : Type 0 where
  pub front : List ℕ
  pub back : List ℕ
  pub whole : zs ≡ front ++ m ∷ back
  pub lacks : Lacks m front

pub first_cut : (m : ℕ) (xs ys : List ℕ) → FirstCut m (xs ++ m ∷ ys)
first_cut m [] ys = record { front = []; back = ys; whole = refl; lacks = tt }
first_cut m (x ∷ xs) ys = elim (cases_eq x m) [
  | inl e ↦ record { front = []; back = xs ++ m ∷ ys; whole = ap (λ (z : ℕ). z ∷ (xs ++ m ∷ ys)) e; lacks = tt }
  | inr n ↦ let r = first_cut m xs ys in record { front = x ∷ r.front; back = r.back; whole = ap (λ (z : List ℕ). x ∷ z) r.whole; lacks = (n, r.lacks) }
]

-- where a quote stands before the first backslash, none stands before the first quote
pub in_front : (text plain behind front back inside rest : List ℕ) → text ≡ plain ++ 92 ∷ behind → Lacks 92 plain → plain ≡ front ++ 34 ∷ back → Lacks 34 front → text ≡ inside ++ 34 ∷ rest → Lacks 34 inside → Lacks 92 inside
in_front text plain behind front back inside rest cut a split b e lacks =
    let whole : text ≡ front ++ 34 ∷ (back ++ 92 ∷ behind) = cut ∙ (ap (λ (z : List ℕ). z ++ 92 ∷ behind) split ∙ append_assoc front (34 ∷ back) (92 ∷ behind)) in
    let (same, _) = cut_once 34 inside front rest (back ++ 92 ∷ behind) lacks b (sym e ∙ whole) in
    subst (Lacks 92) (sym same) (front_of 92 plain front (34 ∷ back) a split)
