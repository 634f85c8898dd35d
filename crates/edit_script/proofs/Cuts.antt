-- Cutting at the first byte of a kind: the parts round it, and that there is one way to cut.
use Rattle.std.proofs.Common.{◌≡◌, ◌<◌, ℕ, zero, suc, ◌+◌, Bool, true, false, cond, not, ◌&&◌, eqb, List, [], ◌∷◌, ◌++◌, length, take, drop, Option, Some, None, refl, sym, ap, ◌∙◌, arith, eqb-true}
use Rattle.std.proofs.lemmas.Bool.Decides.{nat_tests}
use Rattle.std.proofs.lemmas.List.Folds.{list_all-append}
use Rattle.std.specs.List.{list_all, position_or_len, before_first, after_first}
use Rattle.std.specs.Borrow.{Bor}
use Rattle.std.specs.Option.{MatchOption}
use Rattle.edit_script.specs.inner.Cut.{lacks, IsFirstCut}

pub both : (a b : Bool) → (a && b) ≡ true → (a ≡ true) × (b ≡ true)
both true b e = (refl, e)
both false b e = (e, absurd (cc))

pub joined : (a b : Bool) → a ≡ true → b ≡ true → (a && b) ≡ true
joined true b p q = q
joined false b p q = p

pub lacks-all : (c : ℕ) (bs : List ℕ) → position_or_len (λ b. eqb b c) bs ≡ length bs → lacks c bs ≡ true
lacks-all c [] h = refl
lacks-all c (b ∷ bs) h =
    elim (eqb b c) as (λ t. cond (not t) (1 + position_or_len (λ x. eqb x c) bs) 0 ≡ suc (length bs) → (not t && lacks c bs) ≡ true) [
      | true ↦ λ e. absurd (omega arith)
      | false ↦ λ e. lacks-all c bs (omega arith)
    ] h

pub front_lacks : (c : ℕ) (bs : List ℕ) (k : ℕ) → position_or_len (λ b. eqb b c) bs ≡ k → k < length bs → (lacks c (take k bs) ≡ true) × (bs ≡ take k bs ++ c ∷ drop (suc k) bs)
front_lacks c [] k e h = absurd (omega arith)
front_lacks c (b ∷ bs) zero e h =
    elim (eqb b c) as (λ t. eqb b c ≡ t → cond (not t) (1 + position_or_len (λ x. eqb x c) bs) 0 ≡ zero → (true ≡ true) × (b ∷ bs ≡ c ∷ bs)) [
      | true ↦ λ t e. (refl, ap (λ x. x ∷ bs) (eqb-true b c t))
      | false ↦ λ t e. absurd (omega arith)
    ] refl e
front_lacks c (b ∷ bs) (suc k) e h =
    elim (eqb b c) as (λ t. cond (not t) (1 + position_or_len (λ x. eqb x c) bs) 0 ≡ suc k → ((not t && lacks c (take k bs)) ≡ true) × (b ∷ bs ≡ b ∷ (take k bs ++ c ∷ drop (suc k) bs))) [
      | true ↦ λ e. absurd (omega arith)
      | false ↦ λ e. let (p, q) = front_lacks c bs k (omega arith) (omega arith) in (p, ap (λ l. b ∷ l) q)
    ] e

clash : (y c : ℕ) → not (eqb y c) ≡ true → y ≡ c → ⊥
clash y c n e = grind (arith, nat_tests)

-- there is one way to cut at the first such byte
pub cut_once : (c : ℕ) (f g s t : List ℕ) → lacks c f ≡ true → lacks c g ≡ true → f ++ c ∷ s ≡ g ++ c ∷ t → (f ≡ g) × (s ≡ t)
cut_once c [] [] s t p q e = (refl, cc)
cut_once c [] (y ∷ g) s t p q e = absurd (clash y c (both (not (eqb y c)) (lacks c g) q).0 (cc))
cut_once c (x ∷ f) [] s t p q e = absurd (clash x c (both (not (eqb x c)) (lacks c f) p).0 (cc))
cut_once c (x ∷ f) (y ∷ g) s t p q e =
    let (a, b) = cut_once c f g s t (both (not (eqb x c)) (lacks c f) p).1 (both (not (eqb y c)) (lacks c g) q).1 (cc) in
    let head : x ≡ y = cc in
    (λ i. head i ∷ a i, b)

-- a list with the byte in it does not lack it
pub has : (c : ℕ) (f s : List ℕ) → lacks c (f ++ c ∷ s) ≡ true → ⊥
has c [] s h = clash c c (both (not (eqb c c)) (lacks c s) h).0 refl
has c (x ∷ f) s h = has c f s (both (not (eqb x c)) (lacks c (f ++ c ∷ s)) h).1

pub lacks-append : (c : ℕ) (xs ys : List ℕ) → lacks c xs ≡ true → lacks c ys ≡ true → lacks c (xs ++ ys) ≡ true
lacks-append c xs ys p q = list_all-append (λ b. not (eqb b c)) xs ys ∙ joined (lacks c xs) (lacks c ys) p q

pub all_weaker : (p q : ℕ → Bool) → ((b : ℕ) → p b ≡ true → q b ≡ true) → (bs : List ℕ) → list_all p bs ≡ true → list_all q bs ≡ true
all_weaker p q f [] h = refl
all_weaker p q f (b ∷ bs) h = let (x, y) = both (p b) (list_all p bs) h in joined (q b) (list_all q bs) (f b x) (all_weaker p q f bs y)

-- a byte that fails the test stands nowhere in a list that passes it
pub lacks_failing : (p : ℕ → Bool) (c : ℕ) → p c ≡ false → (bs : List ℕ) → list_all p bs ≡ true → lacks c bs ≡ true
lacks_failing p c absent bs h =
    all_weaker p (λ b. not (eqb b c)) (λ b yes. elim (eqb b c) as (λ t. eqb b c ≡ t → not t ≡ true) [
      | true ↦ λ t. let same = ap p (eqb-true b c t) in absurd (cc)
      | false ↦ λ t. refl
    ] refl) bs h

pub same_front : (t u x y : List ℕ) → length t ≡ length u → t ++ x ≡ u ++ y → (t ≡ u) × (x ≡ y)
same_front [] [] x y h e = (refl, e)
same_front [] (b ∷ u) x y h e = absurd (omega arith)
same_front (a ∷ t) [] x y h e = absurd (omega arith)
same_front (a ∷ t) (b ∷ u) x y h e =
    let (p, q) = same_front t u x y (omega arith) (cc) in
    let head : a ≡ b = cc in
    (λ i. head i ∷ p i, q)

-- what `split_once` finds, as a cut
pub cut_found : (c : ℕ) (bs : List ℕ) (r : Option (Bor (List ℕ) × Bor (List ℕ))) → MatchOption r (position_or_len (λ b. eqb b c) bs ≡ length bs) (λ x. (x.0.now ≡ before_first (λ b. eqb b c) bs) × (x.1.now ≡ after_first (λ b. eqb b c) bs) × (position_or_len (λ b. eqb b c) bs < length bs))
    → MatchOption r (lacks c bs ≡ true) (λ p. IsFirstCut c bs p.0.now p.1.now)
cut_found c bs None h = lacks-all c bs h
cut_found c bs (Some p) h =
    let k = position_or_len (λ b. eqb b c) bs in
    let (front, split) = front_lacks c bs k refl h.2 in
    let next : suc k ≡ k + 1 = omega arith in
    (ap (lacks c) h.0 ∙ front, split ∙ (ap (λ l. l ++ c ∷ drop (suc k) bs) (sym h.0) ∙ ap (λ l. p.0.now ++ c ∷ l) (ap (λ n. drop n bs) next ∙ sym h.1)))
