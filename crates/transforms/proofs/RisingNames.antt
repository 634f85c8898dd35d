-- Names that rise are apart.
use Rattle.std.proofs.Common.{◌≡◌, ℕ, Bool, true, false, List, [], ◌∷◌, ◌+◌, map, length, cond, refl, sym, ap, ◌∙◌, inl, inr, arith, nat_lt, Ordering, Less, Equal, Greater}
use Rattle.std.specs.List.{AllAdjacentBelow}
use Rattle.std.specs.Ordering.{is_lt, ordering_then}
use Rattle.ring.specs.Lists.{In, AreApart}
use Rattle.transforms.specs.Rising.{rank, rises}
use Rattle.transforms.proofs.SortedNames as sorted

module _ {A B C : Type 0} (name : A → B) (ranked : B → C) where
  in_ranked : (x : B) (xs : List A) → In x (map name xs) → In (ranked x) (map (λ y. ranked (name y)) xs)
  in_ranked x [] i = absurd i
  in_ranked x (y ∷ ys) (inl e) = inl (ap ranked e)
  in_ranked x (y ∷ ys) (inr i) = inr (in_ranked x ys i)

  -- what is apart by its rank is apart
  pub apart_by_rank : (xs : List A) → AreApart (map (λ y. ranked (name y)) xs) → AreApart (map name xs)
  apart_by_rank [] apart = tt
  apart_by_rank (x ∷ xs) apart = ((λ i. apart.0 (in_ranked (name x) xs i)), apart_by_rank xs apart.1)

pub rising_names : {A : Type 0} (name : A → List ℕ) (xs : List A) → AllAdjacentBelow (λ x y. true ≡ rises (name x) (name y)) xs (length xs) → AreApart (map name xs)
rising_names name xs rise = apart_by_rank name (map rank) xs (sorted.rising_apart _ (sorted.rises (λ x. map rank (name x)) xs rise))

-- the first of two bytes that differ by rank decides
by_first : (less equal : Bool) (behind : Ordering) → (cond less Less (cond equal Equal Greater) ≡ Equal → ⊥) → less ≡ is_lt (ordering_then (cond less Less (cond equal Equal Greater)) behind)
by_first true equal behind other = refl
by_first false true behind other = absurd (other refl)
by_first false false behind other = refl

-- where one ends, the longer one stands behind
pub at_first_end : (others : List ℕ) → rises [] others ≡ nat_lt 0 (length others)
at_first_end [] = refl
at_first_end (other ∷ others) = grind arith

pub at_second_end : (rest : List ℕ) → rises rest [] ≡ false
at_second_end [] = refl
at_second_end (byte ∷ rest) = refl

pub first_ended : (name next rest others : List ℕ) → length name + length others ≡ length next + length rest → length rest ≡ 0 → rises name next ≡ rises rest others → nat_lt (length name) (length next) ≡ rises name next
first_ended name next [] others beside ended same =
    let shorter : nat_lt (length name) (length next) ≡ nat_lt 0 (length others) = grind (arith, beside) in
    shorter ∙ (sym (at_first_end others) ∙ sym same)
first_ended name next (byte ∷ rest) others beside ended same = absurd (omega (arith, ended))

pub second_ended : (name next rest others : List ℕ) → length name + length others ≡ length next + length rest → length others ≡ 0 → rises name next ≡ rises rest others → nat_lt (length name) (length next) ≡ rises name next
second_ended name next rest [] beside ended same =
    let longer : nat_lt (length name) (length next) ≡ false = grind (arith, beside) in
    longer ∙ (sym (at_second_end rest) ∙ sym same)
second_ended name next rest (other ∷ others) beside ended same = absurd (omega (arith, ended))
