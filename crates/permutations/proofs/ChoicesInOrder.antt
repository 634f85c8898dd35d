-- Which choice stands at which place.
use Rattle.std.proofs.Common.{◌≡◌, ◌∙◌, ◌+◌, ◌-◌, ◌*◌, ◌<◌, ◌≤◌, ℕ, zero, suc, List, [], ◌∷◌, ◌++◌, length, map, Some, get_or, refl, sym, ap, ap₂, subst, inl, inr, arith}
use Rattle.std.specs.Prelude.{◌⊎◌, slice_get, option_map}
use Rattle.std.specs.List.{flat_map}
use Rattle.std.proofs.lemmas.Bool.{cases_lt}
use Rattle.std.proofs.lemmas.List.{length-map}
use Rattle.std.proofs.lemmas.Option.{none-some, same_Some, slice_get-map, slice_get_within, slice_get-get_or}
use Rattle.resolver_doc.specs.Document.{ItemData}
use Rattle.permutations.specs.Permutation.{Pick, picks, choices}
use Rattle.permutations.specs.Choices.{ArePicksAt, choice_count, place_of}
use Rattle.permutations.proofs.Counts.{length-choices}

nth_left : {A : Type 0} (xs ys : List A) (k : ℕ) → k < length xs → slice_get (xs ++ ys) k ≡ slice_get xs k
nth_left [] ys k less = absurd (omega (arith, less))
nth_left (x ∷ xs) ys zero less = refl
nth_left (x ∷ xs) ys (suc k) less = nth_left xs ys k (omega (arith, less))

nth_right : {A : Type 0} (xs ys : List A) (k : ℕ) → slice_get (xs ++ ys) (length xs + k) ≡ slice_get ys k
nth_right [] ys k = let e : 0 + k ≡ k = omega arith in ap (slice_get ys) e
nth_right (x ∷ xs) ys k = let e : suc (length xs) + k ≡ suc (length xs + k) = omega arith in ap (slice_get (x ∷ xs ++ ys)) e ∙ nth_right xs ys k

-- each pick of one list before each choice of another
abbrev before : List Pick → List (List Pick) → List (List Pick)
before ps cs = flat_map (λ p. map (λ rest. p ∷ rest) cs) ps

further : (k m j n : ℕ) → n ≡ m → suc k * m + j ≡ n + (k * m + j)
further k m j n e = omega (arith, e)

-- where a pick and a choice stand, what they make stands at this place
at_pair : (ps : List Pick) (cs : List (List Pick)) (k j : ℕ) (p : Pick) (c : List Pick) → slice_get ps k ≡ Some p → slice_get cs j ≡ Some c → slice_get (before ps cs) (k * length cs + j) ≡ Some (p ∷ c)
at_pair [] cs k j p c e f = absurd (none-some p e)
at_pair (q ∷ ps) cs zero j p c e f =
    let row = map (λ rest. q ∷ rest) cs in
    let within : j < length row = omega (arith, slice_get_within cs j c f, length-map cs (λ rest. q ∷ rest)) in
    let first : 0 * length cs + j ≡ j = omega arith in
    ap (slice_get (row ++ before ps cs)) first
    ∙ (nth_left row (before ps cs) j within
    ∙ (slice_get-map (λ rest. q ∷ rest) cs j
    ∙ (ap (option_map (λ rest. q ∷ rest)) f ∙ ap (λ x. Some (x ∷ c)) (same_Some q p e))))
at_pair (q ∷ ps) cs (suc k) j p c e f =
    let row = map (λ rest. q ∷ rest) cs in
    ap (slice_get (row ++ before ps cs)) (further k (length cs) j (length row) (length-map cs (λ rest. q ∷ rest)))
    ∙ (nth_right row (before ps cs) (k * length cs + j) ∙ at_pair ps cs k j p c e f)

-- .. and what stands at a place is made so
pub record IsPair (ps : List Pick) (cs : List (List Pick)) (i : ℕ) (c : List Pick) : Type 0 where
  pub k : ℕ
  pub j : ℕ
  pub p : Pick
  pub rest : List Pick
  pub first : slice_get ps k ≡ Some p
  pub behind : slice_get cs j ≡ Some rest
  pub is : c ≡ p ∷ rest
  pub place : i ≡ k * length cs + j

pair_first : (q : Pick) (ps : List Pick) (cs : List (List Pick)) (i : ℕ) (c : List Pick) → slice_get (before (q ∷ ps) cs) i ≡ Some c → i < length cs → IsPair (q ∷ ps) cs i c
pair_first q ps cs i c e less =
    let row = map (λ rest. q ∷ rest) cs in
    let d = get_or cs i [] in
    let behind : slice_get cs i ≡ Some d = slice_get-get_or cs i [] less in
    let within : i < length row = omega (arith, less, length-map cs (λ rest. q ∷ rest)) in
    let made : slice_get row i ≡ Some (q ∷ d) = slice_get-map (λ rest. q ∷ rest) cs i ∙ ap (option_map (λ rest. q ∷ rest)) behind in
    record {
      k = 0;
      j = i;
      p = q;
      rest = d;
      first = refl;
      behind = behind;
      is = same_Some c (q ∷ d) (sym e ∙ (nth_left row (before ps cs) i within ∙ made));
      place = omega arith;
    }

pair_later : (q : Pick) (ps : List Pick) (cs : List (List Pick)) (i : ℕ) (c : List Pick) → ((j : ℕ) → slice_get (before ps cs) j ≡ Some c → IsPair ps cs j c) → slice_get (before (q ∷ ps) cs) i ≡ Some c → length cs ≤ i → IsPair (q ∷ ps) cs i c
pair_later q ps cs i c rec e more =
    let row = map (λ rest. q ∷ rest) cs in
    let j = i - length cs in
    let long : length row ≡ length cs = length-map cs (λ rest. q ∷ rest) in
    let at : i ≡ length row + j = omega (arith, more, long) in
    let later = rec j (sym (nth_right row (before ps cs) j) ∙ (sym (ap (slice_get (row ++ before ps cs)) at) ∙ e)) in
    record {
      k = suc later.k;
      j = later.j;
      p = later.p;
      rest = later.rest;
      first = later.first;
      behind = later.behind;
      is = later.is;
      place = at ∙ (ap (λ n. length row + n) later.place ∙ sym (further later.k (length cs) later.j (length row) long));
    }

pair_either : (q : Pick) (ps : List Pick) (cs : List (List Pick)) (i : ℕ) (c : List Pick) → ((j : ℕ) → slice_get (before ps cs) j ≡ Some c → IsPair ps cs j c) → slice_get (before (q ∷ ps) cs) i ≡ Some c → (i < length cs) ⊎ (length cs ≤ i) → IsPair (q ∷ ps) cs i c
pair_either q ps cs i c rec e (inl less) = pair_first q ps cs i c e less
pair_either q ps cs i c rec e (inr more) = pair_later q ps cs i c rec e more

from_pair : (ps : List Pick) (cs : List (List Pick)) (i : ℕ) (c : List Pick) → slice_get (before ps cs) i ≡ Some c → IsPair ps cs i c
from_pair [] cs i c e = absurd (none-some c e)
from_pair (q ∷ ps) cs i c e = pair_either q ps cs i c (λ j f. from_pair ps cs j c f) e (cases_lt i (length cs))

pub as_many : (items : List ItemData) → length (choices items) ≡ choice_count items
as_many [] = refl
as_many (item ∷ items) = length-choices item items ∙ ap (λ n. length (picks item) * n) (as_many items)

pub at_place : (items : List ItemData) (ks : List ℕ) (ps : List Pick) → ArePicksAt items ks ps → slice_get (choices items) (place_of items ks) ≡ Some ps
at_place [] [] [] h = refl
at_place [] [] (p ∷ ps) h = absurd h
at_place [] (k ∷ ks) ps h = absurd h
at_place (item ∷ items) [] ps h = absurd h
at_place (item ∷ items) (k ∷ ks) [] h = absurd h
at_place (item ∷ items) (k ∷ ks) (p ∷ ps) h =
    ap (λ n. slice_get (choices (item ∷ items)) (k * n + place_of items ks)) (sym (as_many items))
    ∙ at_pair (picks item) (choices items) k (place_of items ks) p ps h.0 (at_place items ks ps h.1)

pub each_place : (items : List ItemData) (i : ℕ) (ps : List Pick) → slice_get (choices items) i ≡ Some ps → (ks : List ℕ) × ArePicksAt items ks ps × (i ≡ place_of items ks)
each_place [] zero ps e = ([], subst (λ c. ArePicksAt [] [] c) (same_Some [] ps e) tt, refl)
each_place [] (suc i) ps e = absurd (none-some ps e)
each_place (item ∷ items) i ps e =
    let pair = from_pair (picks item) (choices items) i ps e in
    let (ks, picked, place) = each_place items pair.j pair.rest pair.behind in (
      pair.k ∷ ks,
      subst (λ c. ArePicksAt (item ∷ items) (pair.k ∷ ks) c) (sym pair.is) (pair.first, picked),
      pair.place ∙ ap₂ (λ n m. pair.k * n + m) (as_many items) place,
    )
