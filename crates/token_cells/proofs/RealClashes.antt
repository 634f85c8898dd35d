-- A clash that is told is one, and none is told where no two tokens have a name in common.
use Rattle.std.proofs.Common.{◌≡◌, ℕ, zero, suc, ◌<◌, Bool, true, false, ◌||◌, cond, List, [], ◌∷◌, ◌++◌, map, length, get_or, Option, Some, None, refl, sym, ap, subst, ◌∙◌, inl, inr, arith, append_assoc}
use Rattle.std.specs.BTreeMap.{is_at}
use Rattle.std.specs.FinMap as finite
use Rattle.std.specs.Option.{option_or}
use Rattle.std.specs.Prelude.{AllPairs, Contains}
use Rattle.tk_io.specs.Order.{text_cmp}
use Rattle.transforms.specs.Clash.{Taken, first_taken, with_names, is_among, ShareNoName, TokenNamesApart}
use Rattle.transforms.specs.declared.platform.Platform.{Platform}
use Rattle.transforms.proofs.Taken.{get-with_names, same_name}
use Rattle.ring.specs.Lists.{In}
use Rattle.refusals.specs.Refusal.{Report}
use Rattle.token_cells.specs.Cell.{TokenPath}
use Rattle.token_cells.specs.Breaks.{Celled, names_on, clash_report, clash_reports, clashes_from, taken_behind, clashes_on}
use Rattle.token_cells.specs.Laws.{IsClash, named_on, AreApartOn, ClashesAreReal, UnclashedAreApart, ApartAreUnclashed}
use Rattle.token_cells.proofs.Beside.{added}

-- elements of lists

in_left : {A : Type 0} (xs ys : List A) (x : A) → In x xs → In x (xs ++ ys)
in_left [] ys x i = absurd i
in_left (y ∷ xs) ys x (inl same) = inl same
in_left (y ∷ xs) ys x (inr i) = inr (in_left xs ys x i)

in_between : {A : Type 0} (xs : List A) (y : A) (zs : List A) → In y (xs ++ y ∷ zs)
in_between [] y zs = inl refl
in_between (x ∷ xs) y zs = inr (in_between xs y zs)

in_mapped : {A B : Type 0} (f : A → B) (xs : List A) (y : A) (zs : List A) → In (f y) (map f (xs ++ y ∷ zs))
in_mapped f [] y zs = inl refl
in_mapped f (x ∷ xs) y zs = inr (in_mapped f xs y zs)

contains : {A : Type 0} (x : A) (xs : List A) → In x xs → Contains xs x
contains x [] i = absurd i
contains x (y ∷ ys) (inl same) = (zero, omega arith, sym same)
contains x (y ∷ ys) (inr i) = let (k, low, at) = contains x ys i in (suc k, omega (arith, low), at)

in_at : {A : Type 0} (x : A) (xs : List A) (k : ℕ) → k < length xs → get_or xs k x ≡ x → In x xs
in_at x [] k low at = absurd (omega (arith, low))
in_at x (y ∷ ys) zero low at = inl (sym at)
in_at x (y ∷ ys) (suc k) low at = inr (in_at x ys k (omega (arith, low)) at)

first_pair : {A : Type 0} (R : A → A → Type 0) (x y : A) (xs : List A) → AllPairs R (x ∷ xs) → In y xs → R x y
first_pair R x y xs h i = let (k, low, at) = contains y xs i in subst (R x) at (h zero (suc k) y (omega arith) (omega (arith, low)))

other_pairs : {A : Type 0} (R : A → A → Type 0) (x : A) (xs : List A) → AllPairs R (x ∷ xs) → AllPairs R xs
other_pairs R x xs h i j d below low = h (suc i) (suc j) d (omega (arith, below)) (omega (arith, low))

-- an element and one before it
pair_at : {A B : Type 0} (R : B → B → Type 0) (f : A → B) (before : List A) (later : A) (after : List A) → AllPairs R (map f (before ++ later ∷ after))
    → (earlier : A) → In earlier before → R (f earlier) (f later)
pair_at R f [] later after h earlier i = absurd i
pair_at R f (x ∷ xs) later after h earlier (inl same) =
    subst (λ y. R (f y) (f later)) (sym same) (first_pair R (f x) (f later) (map f (xs ++ later ∷ after)) h (in_mapped f xs later after))
pair_at R f (x ∷ xs) later after h earlier (inr i) = pair_at R f xs later after (other_pairs R (f x) (map f (xs ++ later ∷ after)) h) earlier i

-- names that are taken

some_other : {A : Type 0} {x : A} → Some x ≡ None → ⊥
some_other e = cc

some_same : {A : Type 0} (x y : A) → Some x ≡ Some y → x ≡ y
some_same x y e = cc

pub among_in : (names : List (List ℕ)) (q : List ℕ) → is_among q names ≡ true → In q names
among_in [] q e = cc
among_in (n ∷ names) q e = at (is_at (text_cmp n) q) refl (among_in names q)
  where
    at : (b : Bool) → is_at (text_cmp n) q ≡ b → (is_among q names ≡ true → In q names) → In q (n ∷ names)
    at true same rest = inl (sym (same_name n q same))
    at false same rest = inr (rest (subst (λ b. (b || is_among q names) ≡ true) same e))

-- what is taken first is one of the names
first_from : (taken : Taken) (names : List (List ℕ)) (p : TokenPath) → first_taken taken names ≡ Some p → (name : List ℕ) × In name names × (finite.get taken name ≡ Some p)
first_from taken [] p e = cc
first_from taken (n ∷ names) p e = at (finite.get taken n) refl (first_from taken names p)
  where
    at : (o : Option TokenPath) → finite.get taken n ≡ o → (first_taken taken names ≡ Some p → (name : List ℕ) × In name names × (finite.get taken name ≡ Some p))
        → (name : List ℕ) × In name (n ∷ names) × (finite.get taken name ≡ Some p)
    at None is rest = let (name, i, found) = rest (subst (λ o. option_or o (first_taken taken names) ≡ Some p) is e) in (name, inr i, found)
    at (Some q) is rest = (n, inl refl, is ∙ subst (λ o. option_or o (first_taken taken names) ≡ Some p) is e)

module _ (platform : Platform) where
  -- each name that is taken is one of an earlier token, under that token's path
  abbrev Owned : List Celled → Taken → Type 0
  Owned before taken = (name : List ℕ) (path : TokenPath) → finite.get taken name ≡ Some path → (e : Celled) × In e before × (e.0.0 ≡ path) × In name (names_on platform e.1)

  owned_more : (before : List Celled) (taken : Taken) (e : Celled) → Owned before taken → Owned (before ++ e ∷ []) (with_names taken (names_on platform e.1) e.0.0)
  owned_more before taken e owned name path found = at (is_among name (names_on platform e.1)) refl
    where
      stands : (b : Bool) → is_among name (names_on platform e.1) ≡ b → cond b (Some e.0.0) (finite.get taken name) ≡ Some path
      stands b is = sym (get-with_names taken (names_on platform e.1) e.0.0 name ∙ ap (λ b. cond b (Some e.0.0) (finite.get taken name)) is) ∙ found

      at : (b : Bool) → is_among name (names_on platform e.1) ≡ b → (x : Celled) × In x (before ++ e ∷ []) × (x.0.0 ≡ path) × In name (names_on platform x.1)
      at true is = (e, in_between before e [], some_same e.0.0 path (stands true is), among_in (names_on platform e.1) name is)
      at false is = let (x, i, p, n) = owned name path (stands false is) in (x, in_left before (e ∷ []) x i, p, n)

  owned_still : (before : List Celled) (taken : Taken) (e : Celled) → Owned before taken → Owned (before ++ e ∷ []) taken
  owned_still before taken e owned name path found = let (x, i, p, n) = owned name path found in (x, in_left before (e ∷ []) x i, p, n)

  -- a token that has a name of an earlier one
  clash_at : (before : List Celled) (taken : Taken) (e : Celled) (after : List Celled) (other : TokenPath) (r : Report) → Owned before taken
      → first_taken taken (names_on platform e.1) ≡ Some other → r ≡ clash_report platform e.0 other → IsClash platform (before ++ e ∷ after) r
  clash_at before taken e after other r owned is told =
      let (name, i, found) = first_from taken (names_on platform e.1) other is in
      let (x, j, p, n) = owned name other found in
      record {
        before = before;
        later = e;
        after = after;
        split = refl;
        earlier = x;
        there = contains x before j;
        name = name;
        of_earlier = contains name (names_on platform x.1) n;
        of_later = contains name (names_on platform e.1) i;
        told = told ∙ ap (λ q. clash_report platform e.0 q) (sym p);
      }

  abbrev Again : List Celled → List Celled → Report → Type 0
  Again all es r = (before : List Celled) (taken : Taken) → all ≡ before ++ es → Owned before taken → In r (clashes_from platform (names_on platform) taken es) → IsClash platform all r

  behind : (all before : List Celled) (taken : Taken) (e : Celled) (es : List Celled) (r : Report) → Again all es r → all ≡ before ++ e ∷ es → Owned before taken
      → (o : Option TokenPath) → first_taken taken (names_on platform e.1) ≡ o
      → In r (clash_reports platform e.0 o ++ clashes_from platform (names_on platform) (taken_behind taken (names_on platform e.1) e.0.0 o) es) → IsClash platform all r
  behind all before taken e es r again split owned None is i =
      again (before ++ e ∷ []) (with_names taken (names_on platform e.1) e.0.0) (split ∙ sym (append_assoc before (e ∷ []) es)) (owned_more before taken e owned) i
  behind all before taken e es r again split owned (Some other) is (inl told) =
      subst (λ xs. IsClash platform xs r) (sym split) (clash_at before taken e es other r owned is told)
  behind all before taken e es r again split owned (Some other) is (inr i) =
      again (before ++ e ∷ []) taken (split ∙ sym (append_assoc before (e ∷ []) es)) (owned_still before taken e owned) i

  real_from : (all es : List Celled) (r : Report) → Again all es r
  real_from all [] r before taken split owned i = absurd i
  real_from all (e ∷ es) r before taken split owned i =
      behind all before taken e es r (λ b t s o j. real_from all es r b t s o j) split owned (first_taken taken (names_on platform e.1)) refl i

  none_owned : Owned [] finite.empty
  none_owned name path found = absurd (some_other (sym found ∙ finite.get-empty text_cmp name))

  real : (es : List Celled) (r : Report) → In r (clashes_on platform es) → IsClash platform es r
  real es r i = real_from es es r [] finite.empty refl none_owned i

  no_clash : (es : List Celled) (r : Report) → AreApartOn platform es → IsClash platform es r → ⊥
  no_clash es r apart c =
      pair_at ShareNoName (named_on platform) c.before c.later c.after (subst (λ xs. AllPairs ShareNoName (map (named_on platform) xs)) c.split apart)
      c.earlier (in_at c.earlier c.before c.there.0 c.there.1 c.there.2) c.name c.of_earlier c.of_later

  none_told : (es : List Celled) → AreApartOn platform es → (told : List Report) → clashes_on platform es ≡ told → clashes_on platform es ≡ []
  none_told es apart [] is = is
  none_told es apart (r ∷ rs) is = absurd (no_clash es r apart (real es r (subst (λ xs. In r xs) (sym is) (inl refl))))

pub clashes_real : ClashesAreReal
clashes_real platform es r c = real platform es r (in_at r (clashes_on platform es) c.0 c.1 c.2)

pub apart_unclashed : ApartAreUnclashed
apart_unclashed platform es apart = none_told platform es apart (clashes_on platform es) refl

pub unclashed_apart : TokenNamesApart → UnclashedAreApart
unclashed_apart apart platform es none =
    let (after, all) = added platform (names_on platform) finite.empty es none in
    apart (map (named_on platform) es) after all
