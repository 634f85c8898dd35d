-- What stands beside what, and names without a clash.
use Rattle.std.proofs.Common.{◌≡◌, ℕ, List, [], ◌∷◌, ◌++◌, map, Option, Some, None, refl, sym, subst, inl, inr}
use Rattle.std.specs.List.{AllZip}
use Rattle.transforms.specs.Clash.{Taken, NamedToken, AllAdded, first_taken, with_names}
use Rattle.transforms.specs.declared.platform.Platform.{Platform}
use Rattle.transforms.specs.declared.platform.Platform.TheVariants.{Css, Android, Swift}
use Rattle.ring.specs.Lists.{In}
use Rattle.token_cells.specs.Breaks.{Celled, clash_reports, clashes_from, taken_behind, clashes_on, name_clashes}
use Rattle.refusals.specs.Refusal.{Report}
use Rattle.token_cells.specs.TokenCell.{TokenCell}

pub nil_cons : {A : Type 0} (x : A) (xs : List A) → x ∷ xs ≡ [] → ⊥
nil_cons x xs e = cc

nil_right : {A : Type 0} (xs ys : List A) → xs ++ ys ≡ [] → ys ≡ []
nil_right [] ys e = e
nil_right (x ∷ xs) ys e = absurd (nil_cons x (xs ++ ys) e)

pub left_of : {A B : Type 0} (R : A → B → Type 0) (xs : List A) (ys : List B) (y : B) → AllZip R xs ys → In y ys → (x : A) × In x xs × R x y
left_of R [] [] y z i = absurd i
left_of R [] (b ∷ ys) y z i = absurd z
left_of R (a ∷ xs) [] y z i = absurd i
left_of R (a ∷ xs) (b ∷ ys) y (r, z) (inl same) = (a, inl refl, subst (λ w. R a w) (sym same) r)
left_of R (a ∷ xs) (b ∷ ys) y (r, z) (inr i) = let (x, j, s) = left_of R xs ys y z i in (x, inr j, s)

pub weaker : {A B : Type 0} (R S : A → B → Type 0) → ((x : A) (y : B) → R x y → S x y) → (xs : List A) (ys : List B) → AllZip R xs ys → AllZip S xs ys
weaker R S f [] [] z = tt
weaker R S f [] (y ∷ ys) z = absurd z
weaker R S f (x ∷ xs) [] z = absurd z
weaker R S f (x ∷ xs) (y ∷ ys) (r, z) = (f x y r, weaker R S f xs ys z)

-- names without a clash

abbrev pub named_by : (TokenCell → List (List ℕ)) → Celled → NamedToken
named_by names e = record { path = e.0.0; names = names e.1 }

module _ (platform : Platform) (names : TokenCell → List (List ℕ)) where
  abbrev Adds : Taken → List Celled → Type 0
  Adds taken es = (after : Taken) × AllAdded taken (map (named_by names) es) after

  added_behind : (taken : Taken) (e : Celled) (es : List Celled) → ((t : Taken) → clashes_from platform names t es ≡ [] → Adds t es) → (o : Option (List (List ℕ))) → first_taken taken (names e.1) ≡ o
      → clash_reports platform e.0 o ++ clashes_from platform names (taken_behind taken (names e.1) e.0.0 o) es ≡ [] → Adds taken (e ∷ es)
  added_behind taken e es again None is h = let (after, all) = again (with_names taken (names e.1) e.0.0) h in (after, (is, all))
  added_behind taken e es again (Some other) is h = absurd (nil_cons _ _ h)

  pub added : (taken : Taken) (es : List Celled) → clashes_from platform names taken es ≡ [] → Adds taken es
  added taken [] none = (taken, refl)
  added taken (e ∷ es) none = added_behind taken e es (λ t h. added t es h) (first_taken taken (names e.1)) refl none

-- no break of cells and no clash on any platform

nil_left : {A : Type 0} (xs ys : List A) → xs ++ ys ≡ [] → xs ≡ []
nil_left [] ys e = refl
nil_left (x ∷ xs) ys e = absurd (nil_cons x (xs ++ ys) e)

pub record AreClean (reports : List Report) (es : List Celled) : Type 0 where
  pub cells : reports ≡ []
  pub css : clashes_on Css es ≡ []
  pub android : clashes_on Android es ≡ []
  pub swift : clashes_on Swift es ≡ []

pub name_clashes_none : (reports : List Report) (es : List Celled) → reports ++ name_clashes es ≡ [] → AreClean reports es
name_clashes_none reports es none =
    let all = nil_right reports (name_clashes es) none in
    let others = nil_right (clashes_on Css es) (clashes_on Android es ++ clashes_on Swift es) all in
    record {
      cells = nil_left reports (name_clashes es) none;
      css = nil_left (clashes_on Css es) (clashes_on Android es ++ clashes_on Swift es) all;
      android = nil_left (clashes_on Android es) (clashes_on Swift es) others;
      swift = nil_right (clashes_on Android es) (clashes_on Swift es) others;
    }
