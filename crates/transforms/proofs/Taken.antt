-- What is there after names were added: these names under their paths, and all others as before.
use Rattle.std.proofs.Common.{◌≡◌, ℕ, zero, suc, ◌<◌, Bool, true, false, ◌||◌, Bor, cond, List, [], ◌∷◌, get_or, length, map as each, Option, Some, None, Ordering, Less, Equal, Greater, arith, refl, sym, ap, subst, ◌∙◌}
use Rattle.std.specs.BTreeMap.{is_at}
use Rattle.std.specs.Cmp.Lexicographic.{nat_list_cmp_total}
use Rattle.std.specs.FinMap as map
use Rattle.std.specs.Option.{option_or}
use Rattle.std.specs.Ordering.{is_eq}
use Rattle.tk_io.specs.Order.{text_cmp}
use Rattle.tk_io.proofs.MapViews.{at_insert}
use Rattle.tk_io.proofs.TextMaps.{text_cmp-IsAntisymmetric}
use Rattle.transforms.specs.Clash.{Taken, first_taken, with_names, is_among}

-- the second test decides only where the first does not
joined_tests : {X : Type 0} (a b : Bool) (x y : X) → cond b x (cond a x y) ≡ cond (a || b) x y
joined_tests true true x y = refl
joined_tests true false x y = refl
joined_tests false b x y = refl

pub get-with_names : (taken : Taken) (names path : List (List ℕ)) (q : List ℕ) → map.get (with_names taken names path) q ≡ cond (is_among q names) (Some path) (map.get taken q)
get-with_names taken [] path q = refl
get-with_names taken (name ∷ names) path q =
    get-with_names (map.insert taken name path) names path q
    ∙ (ap (λ o. cond (is_among q names) (Some path) o) (at_insert nat_list_cmp_total taken name path q)
    ∙ joined_tests (is_at (text_cmp name) q) (is_among q names) (Some path) (map.get taken q))

neither : (a b : Bool) → (a || b) ≡ false → (a ≡ false) × (b ≡ false)
neither true b e = cc
neither false b e = (refl, e)

-- a name that is none of these is not at the place of one of them
pub elsewhere : (names : List (Bor (List ℕ))) (i : ℕ) (d : Bor (List ℕ)) (q : List ℕ) → i < length names → is_among q (each (λ name. name.now) names) ≡ false
    → is_at (text_cmp (get_or names i d).now) q ≡ false
elsewhere [] i d q within none = absurd (omega (arith, within))
elsewhere (name ∷ names) zero d q within none = (neither (is_at (text_cmp name.now) q) (is_among q (each (λ name. name.now) names)) none).0
elsewhere (name ∷ names) (suc i) d q within none =
    elsewhere names i d q (omega (arith, within)) (neither (is_at (text_cmp name.now) q) (is_among q (each (λ name. name.now) names)) none).1

tied : (o : Ordering) → is_eq o ≡ true → o ≡ Equal
tied Less e = cc
tied Equal e = refl
tied Greater e = cc

pub same_name : (name q : List ℕ) → is_at (text_cmp name) q ≡ true → name ≡ q
same_name name q e = text_cmp-IsAntisymmetric name q (tied (text_cmp name q) e)

none_first : {X : Type 0} (o p : Option X) → option_or o p ≡ None → o ≡ None
none_first None p e = refl
none_first (Some x) p e = cc

none_then : {X : Type 0} (o p : Option X) → option_or o p ≡ None → p ≡ None
none_then None p e = e
none_then (Some x) p e = cc

-- where no name is taken, none of them is there
pub absent : (taken : Taken) (names : List (List ℕ)) → first_taken taken names ≡ None → (q : List ℕ) → is_among q names ≡ true → map.get taken q ≡ None
absent taken [] none q among = cc
absent taken (name ∷ names) none q among =
    here (absent taken names (none_then (map.get taken name) (first_taken taken names) none) q) (is_at (text_cmp name) q) refl
  where
    here : (is_among q names ≡ true → map.get taken q ≡ None) → (b : Bool) → is_at (text_cmp name) q ≡ b → map.get taken q ≡ None
    here rest true e = subst (λ k. map.get taken k ≡ None) (same_name name q e) (none_first (map.get taken name) (first_taken taken names) none)
    here rest false e = rest (subst (λ b. (b || is_among q names) ≡ true) e among)

-- names that are taken away again leave what was there
pub taken_away : (taken mixed left : Taken) (names : List (List ℕ)) → first_taken taken names ≡ None
    → ((q : List ℕ) → is_among q names ≡ false → map.get mixed q ≡ map.get taken q)
    → ((q : List ℕ) → map.get left q ≡ cond (is_among q names) None (map.get mixed q)) → left ≡ taken
taken_away taken mixed left names none others gone = map.same_map nat_list_cmp_total text_cmp-IsAntisymmetric left taken (λ q. at q (is_among q names) refl)
  where
    at : (q : List ℕ) (b : Bool) → is_among q names ≡ b → map.get left q ≡ map.get taken q
    at q true e = gone q ∙ (ap (λ b. cond b None (map.get mixed q)) e ∙ sym (absent taken names none q e))
    at q false e = gone q ∙ (ap (λ b. cond b None (map.get mixed q)) e ∙ others q e)
