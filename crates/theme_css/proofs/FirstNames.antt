-- The first bad name of items, from a place on.
use Rattle.std.proofs.Common.{◌≡◌, ◌∙◌, ◌<◌, ◌+◌, ℕ, List, [], ◌∷◌, ◌++◌, length, drop, get_or, Some, None, refl, sym, ap}
use Rattle.std.specs.List.{flat_map, slice_get}
use Rattle.std.proofs.lemmas.List.{at_drop_more}
use Rattle.resolver_doc.specs.View.{item_view, order_view}
use Rattle.resolver_doc.specs.declared.written.Item.{Item}
use Rattle.theme_css.specs.Themes.{bad_names_in}

abbrev Names : Type 0
Names = List (List ℕ)

none_first : (xs : Names) → None ≡ slice_get xs 0 → xs ≡ []
none_first [] e = refl
none_first (x ∷ xs) e = cc

some_first : (xs ys : Names) (name : List ℕ) → Some name ≡ slice_get xs 0 → Some name ≡ slice_get (xs ++ ys) 0
some_first [] ys name e = cc
some_first (x ∷ xs) ys name e = e

abbrev pub bad_from : List Item → ℕ → Names
bad_from order i = flat_map bad_names_in (order_view (drop i order))

at_item : (order : List Item) (i : ℕ) (item : Item) → i < length order → item ≡ get_or order i item → bad_from order i ≡ bad_names_in (item_view item) ++ bad_from order (i + 1)
at_item order i item below is =
    at_drop_more (λ (l : List Item). flat_map bad_names_in (order_view l)) order i item below
    ∙ ap (λ (x : Item). bad_names_in (item_view x) ++ bad_from order (i + 1)) (sym is)

pub next_item : (order : List Item) (i : ℕ) (item : Item) (all : Names) → i < length order → item ≡ get_or order i item → None ≡ slice_get (bad_names_in (item_view item)) 0 → bad_from order i ≡ all
    → bad_from order (i + 1) ≡ all
next_item order i item all below is e h =
    ap (λ (l : Names). l ++ bad_from order (i + 1)) (sym (none_first (bad_names_in (item_view item)) e)) ∙ (sym (at_item order i item below is) ∙ h)

pub found_name : (order : List Item) (i : ℕ) (item : Item) (all : Names) (name : List ℕ) → i < length order → item ≡ get_or order i item → Some name ≡ slice_get (bad_names_in (item_view item)) 0
    → bad_from order i ≡ all → Some name ≡ slice_get all 0
found_name order i item all name below is e h =
    some_first (bad_names_in (item_view item)) (bad_from order (i + 1)) name e ∙ ap (λ (l : Names). slice_get l 0) (sym (at_item order i item below is) ∙ h)
