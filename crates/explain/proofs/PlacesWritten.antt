-- The value at a place, step after step.
use Rattle.std.proofs.Common.{◌≡◌, ℕ, zero, suc, ◌+◌, ◌-◌, ◌<◌, List, [], ◌∷◌, ◌++◌, Bool, true, false, cond, Option, Some, None, refl, sym, ap, ◌∙◌, subst, option_map, length, take, drop, get_or, drop-cons, add-one, arith}
use Rattle.std.proofs.lemmas.List.{take_more}
use Rattle.std.specs.Prelude.{is_some, option_and_then, slice_get}
use Rattle.std.specs.FinMap as map
use Rattle.std.specs.Str.{bytes_eq}
use Rattle.json_span.specs.Tree.{Tree, a_null, a_boolean, a_number, a_string, an_array, an_object, Placed, Entry, tree_of, elements_in, entries_in, array_in, object_in, value_of_name}
use Rattle.name_path.specs.declared.place.Place.{Place}
use Rattle.group_inherit.specs.Flattening.{Flattened}
use Rattle.alias_ref.specs.Written.{Step, Written, role_behind, role_at_end, is_reference, parts_of, parts_by_index, parts_by_name, part_under, part_behind, value_at, written_as, role_at, written_at, written_in, is_written}
use Rattle.alias_ref.specs.Laws.{Flat}

-- parts under names
under_named : (s : Step) (es : List Entry) → part_under s (parts_by_name es) ≡ value_of_name s es
under_named s [] = refl
under_named s (e ∷ es) = ap (cond (bytes_eq e.name s) (Some e.value)) (under_named s es)

-- the parts of a value, by what it is
pub array_parts : (v : Tree) (ns : List Placed) (s : Step) → array_in v ≡ Some ns → part_under s (parts_of v) ≡ part_under s (parts_by_index 0 ns)
array_parts a_null ns s e = absurd (cc)
array_parts (a_boolean b) ns s e = absurd (cc)
array_parts (a_number k) ns s e = absurd (cc)
array_parts (a_string t) ns s e = absurd (cc)
array_parts (an_array es) ns s e = let same : elements_in es ≡ ns = cc in ap (λ xs. part_under s (parts_by_index 0 xs)) same
array_parts (an_object ms) ns s e = absurd (cc)

pub object_parts : (v : Tree) (es : List Entry) (s : Step) → object_in v ≡ Some es → part_under s (parts_of v) ≡ value_of_name s es
object_parts a_null es s e = absurd (cc)
object_parts (a_boolean b) es s e = absurd (cc)
object_parts (a_number k) es s e = absurd (cc)
object_parts (a_string t) es s e = absurd (cc)
object_parts (an_array ns) es s e = absurd (cc)
object_parts (an_object ms) es s e = let same : entries_in ms ≡ es = cc in ap (λ xs. part_under s (parts_by_name xs)) same ∙ under_named s es

pub no_parts : (v : Tree) (s : Step) → array_in v ≡ None → object_in v ≡ None → part_under s (parts_of v) ≡ None
no_parts a_null s e f = refl
no_parts (a_boolean b) s e f = refl
no_parts (a_number k) s e f = refl
no_parts (a_string t) s e f = refl
no_parts (an_array ns) s e f = absurd (cc)
no_parts (an_object ms) s e f = absurd (cc)

-- the walk along the steps
pub value_goes : (n : Placed) (s : Step) (trail : List Step) (o : Option Placed) → part_behind n s ≡ o → value_at n (s ∷ trail) ≡ option_and_then (λ m. value_at m trail) o
unfolding value_at
value_goes n s trail o e = ap (option_and_then (λ m. value_at m trail)) e

pub value_ends : (n : Placed) → value_at n [] ≡ Some n
unfolding value_at
value_ends n = refl

pub drop_at : (xs : List Step) (i : ℕ) (x : Step) → i < length xs → x ≡ get_or xs i x → drop i xs ≡ x ∷ drop (i + 1) xs
drop_at xs i x h e = drop-cons xs i x h ∙ ap (λ k. get_or xs i x ∷ drop k xs) (sym (add-one i)) ∙ ap (λ y. y ∷ drop (i + 1) xs) (sym e)

pub drop_all : (xs : List Step) (i : ℕ) → (i < length xs → ⊥) → drop i xs ≡ []
drop_all [] zero h = refl
drop_all [] (suc i) h = refl
drop_all (x ∷ xs) zero h = absurd (h (omega arith))
drop_all (x ∷ xs) (suc i) h = drop_all xs i (λ k. h (omega (arith, k)))

pub taken_at : (xs : List Step) (i : ℕ) (x : Step) → i < length xs → x ≡ get_or xs i x → take (i + 1) xs ≡ take i xs ++ x ∷ []
taken_at xs i x h e = take_more xs i x h ∙ ap (λ y. take i xs ++ y ∷ []) (sym e)

-- what stands there, and what is said of it
pub none_there : (flat : Flat) (p : Place) → map.get flat p.token ≡ None → written_in flat p ≡ None
unfolding written_in
none_there flat p e = ap (option_and_then (λ f. written_at f.def p.trail)) e

in_there : (flat : Flat) (p : Place) (f : Flattened) → map.get flat p.token ≡ Some f → written_in flat p ≡ written_at f.def p.trail
unfolding written_in
in_there flat p f e = ap (option_and_then (λ (x : Flattened). written_at x.def p.trail)) e

at_value : (p : Place) (f : Flattened) (o : Option Placed) → o ≡ value_at f.def.value p.trail → written_at f.def p.trail ≡ option_map (λ n. written_as (role_at f.def.by_ref p.trail) (tree_of n)) o
unfolding written_at
at_value p f o g = ap (option_map (λ n. written_as (role_at f.def.by_ref p.trail) (tree_of n))) (sym g)

pub there_is : (flat : Flat) (p : Place) (f : Flattened) (o : Option Placed) → map.get flat p.token ≡ Some f → o ≡ value_at f.def.value p.trail → written_in flat p ≡ option_map (λ n. written_as (role_at f.def.by_ref p.trail) (tree_of n)) o
there_is flat p f o e g = in_there flat p f e ∙ at_value p f o g

pub no_reference : (o : Option Written) → o ≡ None → is_reference o ≡ false
no_reference o e = ap is_reference e

pub mapped : (o : Option Placed) (f : Placed → Written) → is_some o ≡ is_written (option_map f o)
mapped None f = refl
mapped (Some n) f = refl

pub shown : {A B : Type 0} (f : A → B) (o : Option A) → is_some o ≡ is_some (option_map f o)
shown f None = refl
shown f (Some x) = refl

-- the role at the end of steps is that behind the last of them
role_end : (s : Step) (trail : List Step) (last : Step) → slice_get (s ∷ trail) (length trail) ≡ Some last → role_at_end s trail ≡ role_behind last
role_end s [] last e = ap role_behind (same s last e)
  where
    same : (x y : Step) → Some x ≡ Some y → x ≡ y
    same x y f = cc
role_end s (r ∷ trail) last e = role_end r trail last e

role_snoc : (x : Step) (front : List Step) (s : Step) → role_at_end x (front ++ s ∷ []) ≡ role_behind s
role_snoc x [] s = refl
role_snoc x (y ∷ front) s = role_snoc y front s

pub role_behind_is : (own : Bool) (front : List Step) (s : Step) → role_at own (front ++ s ∷ []) ≡ role_behind s
role_behind_is true [] s = refl
role_behind_is false [] s = refl
role_behind_is true (x ∷ front) s = role_snoc x front s
role_behind_is false (x ∷ front) s = role_snoc x front s

pub role_is : (own : Bool) (steps : List Step) (last : Step) → slice_get steps (length steps - 1) ≡ Some last → role_at own steps ≡ role_behind last
role_is own [] last e = absurd (cc)
role_is true (s ∷ trail) last e = role_end s trail last (subst (λ i. slice_get (s ∷ trail) i ≡ Some last) (omega arith) e)
role_is false (s ∷ trail) last e = role_end s trail last (subst (λ i. slice_get (s ∷ trail) i ≡ Some last) (omega arith) e)
