-- What is written at the parts of a place of a flat tree.
use Rattle.std.proofs.Common.{◌≡◌, ℕ, List, [], ◌∷◌, ◌++◌, Bool, true, false, cond, Option, Some, None, inl, inr, refl, sym, ap, ◌∙◌, subst, codes, option_map}
use Rattle.std.specs.Prelude.{option_and_then, ◌⊎◌}
use Rattle.std.specs.FinMap as flat_map
use Rattle.std.specs.Str.{bytes_eq}
use Rattle.tk_io.specs.Order.{names_cmp}
use Rattle.ring.specs.Lists.{In}
use Rattle.name_path.specs.declared.place.Place.{Place}
use Rattle.json_span.specs.Tree.{Tree, a_null, a_boolean, a_number, a_string, an_array, an_object, Placed, tree_of, Entry, entries_in}
use Rattle.json_span.specs.Plain.{plain_string}
use Rattle.token_tree.proofs.Names.{text_same}
use Rattle.token_tree.specs.Shape.{has}
use Rattle.group_inherit.specs.Flattening.{Flattened}
use Rattle.alias_ref.specs.References.{is_curly, alias_named, place_named}
use Rattle.alias_ref.specs.Written.{Step, Container, object, Written, leaf, parts, whole, part, is_written, Parts, parts_by_name, parts_of, steps_of, part_under, part_behind, value_at, Role, of_value, of_ref, of_token, reference_written, text_written, object_pointed, written_as, role_behind, role_at_end, role_at, written_at, written_in}
use Rattle.alias_ref.specs.inner.Seen.{AllWritten, HasParts}
use Rattle.alias_ref.specs.inner.Spots.{IsValueAt}

pub value_at-end : (n : Placed) (trail : List Step) (s : Step) → value_at n (trail ++ s ∷ []) ≡ option_and_then (λ m. part_behind m s) (value_at n trail)
unfolding value_at
value_at-end n [] s = one (part_behind n s)
  where
    one : (o : Option Placed) → option_and_then (λ m. Some m) o ≡ o
    one None = refl
    one (Some m) = refl
value_at-end n (r ∷ trail) s = go (λ m. value_at-end m trail s) (part_behind n r)
  where
    go : ((m : Placed) → value_at m (trail ++ s ∷ []) ≡ option_and_then (λ x. part_behind x s) (value_at m trail)) → (o : Option Placed) → option_and_then (λ m. value_at m (trail ++ s ∷ [])) o ≡ option_and_then (λ m. part_behind m s) (option_and_then (λ m. value_at m trail) o)
    go rec None = refl
    go rec (Some m) = rec m

role_end : (r : Step) (trail : List Step) (s : Step) → role_at_end r (trail ++ s ∷ []) ≡ role_behind s
role_end r [] s = refl
role_end r (q ∷ trail) s = role_end q trail s

pub role_at-end : (own_ref : Bool) (trail : List Step) (s : Step) → role_at own_ref (trail ++ s ∷ []) ≡ role_behind s
role_at-end true [] s = refl
role_at-end false [] s = refl
role_at-end true (r ∷ trail) s = role_end r trail s
role_at-end false (r ∷ trail) s = role_end r trail s

pub written_stands : (flat : flat_map.FinMap names_cmp Flattened) (p : Place) (f : Flattened) (n : Placed) → IsValueAt flat p f n → written_in flat p ≡ Some (written_as (role_at f.def.by_ref p.trail) (tree_of n))
unfolding written_in written_at
written_stands flat p f n s =
    ap (option_and_then (λ g. option_map (λ m. written_as (role_at g.def.by_ref p.trail) (tree_of m)) (value_at g.def.value p.trail))) s.token
    ∙ ap (option_map (λ m. written_as (role_at f.def.by_ref p.trail) (tree_of m))) s.value

pub part_stands : (flat : flat_map.FinMap names_cmp Flattened) (p : Place) (f : Flattened) (n m : Placed) (s : Step) → IsValueAt flat p f n → part_behind n s ≡ Some m → IsValueAt flat (part p s) f m
part_stands flat p f n m s h e = record { token = h.token; value = value_at-end f.def.value p.trail s ∙ ap (option_and_then (λ x. part_behind x s)) h.value ∙ e }

pub whole_stands : (flat : flat_map.FinMap names_cmp Flattened) (token : List Step) (f : Flattened) → flat_map.get flat token ≡ Some f → IsValueAt flat (whole token) f f.def.value
unfolding value_at
whole_stands flat token f h = record { token = h; value = refl }

-- what is written at a place is of a value
pub written_is : (flat : flat_map.FinMap names_cmp Flattened) (p : Place) (w : Written) → written_in flat p ≡ Some w → (f : Flattened) × (n : Placed) × IsValueAt flat p f n × (written_as (role_at f.def.by_ref p.trail) (tree_of n) ≡ w)
unfolding written_in written_at
written_is flat p w h = go (flat_map.get flat p.token) refl h
  where
    deep : (f : Flattened) → flat_map.get flat p.token ≡ Some f → (o : Option Placed) → value_at f.def.value p.trail ≡ o → option_map (λ m. written_as (role_at f.def.by_ref p.trail) (tree_of m)) o ≡ Some w
        → (g : Flattened) × (n : Placed) × IsValueAt flat p g n × (written_as (role_at g.def.by_ref p.trail) (tree_of n) ≡ w)
    deep f e None k i = absurd (cc)
    deep f e (Some n) k i = (f, n, record { token = e; value = k }, cc)

    go : (o : Option Flattened) → flat_map.get flat p.token ≡ o → option_and_then (λ g. option_map (λ m. written_as (role_at g.def.by_ref p.trail) (tree_of m)) (value_at g.def.value p.trail)) o ≡ Some w
        → (f : Flattened) × (n : Placed) × IsValueAt flat p f n × (written_as (role_at f.def.by_ref p.trail) (tree_of n) ≡ w)
    go None e i = absurd (cc)
    go (Some f) e i = deep f e (value_at f.def.value p.trail) refl i

-- a part whose step leads to nothing is not written
pub part_lost : (flat : flat_map.FinMap names_cmp Flattened) (p : Place) (f : Flattened) (n : Placed) (s : Step) → IsValueAt flat p f n → part_behind n s ≡ None → written_in flat (part p s) ≡ None
unfolding written_in written_at
part_lost flat p f n s h e =
    ap (option_and_then (λ g. option_map (λ m. written_as (role_at g.def.by_ref (p.trail ++ s ∷ [])) (tree_of m)) (value_at g.def.value (p.trail ++ s ∷ [])))) h.token
    ∙ ap (option_map (λ m. written_as (role_at f.def.by_ref (p.trail ++ s ∷ [])) (tree_of m))) (value_at-end f.def.value p.trail s ∙ ap (option_and_then (λ x. part_behind x s)) h.value ∙ e)

pub token_lost : (flat : flat_map.FinMap names_cmp Flattened) (p : Place) → flat_map.get flat p.token ≡ None → written_in flat p ≡ None
unfolding written_in
token_lost flat p h = ap (option_and_then (λ g. written_at g.def p.trail)) h

-- the steps of a container are those of its parts

pub spelled_no_parts : (o : Option Place) (c : Container) (steps : List Step) → reference_written o ≡ parts c steps → ⊥
spelled_no_parts (Some p) c steps e = cc
spelled_no_parts None c steps e = cc

curly_no_parts : (b : Bool) (o : Option Place) (text : List ℕ) (c : Container) (steps : List Step) → cond b (reference_written o) (leaf (plain_string text)) ≡ parts c steps → ⊥
curly_no_parts true o text c steps e = spelled_no_parts o c steps e
curly_no_parts false o text c steps e = cc

pub text_no_parts : (role : Role) (text : List ℕ) (c : Container) (steps : List Step) → text_written role text ≡ parts c steps → ⊥
text_no_parts of_value text c steps e = curly_no_parts (is_curly text) (option_map whole (alias_named text)) text c steps e
text_no_parts of_ref text c steps e = cc
text_no_parts of_token text c steps e = spelled_no_parts (place_named text) c steps e

object_steps : (b : Bool) (es : List Entry) (c : Container) (steps : List Step) → cond b (reference_written (object_pointed es)) (parts object (steps_of (parts_by_name es))) ≡ parts c steps → steps ≡ steps_of (parts_by_name es)
object_steps true es c steps e = absurd (spelled_no_parts (object_pointed es) c steps e)
object_steps false es c steps e = cc

pub steps_are : (role : Role) (v : Tree) (c : Container) (steps : List Step) → written_as role v ≡ parts c steps → steps ≡ steps_of (parts_of v)
steps_are role a_null c steps e = absurd (cc)
steps_are role (a_boolean b) c steps e = absurd (cc)
steps_are role (a_number k) c steps e = absurd (cc)
steps_are role (a_string text) c steps e = absurd (text_no_parts role text c steps e)
steps_are role (an_array ns) c steps e = cc
steps_are role (an_object ms) c steps e = object_steps (has (codes "$ref") (entries_in ms)) (entries_in ms) c steps e

-- there is a part under each step
found : (s : Step) (ps : Parts) → In s (steps_of ps) → (m : Placed) × (part_under s ps ≡ Some m)
found s [] h = elim h [ ]
found s (p ∷ ps) h = go (bytes_eq p.0 s) refl h (found s ps)
  where
    go : (b : Bool) → bytes_eq p.0 s ≡ b → (s ≡ p.0) ⊎ In s (steps_of ps) → (In s (steps_of ps) → (m : Placed) × (part_under s ps ≡ Some m)) → (m : Placed) × (cond b (Some p.1) (part_under s ps) ≡ Some m)
    go true e i rec = (p.1, refl)
    go false e (inl i) rec = let k : true ≡ false = sym (text_same p.0 s (sym i)) ∙ e in absurd (cc)
    go false e (inr i) rec = rec i

module _ (flat : flat_map.FinMap names_cmp Flattened) where
  all_written : (p : Place) (f : Flattened) (n : Placed) → IsValueAt flat p f n → (steps : List Step) → ((s : Step) → In s steps → (m : Placed) × (part_behind n s ≡ Some m)) → AllWritten (written_in flat) p steps
  all_written p f n st [] h = tt
  all_written p f n st (s ∷ steps) h =
      let m = h s (inl refl) in
      (ap is_written (written_stands flat (part p s) f m.0 (part_stands flat p f n m.0 s st m.1)), all_written p f n st steps (λ r i. h r (inr i)))

  -- the parts of each container are written
  pub has_parts : HasParts (written_in flat)
  has_parts p c steps e =
      let at = written_is flat p (parts c steps) e in
      let are = steps_are (role_at at.0.def.by_ref p.trail) (tree_of at.1) c steps at.3 in
      all_written p at.0 at.1 at.2 steps (λ s i. found s (parts_of (tree_of at.1)) (subst (In s) are i))
