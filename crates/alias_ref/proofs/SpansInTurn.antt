-- The span of a place, step after step.
use Rattle.std.proofs.Common.{◌≡◌, ℕ, ◌<◌, ◌^◌, List, [], ◌∷◌, Bool, true, false, cond, Option, Some, None, refl, sym, ap, ap₂, ◌∙◌, subst, codes, option_map, length}
use Rattle.std.specs.Prelude.{unwrap_or, is_some}
use Rattle.std.specs.FinMap as map
use Rattle.json_span.specs.Tree.{a_null, a_boolean, a_number, a_string, an_array, an_object, Placed, placed, Entry, tree_of, start_of, end_of, elements_in, entries_in, array_in, object_in, value_of_name}
use Rattle.name_path.specs.declared.place.Place.{Place}
use Rattle.alias_ref.specs.Written.{Step, parts, object, parts_by_name, steps_of, part_under, part_behind, Role, reference_written, object_pointed, object_written, written_as, is_reference, role_behind, role_at}
use Rattle.group_inherit.specs.Flattening.{Flattened}
use Rattle.alias_ref.specs.Laws.{Flat}
use Rattle.alias_ref.specs.Span.{span_of_value, span_below, span_in}
use Rattle.alias_ref.specs.inner.Spots.{IsFlawless}
use Rattle.alias_ref.specs.inner.Steps.{next_in}
use Rattle.alias_ref.proofs.ContentsOfValues.{under_named}

chosen : {A : Type 0} (b : Bool) (x : A) (o : Option A) → unwrap_or (cond b None o) x ≡ cond b x (unwrap_or o x)
chosen true x o = refl
chosen false x o = refl

mapped : {A B : Type 0} (f : A → B) (b : Bool) (o : Option A) → option_map f (cond b None o) ≡ cond b None (option_map f o)
mapped f true o = refl
mapped f false o = refl

pub span_step : (role : Role) (n : Placed) (s : Step) (trail : List Step) → span_below role n (s ∷ trail) ≡ unwrap_or (option_map (λ m. span_below (role_behind s) m trail) (next_in role n s)) (span_of_value n)
unfolding span_below
span_step role n s trail =
    let b = is_reference (Some (written_as role (tree_of n))) in
    sym (ap (λ o. unwrap_or o (span_of_value n)) (mapped (λ m. span_below (role_behind s) m trail) b (part_behind n s)) ∙ chosen b (span_of_value n) (option_map (λ m. span_below (role_behind s) m trail) (part_behind n s)))

pub span_end : (role : Role) (n : Placed) → span_below role n [] ≡ span_of_value n
unfolding span_below
span_end role n = refl

-- which part is next, by what the value is

object_next : (es : List Entry) (s : Step) (o : Option Placed) → value_of_name (codes "$ref") es ≡ o → cond (is_reference (Some (object_written es))) None (part_under s (parts_by_name es)) ≡ cond (is_some o) None (value_of_name s es)
object_next es s None e = ap (λ o. cond (is_reference (Some (cond (is_some o) (reference_written (object_pointed es)) (parts object (steps_of (parts_by_name es)))))) None (part_under s (parts_by_name es))) e ∙ under_named s es
object_next es s (Some m) e = ap (λ o. cond (is_reference (Some (cond (is_some o) (reference_written (object_pointed es)) (parts object (steps_of (parts_by_name es)))))) None (part_under s (parts_by_name es))) e ∙ refers (object_pointed es)
  where
    refers : (o : Option Place) → cond (is_reference (Some (reference_written o))) None (part_under s (parts_by_name es)) ≡ None
    refers (Some p) = refl
    refers None = refl

pub next_object : (role : Role) (n : Placed) (es : List Entry) (s : Step) (o : Option Placed) → object_in (tree_of n) ≡ Some es → value_of_name (codes "$ref") es ≡ o → next_in role n s ≡ cond (is_some o) None (value_of_name s es)
next_object role (placed a_null start end) es s o e f = absurd (cc)
next_object role (placed (a_boolean b) start end) es s o e f = absurd (cc)
next_object role (placed (a_number k) start end) es s o e f = absurd (cc)
next_object role (placed (a_string t) start end) es s o e f = absurd (cc)
next_object role (placed (an_array ns) start end) es s o e f = absurd (cc)
next_object role (placed (an_object ms) start end) es s o e f =
    let same : entries_in ms ≡ es = cc in
    ap (λ xs. cond (is_reference (Some (object_written xs))) None (part_under s (parts_by_name xs))) same ∙ object_next es s o f

nothing : (b : Bool) → cond {A = Option Placed} b None None ≡ None
nothing true = refl
nothing false = refl

pub next_is_part : (role : Role) (n : Placed) (s : Step) (m : Placed) → next_in role n s ≡ Some m → part_behind n s ≡ Some m
next_is_part role n s m e = go (is_reference (Some (written_as role (tree_of n)))) e
  where
    go : (b : Bool) → cond b None (part_behind n s) ≡ Some m → part_behind n s ≡ Some m
    go true f = absurd (cc)
    go false f = f

pub array_short : (n : Placed) (ns : List Placed) → IsFlawless n → array_in (tree_of n) ≡ Some ns → length ns < 2 ^ 64
array_short (placed a_null start end) ns k e = absurd (cc)
array_short (placed (a_boolean b) start end) ns k e = absurd (cc)
array_short (placed (a_number j) start end) ns k e = absurd (cc)
array_short (placed (a_string t) start end) ns k e = absurd (cc)
array_short (placed (an_array es) start end) ns k e = let same : elements_in es ≡ ns = cc in subst (λ xs. length xs < 2 ^ 64) same k.short.0
array_short (placed (an_object ms) start end) ns k e = absurd (cc)

pub none_there : {A B : Type 0} (f : A → B) (o : Option A) (q : Option B) → option_map f o ≡ q → is_some o ≡ false → q ≡ None
none_there f (Some x) q e h = absurd (cc)
none_there f None q e h = sym e

-- the walk along the steps

pub span_stops : (role : Role) (n : Placed) (s : Step) (trail : List Step) → next_in role n s ≡ None → span_below role n (s ∷ trail) ≡ span_of_value n
span_stops role n s trail e = span_step role n s trail ∙ ap (λ o. unwrap_or (option_map (λ m. span_below (role_behind s) m trail) o) (span_of_value n)) e

pub span_goes : (role : Role) (n : Placed) (s : Step) (m : Placed) (trail : List Step) → next_in role n s ≡ Some m → span_below role n (s ∷ trail) ≡ span_below (role_behind s) m trail
span_goes role n s m trail e = span_step role n s trail ∙ ap (λ o. unwrap_or (option_map (λ x. span_below (role_behind s) x trail) o) (span_of_value n)) e

pub span_begins : (flat : Flat) (p : Place) (f : Flattened) (n : Placed) → map.get flat p.token ≡ Some f → n ≡ f.def.value → Some (span_below (role_at f.def.by_ref []) n p.trail) ≡ span_in flat p
span_begins flat p f n e h = ap (λ x. Some (span_below (role_at f.def.by_ref []) x p.trail)) h ∙ sym (ap (option_map (λ g. span_below (role_at g.def.by_ref []) g.def.value p.trail)) e)

pub sound_there : (n m : Placed) → n ≡ m → IsFlawless m → IsFlawless n
sound_there n m e k = subst IsFlawless (sym e) k

pub span_pair : (start end : ℕ) (n : Placed) → start ≡ start_of n → end ≡ end_of n → Some (start, end) ≡ Some (span_of_value n)
span_pair start end n e f = ap₂ (λ a b. Some (a, b)) e f
