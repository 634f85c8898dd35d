-- What is written at a trail of a place means what stands at the trail of the place's meaning.
use Rattle.std.proofs.Common.{◌≡◌, ℕ, ◌+◌, List, [], ◌∷◌, Bool, true, false, cond, Some, inl, inr, refl, sym, ap, ◌∙◌, subst, map, codes}
use Rattle.std.specs.Prelude.{option_and_then, ◌⊎◌}
use Rattle.std.specs.Fmt.{decimal}
use Rattle.std.specs.Str.{bytes_eq}
use Rattle.ring.specs.Lists.{In}
use Rattle.name_path.specs.declared.place.Place.{Place}
use Rattle.json_span.specs.Tree.{Tree, a_null, a_boolean, a_number, a_string, an_array, an_object, Placed, tree_of, elements_in, entries_in}
use Rattle.json_span.specs.Tree.{Entry as Member}
use Rattle.json_span.specs.Plain.{plains_of, plain_members_of, plains_in, plain_entries_in}
use Rattle.json_span.specs.PlainView.{Value, ValueEntry}
use Rattle.token_tree.proofs.Names.{same_text, text_same}
use Rattle.token_tree.specs.Shape.{has}
use Rattle.alias_ref.specs.Written.{Step, Container, array, object, parts, WrittenPlaces, part, parts_by_index, parts_by_name, steps_of, Role, reference_written, object_pointed, written_as, role_at, written_in}
use Rattle.alias_ref.specs.Meaning.{put_together, Means, means_leaf, means_parts, means_target, EachMeans, none_left, one_more}
use Rattle.alias_ref.specs.PlainParts.{plain_numbered, plain_parts, plain_under, plain_at, Below, below_here, below_part}
use Rattle.alias_ref.specs.Laws.{Flat}
use Rattle.alias_ref.proofs.OneMeaning.{parts_or_lead}
use Rattle.alias_ref.proofs.WrittenParts.{written_is, spelled_no_parts, text_no_parts}

pub plains_again : (vs : List Value) → plains_in (plains_of vs) ≡ vs
plains_again [] = refl
plains_again (v ∷ vs) = ap (λ (z : List Value). v ∷ z) (plains_again vs)

pub entries_again : (es : List ValueEntry) → plain_entries_in (plain_members_of es) ≡ es
entries_again [] = refl
entries_again (e ∷ es) = ap (λ (z : List ValueEntry). e ∷ z) (entries_again es)

-- the steps of an array are the indices of its items
abbrev Indices : List Step → Type 0
Indices steps = (ns : List Placed) × (steps ≡ steps_of (parts_by_index 0 ns))

object_array : (b : Bool) (es : List Member) (steps : List Step) → cond b (reference_written (object_pointed es)) (parts object (steps_of (parts_by_name es))) ≡ parts array steps → ⊥
object_array true es steps e = spelled_no_parts (object_pointed es) array steps e
object_array false es steps e = cc

array_steps : (role : Role) (v : Tree) (steps : List Step) → written_as role v ≡ parts array steps → Indices steps
array_steps role a_null steps e = absurd (cc)
array_steps role (a_boolean b) steps e = absurd (cc)
array_steps role (a_number k) steps e = absurd (cc)
array_steps role (a_string text) steps e = absurd (text_no_parts role text array steps e)
array_steps role (an_array ns) steps e = (elements_in ns, cc)
array_steps role (an_object ms) steps e = absurd (object_array (has (codes "$ref") (entries_in ms)) (entries_in ms) steps e)

module _ (T : WrittenPlaces) where
  each_numbered : (p : Place) (i : ℕ) (ns : List Placed) (es : List ValueEntry) → EachMeans T p (steps_of (parts_by_index i ns)) es → plain_numbered i (map (λ e. e.value) es) ≡ es
  each_numbered p i [] es none_left = refl
  each_numbered p i (n ∷ ns) es (one_more {v = v} {es = gs} m ms) =
      let here : ValueEntry = record { name = decimal i; value = v } in
      ap (λ (z : List ValueEntry). here ∷ z) (each_numbered p (i + 1) ns gs ms)

  under_means : {p : Place} {steps : List Step} {es : List ValueEntry} → EachMeans T p steps es → (s : Step) → In s steps → (w : Value) × (plain_under s es ≡ Some w) × Means T (part p s) w
  under_means none_left s h = elim h [ ]
  under_means {p} (one_more {s = r} {steps = steps} {v = v} {es = es} m ms) s h = go (bytes_eq r s) refl h (under_means ms s)
    where
      go : (b : Bool) → bytes_eq r s ≡ b → (s ≡ r) ⊎ In s steps → (In s steps → (w : Value) × (plain_under s es ≡ Some w) × Means T (part p s) w) → (w : Value) × (cond b (Some v) (plain_under s es) ≡ Some w) × Means T (part p s) w
      go true e i rec = (v, refl, subst (λ x. Means T (part p x) v) (same_text r s e) m)
      go false e (inl i) rec = let k : true ≡ false = sym (text_same r s (sym i)) ∙ e in absurd (cc)
      go false e (inr i) rec = rec i

module _ (flat : Flat) where
  put_parts : (p : Place) (c : Container) (steps : List Step) (es : List ValueEntry) → written_in flat p ≡ Some (parts c steps) → EachMeans (written_in flat) p steps es → plain_parts (put_together c es) ≡ es
  put_parts p array steps es e ms =
      let at = written_is flat p (parts array steps) e in
      let i = array_steps (role_at at.0.def.by_ref p.trail) (tree_of at.1) steps at.3 in
      ap (plain_numbered 0) (plains_again (map (λ x. x.value) es)) ∙ each_numbered (written_in flat) p 0 i.0 es (subst (λ z. EachMeans (written_in flat) p z es) i.1 ms)
  put_parts p object steps es e ms = entries_again es

  part_means : {p : Place} {v : Value} {c : Container} {steps : List Step} → Means (written_in flat) p v → written_in flat p ≡ Some (parts c steps) → (s : Step) → In s steps → (w : Value) × (plain_under s (plain_parts v) ≡ Some w) × Means (written_in flat) (part p s) w
  part_means (means_leaf e) f s i = let h = sym e ∙ f in absurd (cc)
  part_means {p} {steps = steps} (means_parts {c = d} {steps = us} {es = es} e ms) f s i =
      let h = sym e ∙ f in
      let same : steps ≡ us = cc in
      let found = under_means (written_in flat) ms s (subst (In s) same i) in
      (found.0, ap (plain_under s) (put_parts p d us es e ms) ∙ found.1, found.2)
  part_means (means_target l m) f s i = absurd (parts_or_lead (written_in flat) f l)

  pub parts_mean : {p q : Place} {trail : List Step} → Below (written_in flat) p trail q → (v : Value) → Means (written_in flat) p v → (w : Value) × (plain_at v trail ≡ Some w) × Means (written_in flat) q w
  unfolding plain_at
  parts_mean below_here v m = (v, refl, m)
  parts_mean (below_part {trail = trail} s e i b) v m =
      let here = part_means m e s i in
      let rest = parts_mean b here.0 here.2 in
      (rest.0, ap (option_and_then (λ w. plain_at w trail)) here.1 ∙ rest.1, rest.2)
