-- What a place means has strings and names of UTF-8, and no list in it has more parts than a source has bytes.
use Rattle.std.proofs.Common.{◌≡◌, ℕ, suc, ◌+◌, ◌≤◌, Bool, true, false, cond, List, [], ◌∷◌, length, map, Option, Some, None, refl, sym, ap, ◌∙◌, subst, codes}
use Rattle.std.specs.Prelude.{option_and_then}
use Rattle.std.specs.Str.{IsUtf8}
use Rattle.name_path.specs.declared.place.Place.{Place}
use Rattle.json_span.specs.FitsIn.{FitsIn, ItemsFitIn, MembersFitIn}
use Rattle.json_span.specs.Plain.{plain_string, plains_of, plain_members_of, plains_in, plain_entries_in}
use Rattle.json_span.specs.PlainView.{Value, ValueEntry}
use Rattle.json_span.specs.Says.{plain_of, plain_tree, plain_elements, plain_fields}
use Rattle.json_span.specs.Tree.{Tree, a_null, a_boolean, a_number, a_string, an_array, an_object, Placed, placed, Elements, no_elements, an_element, Members, no_members, a_member, tree_of, elements_in, entries_in}
use Rattle.json_span.specs.Tree.{Entry as Member}
use Rattle.json_span.specs.Parts.{IsPart, itself, inside, IsInside, inside_array, inside_object, IsInElements, in_element, in_later_element, IsInMembers, in_member, in_later_member}
use Rattle.json_span.proofs.SaidFits.{said_fits}
use Rattle.json_span.proofs.Saying.{shows_says}
use Rattle.json_span.proofs.SliceSaid.{moved_same}
use Rattle.token_tree.specs.Tree.{Definition}
use Rattle.token_tree.specs.Promise.{IsDefinition}
use Rattle.token_tree.specs.Shape.{has, token_value}
use Rattle.group_inherit.specs.Flattening.{Flattened}
use Rattle.alias_ref.specs.References.{is_curly, place_named}
use Rattle.alias_ref.specs.Written.{Step, Container, array, object, leaf, parts, parts_by_index, parts_by_name, steps_of, part_behind, value_at, Role, of_value, of_ref, of_token, reference_written, text_written, object_pointed, written_as, role_at, written_in}
use Rattle.alias_ref.specs.Meaning.{put_together, Means, means_leaf, means_parts, means_target, EachMeans, none_left, one_more}
use Rattle.alias_ref.specs.Laws.{Flat, SourcesFit}
use Rattle.alias_ref.specs.Unchanged.{AreDefinitions}
use Rattle.alias_ref.specs.inner.Spots.{IsValueAt}
use Rattle.alias_ref.proofs.PartsMean.{plains_again, entries_again}
use Rattle.alias_ref.proofs.SoundValues.{value_is_part, step_is_part}
use Rattle.alias_ref.proofs.WrittenParts.{written_is, spelled_no_parts, text_no_parts}

-- a number is kept as it is spelled
abbrev kept : List ℕ → List ℕ
kept k = k

module _ (n : ℕ) where
  abbrev Fits : Placed → Type 0
  Fits m = FitsIn n (plain_of kept m)

  abbrev TreeFits : Tree → Type 0
  TreeFits v = FitsIn n (plain_tree kept v)

  -- a part of what fits

  mutual
    part_fits : {m x : Placed} → IsPart m x → Fits x → Fits m
    part_fits itself h = h
    part_fits (inside i) h = in_fits i h

    in_fits : {m : Placed} {v : Tree} → IsInside m v → TreeFits v → Fits m
    in_fits (inside_array i) h = element_fits i h.1
    in_fits (inside_object i) h = member_fits i h.1

    element_fits : {m : Placed} {ns : Elements} → IsInElements m ns → ItemsFitIn n (plain_elements kept ns) → Fits m
    element_fits (in_element i) h = part_fits i h.0
    element_fits (in_later_element i) h = element_fits i h.1

    member_fits : {m : Placed} {ms : Members} → IsInMembers m ms → MembersFitIn n (plain_fields kept ms) → Fits m
    member_fits (in_member i) h = part_fits i h.1
    member_fits (in_later_member i) h = member_fits i h.2

  -- the value of a definition, and the value at the end of steps

  pub definition_fits : (d : Definition) → IsDefinition d → IsUtf8 d.source → length d.source ≤ n → Fits d.value
  definition_fits d k utf h =
      let whole_fits : Fits k.object = said_fits kept d.source (plain_of kept k.object) n utf h (shows_says kept d.source k.object k.shown) in
      let same : plain_of kept d.value ≡ plain_of kept (token_value k.object) = ap (λ x. plain_of kept x.value) k.same ∙ moved_same kept d.start (token_value k.object) in
      subst (FitsIn n) (sym same) (part_fits (value_is_part k.object) whole_fits)

  value_at_fits : (trail : List Step) (x m : Placed) → value_at x trail ≡ Some m → Fits x → Fits m
  unfolding value_at
  value_at_fits [] x m e h = let same : x ≡ m = cc in subst Fits same h
  value_at_fits (s ∷ trail) x m e h = go (λ y f k. value_at_fits trail y m f k) (part_behind x s) refl e
    where
      go : ((y : Placed) → value_at y trail ≡ Some m → Fits y → Fits m) → (o : Option Placed) → part_behind x s ≡ o → option_and_then (λ y. value_at y trail) o ≡ Some m → Fits m
      go rec None p f = absurd (cc)
      go rec (Some y) p f = rec y f (part_fits (step_is_part x s y p) h)

  -- what is written as a value

  spelled_no_leaf : (o : Option Place) (v : Value) → reference_written o ≡ leaf v → ⊥
  spelled_no_leaf (Some p) v e = cc
  spelled_no_leaf None v e = cc

  curly_fits : (b : Bool) (o : Option Place) (text : List ℕ) (v : Value) → cond b (reference_written o) (leaf (plain_string text)) ≡ leaf v → IsUtf8 text → FitsIn n v
  curly_fits true o text v e h = absurd (spelled_no_leaf o v e)
  curly_fits false o text v e h = let same : plain_string text ≡ v = cc in subst (FitsIn n) same h

  text_fits : (role : Role) (text : List ℕ) (v : Value) → text_written role text ≡ leaf v → IsUtf8 text → FitsIn n v
  text_fits of_value text v e h = curly_fits (is_curly text) _ text v e h
  text_fits of_ref text v e h = curly_fits false None text v e h
  text_fits of_token text v e h = absurd (spelled_no_leaf (place_named text) v e)

  object_no_leaf : (b : Bool) (es : List Member) (v : Value) → cond b (reference_written (object_pointed es)) (parts object (steps_of (parts_by_name es))) ≡ leaf v → ⊥
  object_no_leaf true es v e = spelled_no_leaf (object_pointed es) v e
  object_no_leaf false es v e = cc

  leaf_fits : (role : Role) (t : Tree) (v : Value) → written_as role t ≡ leaf v → TreeFits t → FitsIn n v
  leaf_fits role a_null v e h = let same : plain_tree kept a_null ≡ v = cc in subst (FitsIn n) same h
  leaf_fits role (a_boolean b) v e h = let same : plain_tree kept (a_boolean b) ≡ v = cc in subst (FitsIn n) same h
  leaf_fits role (a_number k) v e h = let same : plain_tree kept (a_number k) ≡ v = cc in subst (FitsIn n) same h
  leaf_fits role (a_string text) v e h = text_fits role text v e h
  leaf_fits role (an_array ns) v e h = absurd (cc)
  leaf_fits role (an_object ms) v e h = absurd (object_no_leaf (has (codes "$ref") (entries_in ms)) (entries_in ms) v e)

  -- the steps to the parts of an object are UTF-8
  abbrev AreUtf8 : List Step → Type 0
  AreUtf8 [] = Unit {0}
  AreUtf8 (s ∷ steps) = IsUtf8 s × AreUtf8 steps

  abbrev NamesFit : Container → List Step → Type 0
  NamesFit array steps = Unit {0}
  NamesFit object steps = AreUtf8 steps

  abbrev StepsFit : Container → List Step → Type 0
  StepsFit c steps = (length steps ≤ n) × NamesFit c steps

  steps_carried : (c d : Container) (ss us : List Step) → parts c ss ≡ parts d us → StepsFit c ss → StepsFit d us
  steps_carried c d ss us e h = let same : c ≡ d = cc in let also : ss ≡ us = cc in subst (λ x. StepsFit x us) same (subst (StepsFit c) also h)

  numbered_long : (i : ℕ) (ns : Elements) → length (steps_of (parts_by_index i (elements_in ns))) ≡ length (plains_in (plain_elements kept ns))
  numbered_long i no_elements = refl
  numbered_long i (an_element x ns) = ap suc (numbered_long (i + 1) ns)

  named_long : (ms : Members) → length (steps_of (parts_by_name (entries_in ms))) ≡ length (plain_entries_in (plain_fields kept ms))
  named_long no_members = refl
  named_long (a_member s start end x ms) = ap suc (named_long ms)

  named_utf8 : (ms : Members) → MembersFitIn n (plain_fields kept ms) → AreUtf8 (steps_of (parts_by_name (entries_in ms)))
  named_utf8 no_members h = tt
  named_utf8 (a_member s start end x ms) h = (h.0, named_utf8 ms h.2)

  object_fits : (b : Bool) (ms : Members) (c : Container) (steps : List Step) → cond b (reference_written (object_pointed (entries_in ms))) (parts object (steps_of (parts_by_name (entries_in ms)))) ≡ parts c steps → TreeFits (an_object ms) → StepsFit c steps
  object_fits true ms c steps e h = absurd (spelled_no_parts (object_pointed (entries_in ms)) c steps e)
  object_fits false ms c steps e h = steps_carried object c _ steps e (subst (λ k. k ≤ n) (sym (named_long ms)) h.0, named_utf8 ms h.1)

  steps_fit : (role : Role) (t : Tree) (c : Container) (steps : List Step) → written_as role t ≡ parts c steps → TreeFits t → StepsFit c steps
  steps_fit role a_null c steps e h = absurd (cc)
  steps_fit role (a_boolean b) c steps e h = absurd (cc)
  steps_fit role (a_number k) c steps e h = absurd (cc)
  steps_fit role (a_string text) c steps e h = absurd (text_no_parts role text c steps e)
  steps_fit role (an_array ns) c steps e h = steps_carried array c _ steps e (subst (λ k. k ≤ n) (sym (numbered_long 0 ns)) h.0, tt)
  steps_fit role (an_object ms) c steps e h = object_fits (has (codes "$ref") (entries_in ms)) ms c steps e h

  -- values put together

  abbrev EachFits : List ValueEntry → Type 0
  EachFits [] = Unit {0}
  EachFits (e ∷ es) = FitsIn n e.value × EachFits es

  values_fit : (es : List ValueEntry) → EachFits es → ItemsFitIn n (plains_of (map (λ e. e.value) es))
  values_fit [] h = tt
  values_fit (e ∷ es) h = (h.0, values_fit es h.1)

  entries_fit : (es : List ValueEntry) → AreUtf8 (map (λ e. e.name) es) → EachFits es → MembersFitIn n (plain_members_of es)
  entries_fit [] b h = tt
  entries_fit (e ∷ es) b h = (b.0, h.0, entries_fit es b.1 h.1)

  as_many : {A : Type 0} (f : ValueEntry → A) (es : List ValueEntry) → length (map f es) ≡ length es
  as_many f [] = refl
  as_many f (e ∷ es) = ap suc (as_many f es)

  put_fits : (c : Container) (es : List ValueEntry) → StepsFit c (map (λ e. e.name) es) → EachFits es → FitsIn n (put_together c es)
  put_fits array es s h =
      let long : length (plains_in (plains_of (map (λ (e : ValueEntry). e.value) es))) ≡ length (map (λ (e : ValueEntry). e.name) es) =
      ap length (plains_again (map (λ e. e.value) es)) ∙ (as_many (λ e. e.value) es ∙ sym (as_many (λ e. e.name) es)) in
      (subst (λ k. k ≤ n) (sym long) s.0, values_fit es h)
  put_fits object es s h =
      let long : length (plain_entries_in (plain_members_of es)) ≡ length (map (λ (e : ValueEntry). e.name) es) = ap length (entries_again es) ∙ sym (as_many (λ e. e.name) es) in
      (subst (λ k. k ≤ n) (sym long) s.0, entries_fit es s.1 h)

  module _ (flat : Flat) (all : AreDefinitions flat) (few : SourcesFit n flat) where
    place_fits : (p : Place) (f : Flattened) (m : Placed) → IsValueAt flat p f m → TreeFits (tree_of m)
    place_fits p f (placed v start end) s = value_at_fits p.trail f.def.value (placed v start end) s.value (let k = few p.token f s.token in definition_fits f.def (all p.token f s.token) k.0 k.1)

    mutual
      pub means_fit : {p : Place} {v : Value} → Means (written_in flat) p v → FitsIn n v
      means_fit (means_leaf {p} {v} e) =
          let at = written_is flat p (leaf v) e in
          leaf_fits (role_at at.0.def.by_ref p.trail) (tree_of at.1) v at.3 (place_fits p at.0 at.1 at.2)
      means_fit (means_parts {p} {c} {steps} {es} e ms) =
          let at = written_is flat p (parts c steps) e in
          let fit = steps_fit (role_at at.0.def.by_ref p.trail) (tree_of at.1) c steps at.3 (place_fits p at.0 at.1 at.2) in
          put_fits c es (subst (StepsFit c) (sym (each_named ms)) fit) (each_fit ms)
      means_fit (means_target l m) = means_fit m

      each_fit : {p : Place} {steps : List Step} {es : List ValueEntry} → EachMeans (written_in flat) p steps es → EachFits es
      each_fit none_left = tt
      each_fit (one_more m ms) = (means_fit m, each_fit ms)

      each_named : {p : Place} {steps : List Step} {es : List ValueEntry} → EachMeans (written_in flat) p steps es → map (λ e. e.name) es ≡ steps
      each_named none_left = refl
      each_named (one_more {s = s} m ms) = ap (λ z. s ∷ z) (each_named ms)
