-- A reference that is written in a token is visited by the token's walk.
use Rattle.std.proofs.Common.{◌≡◌, ℕ, List, [], ◌∷◌, ◌++◌, Bool, true, false, cond, Option, Some, None, refl, sym, ap, ◌∙◌, subst, codes, arith}
use Rattle.std.proofs.lemmas.List.{append_assoc}
use Rattle.std.proofs.lemmas.Slice.Eq.{bytes_eq-Decides}
use Rattle.std.specs.Prelude.{is_some, option_and_then}
use Rattle.std.specs.FinMap as map
use Rattle.std.specs.Str.{bytes_eq}
use Rattle.name_path.specs.declared.place.Place.{Place}
use Rattle.json_span.specs.Tree.{Tree, a_null, a_boolean, a_number, a_string, an_array, an_object, Placed, Entry, tree_of, elements_in, entries_in}
use Rattle.group_inherit.specs.Flattening.{Flattened}
use Rattle.token_tree.specs.Shape.{has}
use Rattle.alias_ref.specs.Written.{Step, Container, array, object, parts, Parts, parts_of, parts_by_index, parts_by_name, part_under, part_behind, steps_of, value_at, Role, of_ref, pointed, object_pointed, reference_written, object_written, written_as, role_behind, role_at, written_in, whole, is_reference, is_misspelled, is_written}
use Rattle.alias_ref.specs.Asking.{by_walking, for_part, IsVisited, begins, asked}
use Rattle.alias_ref.specs.Laws.{Flat, UnbrokenIsSound}
use Rattle.ring.specs.Lists.{In}
use Rattle.alias_ref.specs.Visits.{most_on_branch}
use Rattle.explain.specs.Following.{starts_of}
use Rattle.explain.specs.inner.Ways.{Knows}
use Rattle.explain.specs.inner.Holding.{EachHolds}
use Rattle.explain.specs.declared.showing.Shown.{Shown}
use Rattle.explain.specs.Needs.{AreUnbroken}
use Rattle.explain.specs.inner.Showing.{IsShown, IsSound, MayExplain}
use Rattle.explain.proofs.HopsExplain.{append_nil}
use Rattle.explain.proofs.HopsHold.{true_false}
use Rattle.explain.proofs.PlacesWritten.{none_there, there_is, value_goes, value_ends, role_behind_is}

nothing_said : {A : Type 0} → is_reference None ≡ true → A
nothing_said e = true_false (sym e)

none_some : {A B : Type 0} (x : A) → None ≡ Some x → B
none_some x e = absurd (cc)

some_is : {A : Type 0} (x y : A) → Some x ≡ Some y → x ≡ y
some_is x y e = cc

-- a part that is found stands among the steps
record Among (s : Step) (steps : List Step) : Type 0 where
  pub before : List Step
  pub after : List Step
  pub split : steps ≡ before ++ s ∷ after

among : (s : Step) (ps : Parts) (m : Placed) → part_under s ps ≡ Some m → Among s (steps_of ps)
among s [] m e = none_some m e
among s (p ∷ ps) m e = go (bytes_eq p.0 s) refl (λ g. among s ps m g) e
  where
    go : (b : Bool) → bytes_eq p.0 s ≡ b → (part_under s ps ≡ Some m → Among s (steps_of ps)) → cond b (Some p.1) (part_under s ps) ≡ Some m → Among s (p.0 ∷ steps_of ps)
    go true f more g = record { before = []; after = steps_of ps; split = ap (λ x. x ∷ steps_of ps) ((bytes_eq-Decides p.0 s).0 f) }
    go false f more g = let k = more g in record { before = p.0 ∷ k.before; after = k.after; split = ap (λ xs. p.0 ∷ xs) k.split }

-- what the value at a place is for a step that leads on: a value with parts, among them this one, or an object with `$ref`
data Goes_on (s : Step) (role : Role) (v : Tree) : Type 0 where
  by_part : (c : Container) (steps : List Step) → written_as role v ≡ parts c steps → Among s steps → Goes_on s role v
  by_ref : (es : List Entry) → written_as role v ≡ object_written es → parts_of v ≡ parts_by_name es → has (codes "$ref") es ≡ true → Goes_on s role v

goes_on : (s : Step) (role : Role) (v : Tree) (m : Placed) → part_under s (parts_of v) ≡ Some m → Goes_on s role v
goes_on s role a_null m e = none_some m e
goes_on s role (a_boolean b) m e = none_some m e
goes_on s role (a_number k) m e = none_some m e
goes_on s role (a_string t) m e = none_some m e
goes_on s role (an_array ns) m e = by_part array (steps_of (parts_by_index 0 (elements_in ns))) refl (among s (parts_by_index 0 (elements_in ns)) m e)
goes_on s role (an_object ms) m e = go (has (codes "$ref") (entries_in ms)) refl
  where
    as_parts : (b : Bool) → b ≡ false → cond b (reference_written (object_pointed (entries_in ms))) (parts object (steps_of (parts_by_name (entries_in ms)))) ≡ parts object (steps_of (parts_by_name (entries_in ms)))
    as_parts true f = true_false f
    as_parts false f = refl

    go : (b : Bool) → has (codes "$ref") (entries_in ms) ≡ b → Goes_on s role (an_object ms)
    go true f = by_ref (entries_in ms) refl refl f
    go false f = by_part object (steps_of (parts_by_name (entries_in ms))) (as_parts (has (codes "$ref") (entries_in ms)) f) (among s (parts_by_name (entries_in ms)) m e)

-- the only member of an object that is a reference is a string under `$ref`
record Only (s : Step) (m : Placed) : Type 0 where
  pub text : List ℕ
  pub string : tree_of m ≡ a_string text
  pub step : s ≡ codes "$ref"

only : (s : Step) (es : List Entry) (m : Placed) → has (codes "$ref") es ≡ true → is_misspelled (Some (reference_written (object_pointed es))) ≡ false → part_under s (parts_by_name es) ≡ Some m → Only s m
only s [] m h spelled e = none_some m e
only s (x ∷ y ∷ es) m h spelled e = true_false spelled
only s (x ∷ []) m h spelled e = string (tree_of x.value) refl spelled
  where
    found : (b c : Bool) → bytes_eq x.name (codes "$ref") ≡ b → bytes_eq x.name s ≡ c → cond b (Some x.value) None ≡ Some x.value → cond c (Some x.value) None ≡ Some m → (x.value ≡ m) × (s ≡ codes "$ref")
    found true true f g i j = (some_is x.value m j, sym ((bytes_eq-Decides x.name s).0 g) ∙ (bytes_eq-Decides x.name (codes "$ref")).0 f)
    found b false f g i j = none_some m j
    found false c f g i j = none_some x.value i

    there : (b : Bool) → is_some (cond b (Some x.value) None) ≡ true → cond b (Some x.value) None ≡ Some x.value
    there true f = refl
    there false f = true_false (sym f)

    both : (x.value ≡ m) × (s ≡ codes "$ref")
    both = found (bytes_eq x.name (codes "$ref")) (bytes_eq x.name s) refl refl (there (bytes_eq x.name (codes "$ref")) h) e

    string : (v : Tree) → tree_of x.value ≡ v → is_misspelled (Some (reference_written (pointed v))) ≡ false → Only s m
    string a_null f g = true_false g
    string (a_boolean b) f g = true_false g
    string (a_number k) f g = true_false g
    string (a_string t) f g = record { text = t; string = sym (ap tree_of both.0) ∙ f; step = both.1 }
    string (an_array ns) f g = true_false g
    string (an_object ms) f g = true_false g

value_on : (v : Placed) (front more : List Step) (n : Placed) → value_at v front ≡ Some n → value_at v (front ++ more) ≡ value_at n more
value_on v [] more n e = ap (λ x. value_at x more) (some_is v n (sym (value_ends v) ∙ e))
value_on v (s ∷ front) more n e = go (part_behind v s) refl (λ m g. value_on m front more n g) (sym (value_goes v s front (part_behind v s) refl) ∙ e)
  where
    go : (o : Option Placed) → part_behind v s ≡ o → ((m : Placed) → value_at m front ≡ Some n → value_at m (front ++ more) ≡ value_at n more) → option_and_then (λ m. value_at m front) o ≡ Some n → value_at v (s ∷ (front ++ more)) ≡ value_at n more
    go None f on g = none_some n g
    go (Some m) f on g = value_goes v s (front ++ more) (Some m) f ∙ on m g

module _ (sound : UnbrokenIsSound) (flat : Flat) (unbroken : AreUnbroken flat) (token : List Step) (f : Flattened) (is : map.get flat token ≡ Some f) where
  abbrev at : List Step → Place
  at trail = record { token = token; trail = trail }

  said : (trail : List Step) (n : Placed) → value_at f.def.value trail ≡ Some n → written_in flat (at trail) ≡ Some (written_as (role_at f.def.by_ref trail) (tree_of n))
  said trail n e = there_is flat (at trail) f (Some n) is (sym e)

  unsaid : (trail : List Step) → value_at f.def.value trail ≡ None → written_in flat (at trail) ≡ None
  unsaid trail e = there_is flat (at trail) f None is (sym e)

  there : is_written (written_in flat (whole token)) ≡ true
  there = ap is_written (said [] f.def.value (value_ends f.def.value))

  -- inside an object that is a reference no reference is written
  no_more : (front rest : List Step) (s : Step) (m : Placed) → Only s m → value_at f.def.value (front ++ s ∷ rest) ≡ value_at m rest → is_reference (written_in flat (at (front ++ s ∷ rest))) ≡ false
  no_more front [] s m o e =
      let stands = said (front ++ s ∷ []) m (e ∙ value_ends m) in
      ap is_reference (stands ∙ ap (λ r. Some (written_as r (tree_of m))) (role_behind_is f.def.by_ref front s ∙ ap role_behind o.step) ∙ ap (λ v. Some (written_as of_ref v)) o.string)
  no_more front (r ∷ rest) s m o e =
      let none : part_behind m r ≡ None = ap (λ v. part_under r (parts_of v)) o.string in
      ap is_reference (unsaid (front ++ s ∷ (r ∷ rest)) (e ∙ value_goes m r rest None none))

  record Visited (p : Place) : Type 0 where
    pub branch : List Place
    pub visited : IsVisited (written_in flat) token branch by_walking p

  descend : (front rest : List Step) (b : List Place) (n : Placed) → value_at f.def.value front ≡ Some n → IsVisited (written_in flat) token b by_walking (at front) → is_reference (written_in flat (at (front ++ rest))) ≡ true → Visited (at (front ++ rest))
  descend front [] b n e v r = record { branch = b; visited = subst (λ t. IsVisited (written_in flat) token b by_walking (at t)) (sym (append_nil front)) v }
  descend front (s ∷ rest) b n e v r = go (part_behind n s) refl (λ c m g w t. descend (front ++ s ∷ []) rest c m g w t)
    where
      on : value_at f.def.value (front ++ s ∷ rest) ≡ value_at n (s ∷ rest)
      on = value_on f.def.value front (s ∷ rest) n e

      visit : is_misspelled (written_in flat (at front)) ≡ false
      visit = (sound flat token there (unbroken token there) b by_walking (at front) v).spelling

      next : (m : Placed) → part_behind n s ≡ Some m → value_at f.def.value (front ++ s ∷ []) ≡ Some m
      next m g = value_on f.def.value front (s ∷ []) n e ∙ value_goes n s [] (Some m) g ∙ value_ends m

      step : ((c : List Place) (m : Placed) → value_at f.def.value (front ++ s ∷ []) ≡ Some m → IsVisited (written_in flat) token c by_walking (at (front ++ s ∷ [])) → is_reference (written_in flat (at ((front ++ s ∷ []) ++ rest))) ≡ true → Visited (at ((front ++ s ∷ []) ++ rest))) → (m : Placed) → part_behind n s ≡ Some m → Goes_on s (role_at f.def.by_ref front) (tree_of n) → Visited (at (front ++ s ∷ rest))
      step deeper m g (by_part c steps w a) =
          let asks = for_part a.before a.after s (said front n e ∙ ap Some w) a.split in
          let more = deeper (b ++ at front ∷ []) m (next m g) (asked v asks) (subst (λ t. is_reference (written_in flat (at t)) ≡ true) (sym (append_assoc front (s ∷ []) rest)) r) in
          subst (λ t. Visited (at t)) (append_assoc front (s ∷ []) rest) more
      step deeper m g (by_ref es w ps h) =
          let told = said front n e ∙ ap Some (w ∙ as_reference (has (codes "$ref") es) h) in
          let o = only s es m h (sym (ap is_misspelled told) ∙ visit) (sym (ap (part_under s) ps) ∙ g) in
          true_false (sym r ∙ no_more front rest s m o (on ∙ value_goes n s rest (Some m) g))
        where
          as_reference : (x : Bool) → x ≡ true → cond x (reference_written (object_pointed es)) (parts object (steps_of (parts_by_name es))) ≡ reference_written (object_pointed es)
          as_reference true i = refl
          as_reference false i = true_false (sym i)

      go : (o : Option Placed) → part_behind n s ≡ o → ((c : List Place) (m : Placed) → value_at f.def.value (front ++ s ∷ []) ≡ Some m → IsVisited (written_in flat) token c by_walking (at (front ++ s ∷ [])) → is_reference (written_in flat (at ((front ++ s ∷ []) ++ rest))) ≡ true → Visited (at ((front ++ s ∷ []) ++ rest))) → Visited (at (front ++ s ∷ rest))
      go None g deeper = nothing_said (sym (ap is_reference (unsaid (front ++ s ∷ rest) (on ∙ value_goes n s rest None g))) ∙ r)
      go (Some m) g deeper = step deeper m g (goes_on s (role_at f.def.by_ref front) (tree_of n) m g)

  visit_of : (trail : List Step) → is_reference (written_in flat (at trail)) ≡ true → Visited (at trail)
  visit_of trail r = descend [] trail [] f.def.value (value_ends f.def.value) begins r

-- each written reference is visited
pub is_visited : (sound : UnbrokenIsSound) (flat : Flat) → AreUnbroken flat → (p : Place) → is_reference (written_in flat p) ≡ true → (b : List Place) × IsSound flat b p
is_visited sound flat unbroken p r = go (map.get flat p.token) refl
  where
    go : (o : Option Flattened) → map.get flat p.token ≡ o → (b : List Place) × IsSound flat b p
    go None e = nothing_said (sym (ap is_reference (none_there flat p e)) ∙ r)
    go (Some f) e =
        let v = visit_of sound flat unbroken p.token f e p.trail r in
        (v.branch, record { token = p.token; there = there sound flat unbroken p.token f e; manner = by_walking; visited = v.visited })

-- a place may be explained from the beginning
pub may_begin : (sound : UnbrokenIsSound) (flat : Flat) → AreUnbroken flat → (p : Place) (now : Shown) → now.hops ≡ [] → Knows now.hops now.ways → (b : List Place) × MayExplain flat most_on_branch b p now
may_begin sound flat unbroken p now none knows = go (is_reference (written_in flat p)) refl
  where
    shown : (b : List Place) → IsShown flat b now
    shown b = record { knows = knows; holds = subst (EachHolds flat []) (sym none) tt; stands = λ x i. absurd (subst (λ hs. In x (starts_of hs)) none i) }

    go : (r : Bool) → is_reference (written_in flat p) ≡ r → (b : List Place) × MayExplain flat most_on_branch b p now
    go true e = let v = is_visited sound flat unbroken p e in (v.0, record { unbroken = unbroken; room = omega arith; visited = λ r. v.1; shown = shown v.0 })
    go false e = ([], record { unbroken = unbroken; room = omega arith; visited = λ r. true_false (sym r ∙ e); shown = shown [] })
