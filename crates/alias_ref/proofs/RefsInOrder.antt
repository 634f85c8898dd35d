-- The references of a value in written order: each stands in the list as often as it is written.
use Rattle.std.proofs.Common.{◌≡◌, ℕ, ◌+◌, ◌<◌, ◌^◌, List, [], ◌∷◌, ◌++◌, length, map, Bool, true, false, cond, Option, Some, None, inl, inr, refl, sym, ap, ◌∙◌, subst, option_map, append-nil}
use Rattle.std.specs.Prelude.{option_and_then, ◌⊎◌}
use Rattle.std.specs.Fmt.{decimal}
use Rattle.std.specs.List.{AllZip}
use Rattle.std.specs.Str.{bytes_eq}
use Rattle.ring.specs.Lists.{In, Each}
use Rattle.json_span.specs.Tree.{Tree, a_null, a_boolean, a_number, a_string, an_array, an_object, Placed, placed, Elements, no_elements, an_element, Members, no_members, a_member, tree_of, elements_in, entries_in}
use Rattle.json_span.specs.Parts.{IsPart, itself, inside, inside_array, inside_object, IsInElements, in_element, in_later_element, IsInMembers, in_member, in_later_member}
use Rattle.token_tree.specs.Tree.{Definition}
use Rattle.token_tree.specs.Promise.{IsDefinition}
use Rattle.token_tree.proofs.Names.{same_text, text_same}
use Rattle.token_tree.proofs.PartsWithoutFlaws.{part_flawless}
use Rattle.alias_ref.specs.Written.{Step, Written, leaf, parts, refers, misspelled, Parts, parts_by_index, parts_by_name, parts_of, steps_of, part_under, part_behind, value_at, Role, of_value, text_written, object_written, written_as, role_behind, role_at, written_at}
use Rattle.alias_ref.specs.Refs.{named_by, refs_in, refs_at, refs_in_items, refs_in_members, refs_of, IsWrittenBefore, before_parts, before_later, before_inside, AreInOrder}
use Rattle.alias_ref.specs.Laws.{AreRefsAt}
use Rattle.alias_ref.specs.inner.Spots.{HasFewParts, ElementsHaveFewParts, MembersHaveFewParts, IsFlawless}
use Rattle.alias_ref.proofs.IndexSteps.{index_role}
use Rattle.alias_ref.proofs.SoundValues.{AreDistinct, distinct_parts, sound_definition}
use Rattle.alias_ref.proofs.RefsAreWritten.{In-left, In-right, In-either, role_from, role_on, role_begins}

abbrev Trails : Type 0
Trails = List (List Step)

differ : (n : Placed) (trail later : List Step) → IsWrittenBefore n trail later → trail ≡ later → ⊥
differ n _ _ (before_parts) e = absurd (cc)
differ n _ _ (before_later front back f h apart) e = apart (cc)
differ n _ _ (before_inside {m = m} {trail = a} {later = b} f h) e = let same : a ≡ b = cc in differ m a b h same

pub before_strict : (n : Placed) (trail : List Step) → IsWrittenBefore n trail trail → ⊥
before_strict n trail h = differ n trail trail h refl

-- a reference at these steps of a value names the token
abbrev Names : Role → Placed → List Step → List Step → Type 0
Names role n token trail = (m : Placed) × (steps : List Step) × (value_at n trail ≡ Some m) × (written_as (role_from role trail) (tree_of m) ≡ refers token steps)

-- the steps to the references of a value, which name these tokens
record Listing (role : Role) (n : Placed) (tokens : Trails) : Type 0 where
  trails : Trails
  named : AllZip (Names role n) tokens trails
  ordered : AreInOrder n trails
  all : (trail token : List Step) → Names role n token trail → In trail trails

-- the same of some parts

abbrev NamesUnder : Parts → List Step → List Step → Type 0
NamesUnder ps token trail = (s : Step) × (rest : List Step) × (n : Placed) × (trail ≡ s ∷ rest) × In (s, n) ps × Names (role_behind s) n token rest

abbrev InOnePart : Parts → List Step → List Step → Type 0
InOnePart ps trail later = (s : Step) × (n : Placed) × (a : List Step) × (b : List Step) × In (s, n) ps × (trail ≡ s ∷ a) × (later ≡ s ∷ b) × IsWrittenBefore n a b

abbrev InTwoParts : Parts → List Step → List Step → Type 0
InTwoParts ps trail later = (s : Step) × (r : Step) × (a : List Step) × (b : List Step) × (front : List Step) × (back : List Step) × (steps_of ps ≡ front ++ s ∷ back) × In r back × (trail ≡ s ∷ a) × (later ≡ r ∷ b)

abbrev BeforeUnder : Parts → List Step → List Step → Type 0
BeforeUnder ps trail later = InOnePart ps trail later ⊎ InTwoParts ps trail later

abbrev InOrderUnder : Parts → Trails → Type 0
InOrderUnder ps [] = Unit {0}
InOrderUnder ps (trail ∷ trails) = Each trails (BeforeUnder ps trail) × InOrderUnder ps trails

abbrev IsUnder : Parts → List Step → Type 0
IsUnder ps trail = (s : Step) × (rest : List Step) × (trail ≡ s ∷ rest) × In s (steps_of ps)

record PartsListing (ps : Parts) (tokens : Trails) : Type 0 where
  trails : Trails
  named : AllZip (NamesUnder ps) tokens trails
  ordered : InOrderUnder ps trails
  within : Each trails (IsUnder ps)
  all : (trail token : List Step) → NamesUnder ps token trail → In trail trails

-- lists place by place

zip_append : {A B : Type 0} (R : A → B → Type 0) (xs us : List A) (ys vs : List B) → AllZip R xs ys → AllZip R us vs → AllZip R (xs ++ us) (ys ++ vs)
zip_append R [] us [] vs h k = k
zip_append R [] us (y ∷ ys) vs h k = elim h [ ]
zip_append R (x ∷ xs) us [] vs h k = elim h [ ]
zip_append R (x ∷ xs) us (y ∷ ys) vs h k = (h.0, zip_append R xs us ys vs h.1 k)

zip_map : {A B C : Type 0} (Q : A → B → Type 0) (R : A → C → Type 0) (f : B → C) → ((x : A) (y : B) → Q x y → R x (f y)) → (xs : List A) (ys : List B) → AllZip Q xs ys → AllZip R xs (map f ys)
zip_map Q R f on [] [] h = h
zip_map Q R f on [] (y ∷ ys) h = elim h [ ]
zip_map Q R f on (x ∷ xs) [] h = elim h [ ]
zip_map Q R f on (x ∷ xs) (y ∷ ys) h = (on x y h.0, zip_map Q R f on xs ys h.1)

zip_on : {A B : Type 0} (Q R : A → B → Type 0) → ((x : A) (y : B) → Q x y → R x y) → (xs : List A) (ys : List B) → AllZip Q xs ys → AllZip R xs ys
zip_on Q R on [] [] h = h
zip_on Q R on [] (y ∷ ys) h = elim h [ ]
zip_on Q R on (x ∷ xs) [] h = elim h [ ]
zip_on Q R on (x ∷ xs) (y ∷ ys) h = (on x y h.0, zip_on Q R on xs ys h.1)

in_map : (s : Step) (t : List Step) (ts : Trails) → In t ts → In (s ∷ t) (map (λ x. s ∷ x) ts)
in_map s t [] h = elim h [ ]
in_map s t (u ∷ ts) (inl e) = inl (ap (λ x. s ∷ x) e)
in_map s t (u ∷ ts) (inr h) = inr (in_map s t ts h)

of_map : (s : Step) (t : List Step) (ts : Trails) → In t (map (λ x. s ∷ x) ts) → (rest : List Step) × (t ≡ s ∷ rest) × In rest ts
of_map s t [] h = elim h [ ]
of_map s t (u ∷ ts) (inl e) = (u, e, inl refl)
of_map s t (u ∷ ts) (inr h) = let k = of_map s t ts h in (k.0, k.1, inr k.2)

-- one part before others

module _ (s : Step) (n : Placed) (ps : Parts) where
  abbrev Longer : Parts
  Longer = (s, n) ∷ ps

  here_under : (token trail : List Step) → Names (role_behind s) n token trail → NamesUnder Longer token (s ∷ trail)
  here_under token trail h = (s, trail, n, refl, inl refl, h)

  later_under : (token trail : List Step) → NamesUnder ps token trail → NamesUnder Longer token trail
  later_under token trail (r, rest, m, e, h, k) = (r, rest, m, e, inr h, k)

  later_before : (trail later : List Step) → BeforeUnder ps trail later → BeforeUnder Longer trail later
  later_before trail later (inl (r, m, a, b, h, e, f, k)) = inl (r, m, a, b, inr h, e, f, k)
  later_before trail later (inr (r, q, a, b, front, back, e, h, f, g)) = inr (r, q, a, b, s ∷ front, back, ap (λ ss. s ∷ ss) e, h, f, g)

  later_ordered : (trails : Trails) → InOrderUnder ps trails → InOrderUnder Longer trails
  later_ordered [] h = tt
  later_ordered (t ∷ ts) h = (λ l i. later_before t l (h.0 l i), later_ordered ts h.1)

  -- of a reference in the part, and of one in a later part
  here_before : (t : List Step) (ts later : Trails) → Each ts (IsWrittenBefore n t) → Each later (IsUnder ps) → Each (map (λ x. s ∷ x) ts ++ later) (BeforeUnder Longer (s ∷ t))
  here_before t ts later h k = λ l i. elim (In-either l (map (λ x. s ∷ x) ts) later i) as (λ _. BeforeUnder Longer (s ∷ t) l) [
    | inl j ↦ let m = of_map s l ts j in inl (s, n, t, m.0, inl refl, refl, m.1, h m.0 m.2)
    | inr j ↦ let m = k l j in inr (s, m.0, t, m.1, [], steps_of ps, refl, m.3, refl, m.2)
  ]

  both_ordered : (ts later : Trails) → AreInOrder n ts → InOrderUnder ps later → Each later (IsUnder ps) → InOrderUnder Longer (map (λ x. s ∷ x) ts ++ later)
  both_ordered [] later h k w = later_ordered later k
  both_ordered (t ∷ ts) later h k w = (here_before t ts later h.0 w, both_ordered ts later h.1 k w)

  one_part : (tokens others : Trails) → Listing (role_behind s) n tokens → PartsListing ps others → PartsListing Longer (tokens ++ others)
  one_part tokens others l k =
      let mapped = map (λ x. s ∷ x) l.trails in
      record {
        trails = mapped ++ k.trails;
        named = zip_append (NamesUnder Longer) tokens others mapped k.trails (zip_map (Names (role_behind s) n) (NamesUnder Longer) (λ x. s ∷ x) here_under tokens l.trails l.named) (zip_on (NamesUnder ps) (NamesUnder Longer) later_under others k.trails k.named);
        ordered = both_ordered l.trails k.trails l.ordered k.ordered k.within;
        within = λ t i. elim (In-either t mapped k.trails i) as (λ _. IsUnder Longer t) [
          | inl j ↦ let m = of_map s t l.trails j in (s, m.0, m.1, inl refl)
          | inr j ↦ let m = k.within t j in (m.0, m.1, m.2, inr m.3)
        ];
        all = every;
      }
    where
      every : (t token : List Step) → NamesUnder Longer token t → In t (map (λ x. s ∷ x) l.trails ++ k.trails)
      every t token (r, rest, m, e, inl f, h) =
          let same : r ≡ s = ap (λ p. p.0) f in
          let value : m ≡ n = ap (λ p. p.1) f in
          let names : Names (role_behind s) n token rest = subst (λ x. Names (role_behind x) n token rest) same (subst (λ x. Names (role_behind r) x token rest) value h) in
          In-left t (map (λ x. s ∷ x) l.trails) k.trails (subst (λ x. In x (map (λ y. s ∷ y) l.trails)) (ap (λ x. x ∷ rest) (sym same) ∙ sym e) (in_map s rest l.trails (l.all rest token names)))
      every t token (r, rest, m, e, inr i, h) = In-right t (map (λ x. s ∷ x) l.trails) k.trails (k.all t token (r, rest, m, e, i, h))

none_under : (token trail : List Step) → NamesUnder [] token trail → ⊥
none_under token trail (s, rest, n, e, i, h) = i

no_parts : PartsListing [] []
no_parts = record { trails = []; named = tt; ordered = tt; within = λ t i. elim i [ ]; all = λ t token h. none_under token t h }

-- each part is found under its step

step_among : (s : Step) (n : Placed) (ps : Parts) → In (s, n) ps → In s (steps_of ps)
step_among s n [] h = elim h [ ]
step_among s n (p ∷ ps) (inl e) = inl (ap (λ x. x.0) e)
step_among s n (p ∷ ps) (inr h) = inr (step_among s n ps h)

fails : (b : Bool) → (b ≡ true → ⊥) → b ≡ false
fails true h = absurd (h refl)
fails false h = refl

found : (s : Step) (n : Placed) (ps : Parts) → AreDistinct (steps_of ps) → In (s, n) ps → part_under s ps ≡ Some n
found s n [] d h = elim h [ ]
found s n (p ∷ ps) d (inl e) = ap (λ b. cond b (Some p.1) (part_under s ps)) (text_same p.0 s (sym (ap (λ x. x.0) e))) ∙ ap Some (sym (ap (λ x. x.1) e))
found s n (p ∷ ps) d (inr h) = ap (λ b. cond b (Some p.1) (part_under s ps)) (fails (bytes_eq p.0 s) (λ e. d.0 s (step_among s n ps h) (sym (same_text p.0 s e)))) ∙ found s n ps d.1 h

among : (s : Step) (n : Placed) (ps : Parts) → part_under s ps ≡ Some n → In (s, n) ps
among s n [] e = absurd (cc)
among s n (p ∷ ps) e = go (bytes_eq p.0 s) refl e (among s n ps)
  where
    go : (b : Bool) → bytes_eq p.0 s ≡ b → cond b (Some p.1) (part_under s ps) ≡ Some n → (part_under s ps ≡ Some n → In (s, n) ps) → In (s, n) (p ∷ ps)
    go true k f rec =
        let step : p.0 ≡ s = same_text p.0 s k in
        let value : p.1 ≡ n = cc in
        inl (sym (ap (λ x. (x, p.1)) step ∙ ap (λ x. (s, x)) value))
    go false k f rec = inr (rec f)

split_apart : (front back : List Step) (s r : Step) → AreDistinct (front ++ s ∷ back) → In r back → s ≡ r → ⊥
split_apart [] back s r d h e = d.0 r h (sym e)
split_apart (x ∷ front) back s r d h e = split_apart front back s r d.1 h e

-- a value, and its parts

module _ (role : Role) (n : Placed) (distinct : AreDistinct (steps_of (parts_of (tree_of n)))) where
  abbrev All : Parts
  All = parts_of (tree_of n)

  named_below : (token trail : List Step) → NamesUnder All token trail → Names role n token trail
  unfolding value_at role_from
  named_below token trail (s, rest, c, e, i, (m, steps, v, w)) =
      let part : part_behind n s ≡ Some c = found s c All distinct i in
      let value : value_at n (s ∷ rest) ≡ Some m = ap (option_and_then (λ x. value_at x rest)) part ∙ v in
      let is : written_as (role_from role (s ∷ rest)) (tree_of m) ≡ refers token steps = ap (λ r. written_as r (tree_of m)) (sym (role_on s rest)) ∙ w in
      subst (Names role n token) (sym e) (m, steps, value, is)

  before_below : (trail later : List Step) → BeforeUnder All trail later → IsWrittenBefore n trail later
  before_below trail later (inl (s, c, a, b, i, e, f, h)) = subst (λ x. IsWrittenBefore n x later) (sym e) (subst (IsWrittenBefore n (s ∷ a)) (sym f) (before_inside (found s c All distinct i) h))
  before_below trail later (inr (s, r, a, b, front, back, g, h, e, f)) =
      subst (λ x. IsWrittenBefore n x later) (sym e) (subst (IsWrittenBefore n (s ∷ a)) (sym f)
      (before_later front back g h (split_apart front back s r (subst AreDistinct g distinct) h)))

  ordered_below : (trails : Trails) → InOrderUnder All trails → AreInOrder n trails
  ordered_below [] h = tt
  ordered_below (t ∷ ts) h = (λ l i. before_below t l (h.0 l i), ordered_below ts h.1)

  first_of_all : (trails : Trails) → Each trails (IsUnder All) → Each trails (IsWrittenBefore n [])
  first_of_all trails w = λ l i. let m = w l i in subst (IsWrittenBefore n []) (sym m.2) before_parts

  under_of : (token : List Step) (s : Step) (rest : List Step) → Names role n token (s ∷ rest) → NamesUnder All token (s ∷ rest)
  unfolding value_at role_from
  under_of token s rest (m, steps, v, w) = go (part_behind n s) refl v
    where
      go : (o : Option Placed) → part_behind n s ≡ o → option_and_then (λ x. value_at x rest) o ≡ Some m → NamesUnder All token (s ∷ rest)
      go None e f = absurd (cc)
      go (Some c) e f = (s, rest, c, refl, among s c All e, (m, steps, f, ap (λ r. written_as r (tree_of m)) (role_on s rest) ∙ w))

  whole_is : (token : List Step) → Names role n token [] → (steps : List Step) × (written_as role (tree_of n) ≡ refers token steps)
  unfolding value_at role_from
  whole_is token (m, steps, v, w) = let same : n ≡ m = cc in (steps, subst (λ x. written_as role (tree_of x) ≡ refers token steps) (sym same) w)

  is_whole : (token steps : List Step) → written_as role (tree_of n) ≡ refers token steps → Names role n token []
  unfolding value_at role_from
  is_whole token steps w = (n, steps, refl, w)

  none : ((token steps : List Step) → written_as role (tree_of n) ≡ refers token steps → ⊥) → (tokens : Trails) → PartsListing All tokens → Listing role n tokens
  none never tokens k = record {
    trails = k.trails;
    named = zip_on (NamesUnder All) (Names role n) named_below tokens k.trails k.named;
    ordered = ordered_below k.trails k.ordered;
    all = every;
  }
    where
      every : (trail t : List Step) → Names role n t trail → In trail k.trails
      every [] t h = let w = whole_is t h in absurd (never t w.0 w.1)
      every (s ∷ rest) t h = k.all (s ∷ rest) t (under_of t s rest h)

  with_whole : (w : Written) → written_as role (tree_of n) ≡ w → (tokens : Trails) → PartsListing All tokens → Listing role n (named_by w ++ tokens)
  with_whole (refers token steps) e tokens k = record {
    trails = [] ∷ k.trails;
    named = (is_whole token steps e, zip_on (NamesUnder All) (Names role n) named_below tokens k.trails k.named);
    ordered = (first_of_all k.trails k.within, ordered_below k.trails k.ordered);
    all = every;
  }
    where
      every : (trail t : List Step) → Names role n t trail → In trail ([] ∷ k.trails)
      every [] t h = inl refl
      every (s ∷ rest) t h = inr (k.all (s ∷ rest) t (under_of t s rest h))
  with_whole (leaf v) e tokens k = none (λ t steps f. let bad : leaf v ≡ refers t steps = sym e ∙ f in cc) tokens k
  with_whole (parts c steps) e tokens k = none (λ t ss f. let bad : parts c steps ≡ refers t ss = sym e ∙ f in cc) tokens k
  with_whole misspelled e tokens k = none (λ t steps f. let bad : misspelled ≡ refers t steps = sym e ∙ f in cc) tokens k

-- each part of a value without a flaw has none

items_sound : (ns : Elements) (m : Placed) → In m (elements_in ns) → IsInElements m ns × (ElementsHaveFewParts ns → HasFewParts m)
items_sound no_elements m h = elim h [ ]
items_sound (an_element n ns) m (inl e) = (in_element (subst (λ x. IsPart m x) e itself), λ k. subst HasFewParts (sym e) k.0)
items_sound (an_element n ns) m (inr h) = let k = items_sound ns m h in (in_later_element k.0, λ f. k.1 f.1)

members_sound : (ms : Members) (m : Placed) → In m (map (λ e. e.value) (entries_in ms)) → IsInMembers m ms × (MembersHaveFewParts ms → HasFewParts m)
members_sound no_members m h = elim h [ ]
members_sound (a_member s start end n ms) m (inl e) = (in_member (subst (λ x. IsPart m x) e itself), λ k. subst HasFewParts (sym e) k.0)
members_sound (a_member s start end n ms) m (inr h) = let k = members_sound ms m h in (in_later_member k.0, λ f. k.1 f.1)

each_item : (ns : Elements) (start end : ℕ) → IsFlawless (placed (an_array ns) start end) → Each (elements_in ns) IsFlawless
each_item ns start end k = λ m h.
    let i = items_sound ns m h in
    let part : IsPart m (placed (an_array ns) start end) = inside (inside_array i.0) in
    record { room = k.room; flawless = part_flawless k.room part k.flawless; short = i.1 k.short.1 }

each_member : (ms : Members) (start end : ℕ) → IsFlawless (placed (an_object ms) start end) → Each (map (λ e. e.value) (entries_in ms)) IsFlawless
each_member ms start end k = λ m h.
    let i = members_sound ms m h in
    let part : IsPart m (placed (an_object ms) start end) = inside (inside_object i.0) in
    record { room = k.room; flawless = part_flawless k.room part k.flawless; short = i.1 k.short.1 }

mutual
  list_in : (role : Role) (n : Placed) → IsFlawless n → Listing role n (refs_in role n)
  list_in role (placed v start end) k = list_at role v start end k

  list_at : (role : Role) (v : Tree) (start end : ℕ) → IsFlawless (placed v start end) → Listing role (placed v start end) (refs_at role v)
  list_at role a_null start end k = with_whole role (placed a_null start end) tt (written_as role a_null) refl [] no_parts
  list_at role (a_boolean b) start end k = with_whole role (placed (a_boolean b) start end) tt (written_as role (a_boolean b)) refl [] no_parts
  list_at role (a_number x) start end k = with_whole role (placed (a_number x) start end) tt (written_as role (a_number x)) refl [] no_parts
  list_at role (a_string text) start end k =
      subst (Listing role (placed (a_string text) start end)) (append-nil (named_by (text_written role text)))
      (with_whole role (placed (a_string text) start end) tt (text_written role text) refl [] no_parts)
  list_at role (an_array ns) start end k =
      with_whole role (placed (an_array ns) start end) (distinct_parts (placed (an_array ns) start end) k) (written_as role (an_array ns)) refl (refs_in_items ns) (list_items 0 ns (each_item ns start end k))
  list_at role (an_object ms) start end k =
      with_whole role (placed (an_object ms) start end) (distinct_parts (placed (an_object ms) start end) k) (object_written (entries_in ms)) refl (refs_in_members ms) (list_members ms (each_member ms start end k))

  list_items : (i : ℕ) (ns : Elements) → Each (elements_in ns) IsFlawless → PartsListing (parts_by_index i (elements_in ns)) (refs_in_items ns)
  list_items i no_elements h = no_parts
  list_items i (an_element n ns) h =
      one_part (decimal i) n (parts_by_index (i + 1) (elements_in ns)) (refs_in of_value n) (refs_in_items ns)
      (subst (λ r. Listing r n (refs_in of_value n)) (sym (index_role i)) (list_in of_value n (h n (inl refl)))) (list_items (i + 1) ns (λ m j. h m (inr j)))

  list_members : (ms : Members) → Each (map (λ e. e.value) (entries_in ms)) IsFlawless → PartsListing (parts_by_name (entries_in ms)) (refs_in_members ms)
  list_members no_members h = no_parts
  list_members (a_member s start end n ms) h =
      one_part s n (parts_by_name (entries_in ms)) (refs_in (role_behind s) n) (refs_in_members ms)
      (list_in (role_behind s) n (h n (inl refl))) (list_members ms (λ m j. h m (inr j)))

-- those of a definition

written_names : (d : Definition) (token trail : List Step) → Names (role_at d.by_ref []) d.value token trail → (steps : List Step) × (written_at d trail ≡ Some (refers token steps))
unfolding written_at
written_names d token trail (m, steps, v, w) =
    (steps, ap (option_map (λ n. written_as (role_at d.by_ref trail) (tree_of n))) v ∙ ap Some (ap (λ r. written_as r (tree_of m)) (sym (role_begins d.by_ref trail)) ∙ w))

names_written : (d : Definition) (trail token steps : List Step) → written_at d trail ≡ Some (refers token steps) → Names (role_at d.by_ref []) d.value token trail
unfolding written_at
names_written d trail token steps h = go (value_at d.value trail) refl h
  where
    go : (o : Option Placed) → value_at d.value trail ≡ o → option_map (λ n. written_as (role_at d.by_ref trail) (tree_of n)) o ≡ Some (refers token steps) → Names (role_at d.by_ref []) d.value token trail
    go None e k = absurd (cc)
    go (Some m) e k =
        let w : written_as (role_at d.by_ref trail) (tree_of m) ≡ refers token steps = cc in
        (m, steps, e, ap (λ r. written_as r (tree_of m)) (role_begins d.by_ref trail) ∙ w)

pub refs_in_order : (d : Definition) → IsDefinition d → length d.source < 2 ^ 64 → (trails : Trails) × AreRefsAt d (refs_of d) trails
unfolding refs_of
refs_in_order d k h =
    let l = list_in (role_at d.by_ref []) d.value (sound_definition d k h) in (
      l.trails,
      record {
        named = zip_on (Names (role_at d.by_ref []) d.value) (λ token trail. (steps : List Step) × (written_at d trail ≡ Some (refers token steps))) (written_names d) (refs_in (role_at d.by_ref []) d.value) l.trails l.named;
        ordered = l.ordered;
        all = λ trail token steps w. l.all trail token (names_written d trail token steps w);
      },
    )
