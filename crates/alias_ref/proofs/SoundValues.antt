-- What is kept of the value of a definition by each of its parts: no two members have one name, and no array is too long.
use Rattle.std.proofs.Common.{◌≡◌, ℕ, zero, suc, ◌+◌, ◌<◌, ◌≤◌, ◌^◌, Bool, true, false, cond, ◌||◌, List, [], ◌∷◌, ◌++◌, length, Option, Some, None, refl, sym, ap, ◌∙◌, subst, inl, inr, arith, codes}
use Rattle.std.specs.Prelude.{unwrap_or}
use Rattle.std.specs.Fmt.{decimal}
use Rattle.std.specs.List.{list_any}
use Rattle.std.specs.Str.{bytes_eq}
use Rattle.std.proofs.lemmas.Fmt.{decimal_injective}
use Rattle.grammar.specs.Grammar.{Reads, one_byte, both}
use Rattle.grammar.proofs.Steps.{no_longer}
use Rattle.ring.specs.Lists.{In}
use Rattle.json_span.specs.Predictive.{rules, symbol}
use Rattle.json_span.specs.Tree.{Tree, a_null, a_boolean, a_number, a_string, an_array, an_object, Placed, placed, Elements, no_elements, an_element, Members, no_members, a_member, Entry, tree_of, elements_in, entries_in, value_of_name}
use Rattle.json_span.specs.Reading.{ValueAt, with_span, Shape, null_shape, false_shape, true_shape, number_shape, string_shape, array_shape, object_shape, ElementsAt, no_element, first_element, MoreElements, last_element, next_element, MemberAt, member_at, MembersAt, no_member, first_member, MoreMembers, last_member, next_member, Shows}
use Rattle.json_span.specs.Flaw.{Flaw, equal_names, or_else, is_seen, flaw_in, flaw_at, flaw_in_elements, flaw_in_members, most_open}
use Rattle.json_span.specs.Parts.{moved, moved_tree, moved_elements, moved_members, IsPart, itself, inside, inside_array, inside_object, IsInElements, in_element, in_later_element, IsInMembers, in_member, in_later_member}
use Rattle.json_span.proofs.Unique.{value_reads}
use Rattle.token_tree.specs.Tree.{Definition}
use Rattle.token_tree.specs.Shape.{entries_at, token_value}
use Rattle.token_tree.specs.Promise.{IsDefinition}
use Rattle.token_tree.proofs.PartsWithoutFlaws.{part_flawless}
use Rattle.token_tree.proofs.Names.{same_text, text_same}
use Rattle.alias_ref.specs.Written.{Step, Parts, parts_by_index, parts_by_name, parts_of, steps_of, part_under, part_behind}
use Rattle.alias_ref.specs.inner.Spots.{HasFewParts, TreeHasFewParts, ElementsHaveFewParts, MembersHaveFewParts, IsFlawless}

-- a value of a text has short arrays

past_token : {c : ℕ} {t u : List ℕ} → Reads rules (symbol c) t u → length u < length t
past_token (both (one_byte h) w) = omega (arith, no_longer w)

mutual
  value_short : {total : ℕ} {t u : List ℕ} {n : Placed} → ValueAt total t n u → length t < 2 ^ 64 → HasFewParts n
  value_short (with_span s p q) h = shape_short s h

  shape_short : {total : ℕ} {t u : List ℕ} {v : Tree} → Shape total t v u → length t < 2 ^ 64 → TreeHasFewParts v
  shape_short (null_shape r) h = tt
  shape_short (false_shape r) h = tt
  shape_short (true_shape r) h = tt
  shape_short (number_shape r e) h = tt
  shape_short (string_shape k) h = tt
  shape_short (array_shape r y) h = let k = past_token r in let s = elements_short y (omega (arith, k, h)) in (omega (arith, k, h, s.0), s.1)
  shape_short (object_shape r y) h = let k = past_token r in let s = members_short y (omega (arith, k, h)) in (omega (arith, k, h, s.0), s.1)

  elements_short : {total : ℕ} {t u : List ℕ} {ns : Elements} → ElementsAt total t ns u → length t < 2 ^ 64 → (length (elements_in ns) ≤ length t) × ElementsHaveFewParts ns
  elements_short (no_element r) h = (omega arith, tt)
  elements_short (first_element v b m) h =
      let x = no_longer (value_reads v) in
      let y = no_longer b in
      let s = more_elements_short m (omega (arith, x, y, h)) in
      (omega (arith, x, y, s.0), (value_short v h, s.1))

  more_elements_short : {total : ℕ} {t u : List ℕ} {ns : Elements} → MoreElements total t ns u → length t < 2 ^ 64 → (length (elements_in ns) < length t) × ElementsHaveFewParts ns
  more_elements_short (last_element (one_byte r)) h = (omega arith, tt)
  more_elements_short (next_element c v b m) h =
      let k = past_token c in
      let x = no_longer (value_reads v) in
      let y = no_longer b in
      let s = more_elements_short m (omega (arith, k, x, y, h)) in
      (omega (arith, k, x, y, s.0), (value_short v (omega (arith, k, h)), s.1))

  member_short : {total : ℕ} {t u s : List ℕ} {start end : ℕ} {n : Placed} → MemberAt total t s start end n u → length t < 2 ^ 64 → HasFewParts n
  member_short (member_at k p q a c v) h =
      let x = no_longer k.reads in
      let y = no_longer a in
      let z = past_token c in
      value_short v (omega (arith, x, y, z, h))

  members_short : {total : ℕ} {t u : List ℕ} {ms : Members} → MembersAt total t ms u → length t < 2 ^ 64 → (length (entries_in ms) ≤ length t) × MembersHaveFewParts ms
  members_short (no_member r) h = (omega arith, tt)
  members_short (first_member m b more) h =
      let x = member_longer m in
      let y = no_longer b in
      let s = more_members_short more (omega (arith, x, y, h)) in
      (omega (arith, x, y, s.0), (member_short m h, s.1))

  more_members_short : {total : ℕ} {t u : List ℕ} {ms : Members} → MoreMembers total t ms u → length t < 2 ^ 64 → (length (entries_in ms) < length t) × MembersHaveFewParts ms
  more_members_short (last_member (one_byte r)) h = (omega arith, tt)
  more_members_short (next_member c m b more) h =
      let k = past_token c in
      let x = member_longer m in
      let y = no_longer b in
      let s = more_members_short more (omega (arith, k, x, y, h)) in
      (omega (arith, k, x, y, s.0), (member_short m (omega (arith, k, h)), s.1))

  member_longer : {total : ℕ} {t u s : List ℕ} {start end : ℕ} {n : Placed} → MemberAt total t s start end n u → length u ≤ length t
  member_longer (member_at k p q a c v) =
      let x = no_longer k.reads in
      let y = no_longer a in
      let z = past_token c in
      let w = no_longer (value_reads v) in
      omega (arith, x, y, z, w)

shown_short : {text : List ℕ} {n : Placed} → Shows text n → length text < 2 ^ 64 → HasFewParts n
shown_short (t, m, b, v, d) h = let k = no_longer b in value_short v (omega (arith, k, h))

-- moving offsets changes neither

mutual
  short_moved : (d : ℕ) (n : Placed) → HasFewParts n → HasFewParts (moved d n)
  short_moved d (placed v start end) h = short_tree_moved d v h

  short_tree_moved : (d : ℕ) (v : Tree) → TreeHasFewParts v → TreeHasFewParts (moved_tree d v)
  short_tree_moved d a_null h = tt
  short_tree_moved d (a_boolean b) h = tt
  short_tree_moved d (a_number k) h = tt
  short_tree_moved d (a_string s) h = tt
  short_tree_moved d (an_array ns) h = (subst (λ k. k < 2 ^ 64) (sym (as_many d ns)) h.0, are_short_moved d ns h.1)
  short_tree_moved d (an_object ms) h = (subst (λ k. k < 2 ^ 64) (sym (as_many_members d ms)) h.0, members_short_moved d ms h.1)

  as_many : (d : ℕ) (ns : Elements) → length (elements_in (moved_elements d ns)) ≡ length (elements_in ns)
  as_many d no_elements = refl
  as_many d (an_element n ns) = ap suc (as_many d ns)

  as_many_members : (d : ℕ) (ms : Members) → length (entries_in (moved_members d ms)) ≡ length (entries_in ms)
  as_many_members d no_members = refl
  as_many_members d (a_member s start end n ms) = ap suc (as_many_members d ms)

  are_short_moved : (d : ℕ) (ns : Elements) → ElementsHaveFewParts ns → ElementsHaveFewParts (moved_elements d ns)
  are_short_moved d no_elements h = tt
  are_short_moved d (an_element n ns) h = (short_moved d n h.0, are_short_moved d ns h.1)

  members_short_moved : (d : ℕ) (ms : Members) → MembersHaveFewParts ms → MembersHaveFewParts (moved_members d ms)
  members_short_moved d no_members h = tt
  members_short_moved d (a_member s start end n ms) h = (short_moved d n h.0, members_short_moved d ms h.1)

left_none : (a b : Option Flaw) → or_else a b ≡ None → a ≡ None
left_none None b e = refl
left_none (Some x) b e = cc

right_none : (a b : Option Flaw) → or_else a b ≡ None → b ≡ None
right_none None b e = e
right_none (Some x) b e = cc

both_none : (a b : Option Flaw) → a ≡ None → b ≡ None → or_else a b ≡ None
both_none a b p q = ap (λ x. or_else x b) p ∙ q

not_seen : (t : Bool) (f : Flaw) (o : Option Flaw) → cond t (Some f) o ≡ None → (t ≡ false) × (o ≡ None)
not_seen true f o e = cc
not_seen false f o e = (refl, e)

mutual
  flawless_moved : (d r : ℕ) (n : Placed) → flaw_in r n ≡ None → flaw_in r (moved d n) ≡ None
  flawless_moved d r (placed v start end) e = flawless_tree_moved d r start v e

  flawless_tree_moved : (d r start : ℕ) (v : Tree) → flaw_at r start v ≡ None → flaw_at r (d + start) (moved_tree d v) ≡ None
  flawless_tree_moved d r start a_null e = refl
  flawless_tree_moved d r start (a_boolean b) e = refl
  flawless_tree_moved d r start (a_number k) e = refl
  flawless_tree_moved d r start (a_string s) e = refl
  flawless_tree_moved d zero start (an_array ns) e = cc
  flawless_tree_moved d (suc r) start (an_array ns) e = flawless_elements_moved d r ns e
  flawless_tree_moved d zero start (an_object ms) e = cc
  flawless_tree_moved d (suc r) start (an_object ms) e = flawless_members_moved d r [] ms e

  flawless_elements_moved : (d r : ℕ) (ns : Elements) → flaw_in_elements r ns ≡ None → flaw_in_elements r (moved_elements d ns) ≡ None
  flawless_elements_moved d r no_elements e = refl
  flawless_elements_moved d r (an_element n ns) e =
      both_none _ _ (flawless_moved d r n (left_none _ (flaw_in_elements r ns) e)) (flawless_elements_moved d r ns (right_none (flaw_in r n) _ e))

  flawless_members_moved : (d r : ℕ) (names : List (List ℕ)) (ms : Members) → flaw_in_members r names ms ≡ None → flaw_in_members r names (moved_members d ms) ≡ None
  flawless_members_moved d r names no_members e = refl
  flawless_members_moved d r names (a_member s start end n ms) e =
      let k = not_seen (is_seen names s) (equal_names start end) (or_else (flaw_in r n) (flaw_in_members r (s ∷ names) ms)) e in
      ap (λ x. cond x (Some (equal_names (d + start) (d + end))) (or_else (flaw_in r (moved d n)) (flaw_in_members r (s ∷ names) (moved_members d ms)))) k.0
      ∙ both_none _ _ (flawless_moved d r n (left_none _ (flaw_in_members r (s ∷ names) ms) k.1)) (flawless_members_moved d r (s ∷ names) ms (right_none (flaw_in r n) _ k.1))

-- the value of a definition

under_member : (name : List ℕ) (ms : Members) (n : Placed) → value_of_name name (entries_in ms) ≡ Some n → IsInMembers n ms × (MembersHaveFewParts ms → HasFewParts n)
under_member name no_members n e = absurd (cc)
under_member name (a_member s start end m ms) n e = go (bytes_eq s name) e (under_member name ms n)
  where
    go : (b : Bool) → cond b (Some m) (value_of_name name (entries_in ms)) ≡ Some n → (value_of_name name (entries_in ms) ≡ Some n → IsInMembers n ms × (MembersHaveFewParts ms → HasFewParts n)) → IsInMembers n (a_member s start end m ms) × (MembersHaveFewParts (a_member s start end m ms) → HasFewParts n)
    go true f rec = let same : m ≡ n = cc in (in_member (subst (λ x. IsPart n x) (sym same) itself), λ h. subst HasFewParts same h.0)
    go false f rec = let k = rec f in (in_later_member k.0, λ h. k.1 h.1)

-- a value that stands in an object, or the value itself
Inside : Placed → Placed → Type 0
Inside n m = IsPart n m × (HasFewParts m → HasFewParts n)

under_inside : (name : List ℕ) (m n : Placed) → value_of_name name (entries_at m) ≡ Some n → Inside n m
unfolding Inside
under_inside name (placed a_null start end) n e = absurd (cc)
under_inside name (placed (a_boolean b) start end) n e = absurd (cc)
under_inside name (placed (a_number k) start end) n e = absurd (cc)
under_inside name (placed (a_string s) start end) n e = absurd (cc)
under_inside name (placed (an_array ns) start end) n e = absurd (cc)
under_inside name (placed (an_object ms) start end) n e = let k = under_member name ms n e in (inside (inside_object k.0), λ h. k.1 h.1)

chosen_inside : (o p : Option Placed) (m : Placed) → ((n : Placed) → o ≡ Some n → Inside n m) → ((n : Placed) → p ≡ Some n → Inside n m) → Inside (unwrap_or o (unwrap_or p m)) m
unfolding Inside
chosen_inside (Some n) p m h k = h n refl
chosen_inside None (Some n) m h k = k n refl
chosen_inside None None m h k = (itself, λ s. s)

value_inside : (m : Placed) → Inside (token_value m) m
value_inside m = chosen_inside (value_of_name (codes "$ref") (entries_at m)) (value_of_name (codes "$value") (entries_at m)) m (λ n e. under_inside (codes "$ref") m n e) (λ n e. under_inside (codes "$value") m n e)

pub value_is_part : (m : Placed) → IsPart (token_value m) m
unfolding Inside
value_is_part m = (value_inside m).0

pub sound_definition : (d : Definition) → IsDefinition d → length d.source < 2 ^ 64 → IsFlawless d.value
unfolding Inside
sound_definition d k h =
    let i = value_inside k.object in
    let value : d.value ≡ moved d.start (token_value k.object) = ap (λ x. x.value) k.same in
    record {
      room = most_open;
      flawless = ap (flaw_in most_open) value ∙ flawless_moved d.start most_open (token_value k.object) (part_flawless most_open i.0 k.flawless);
      short = subst HasFewParts (sym value) (short_moved d.start (token_value k.object) (i.1 (shown_short k.shown h)));
    }

-- a part

item_inside : (s : Step) (i : ℕ) (ns : Elements) (m : Placed) → part_under s (parts_by_index i (elements_in ns)) ≡ Some m → IsInElements m ns × (ElementsHaveFewParts ns → HasFewParts m)
item_inside s i no_elements m e = absurd (cc)
item_inside s i (an_element n ns) m e = go (bytes_eq (decimal i) s) e (item_inside s (i + 1) ns m)
  where
    go : (b : Bool) → cond b (Some n) (part_under s (parts_by_index (i + 1) (elements_in ns))) ≡ Some m → (part_under s (parts_by_index (i + 1) (elements_in ns)) ≡ Some m → IsInElements m ns × (ElementsHaveFewParts ns → HasFewParts m)) → IsInElements m (an_element n ns) × (ElementsHaveFewParts (an_element n ns) → HasFewParts m)
    go true f rec = let same : n ≡ m = cc in (in_element (subst (λ x. IsPart m x) (sym same) itself), λ h. subst HasFewParts same h.0)
    go false f rec = let k = rec f in (in_later_element k.0, λ h. k.1 h.1)

member_inside : (s : Step) (ms : Members) (m : Placed) → part_under s (parts_by_name (entries_in ms)) ≡ Some m → IsInMembers m ms × (MembersHaveFewParts ms → HasFewParts m)
member_inside s no_members m e = absurd (cc)
member_inside s (a_member name start end n ms) m e = go (bytes_eq name s) e (member_inside s ms m)
  where
    go : (b : Bool) → cond b (Some n) (part_under s (parts_by_name (entries_in ms))) ≡ Some m → (part_under s (parts_by_name (entries_in ms)) ≡ Some m → IsInMembers m ms × (MembersHaveFewParts ms → HasFewParts m)) → IsInMembers m (a_member name start end n ms) × (MembersHaveFewParts (a_member name start end n ms) → HasFewParts m)
    go true f rec = let same : n ≡ m = cc in (in_member (subst (λ x. IsPart m x) (sym same) itself), λ h. subst HasFewParts same h.0)
    go false f rec = let k = rec f in (in_later_member k.0, λ h. k.1 h.1)

part_inside : (n : Placed) (s : Step) (m : Placed) → part_behind n s ≡ Some m → Inside m n
unfolding Inside
part_inside (placed a_null start end) s m e = absurd (cc)
part_inside (placed (a_boolean b) start end) s m e = absurd (cc)
part_inside (placed (a_number k) start end) s m e = absurd (cc)
part_inside (placed (a_string t) start end) s m e = absurd (cc)
part_inside (placed (an_array ns) start end) s m e = let k = item_inside s 0 ns m e in (inside (inside_array k.0), λ h. k.1 h.1)
part_inside (placed (an_object ms) start end) s m e = let k = member_inside s ms m e in (inside (inside_object k.0), λ h. k.1 h.1)

pub step_is_part : (n : Placed) (s : Step) (m : Placed) → part_behind n s ≡ Some m → IsPart m n
unfolding Inside
step_is_part n s m e = (part_inside n s m e).0

pub sound_part : (n : Placed) (s : Step) (m : Placed) → IsFlawless n → part_behind n s ≡ Some m → IsFlawless m
unfolding Inside
sound_part n s m k e = let i = part_inside n s m e in record { room = k.room; flawless = part_flawless k.room i.0 k.flawless; short = i.1 k.short }

-- the steps to parts differ

abbrev pub AreDistinct : List Step → Type 0
AreDistinct [] = Unit {0}
AreDistinct (s ∷ ss) = ((r : Step) → In r ss → r ≡ s → ⊥) × AreDistinct ss

later_index : (i j : ℕ) (ns : List Placed) (r : Step) → i < j → j + length ns ≤ 2 ^ 64 → In r (steps_of (parts_by_index j ns)) → r ≡ decimal i → ⊥
later_index i j [] r less room h e = elim h [ ]
later_index i j (n ∷ ns) r less room h e = elim h [
  | inl f ↦ (let same = decimal_injective j i (omega (arith, room)) (omega (arith, less, room)) (sym f ∙ e) in omega (arith, same, less))
  | inr f ↦ later_index i (j + 1) ns r (omega (arith, less)) (omega (arith, room)) f e
]

indices_distinct : (i : ℕ) (ns : List Placed) → i + length ns ≤ 2 ^ 64 → AreDistinct (steps_of (parts_by_index i ns))
indices_distinct i [] room = tt
indices_distinct i (n ∷ ns) room = (λ r h e. later_index i (i + 1) ns r (omega arith) (omega (arith, room)) h e, indices_distinct (i + 1) ns (omega (arith, room)))

seen_first : (s : List ℕ) (names : List (List ℕ)) → is_seen (s ∷ names) s ≡ true
seen_first s names = ap (λ b. b || list_any (λ n. bytes_eq n s) names) (text_same s s refl)

or_right : (a b : Bool) → (a || b) ≡ false → b ≡ false
or_right true b e = absurd (cc)
or_right false b e = e

seen_later : (s r : List ℕ) (names : List (List ℕ)) → is_seen (s ∷ names) r ≡ false → is_seen names r ≡ false
seen_later s r names e = or_right (bytes_eq s r) (is_seen names r) e

later_name : (room : ℕ) (names : List (List ℕ)) (ms : Members) (r : Step) → flaw_in_members room names ms ≡ None → In r (steps_of (parts_by_name (entries_in ms))) → is_seen names r ≡ false
later_name room names no_members r e h = elim h [ ]
later_name room names (a_member s start end n ms) r e h =
    let k = not_seen (is_seen names s) (equal_names start end) (or_else (flaw_in room n) (flaw_in_members room (s ∷ names) ms)) e in
    elim h as (λ _. is_seen names r ≡ false) [
      | inl f ↦ ap (is_seen names) f ∙ k.0
      | inr f ↦ seen_later s r names (later_name room (s ∷ names) ms r (right_none (flaw_in room n) _ k.1) f)
    ]

names_distinct : (room : ℕ) (names : List (List ℕ)) (ms : Members) → flaw_in_members room names ms ≡ None → AreDistinct (steps_of (parts_by_name (entries_in ms)))
names_distinct room names no_members e = tt
names_distinct room names (a_member s start end n ms) e =
    let k = not_seen (is_seen names s) (equal_names start end) (or_else (flaw_in room n) (flaw_in_members room (s ∷ names) ms)) e in
    let rest = right_none (flaw_in room n) (flaw_in_members room (s ∷ names) ms) k.1 in (
      λ r h f. (let a = later_name room (s ∷ names) ms r rest h in let b = seen_first s names in let bad : true ≡ false = sym b ∙ ap (is_seen (s ∷ names)) (sym f) ∙ a in cc),
      names_distinct room (s ∷ names) ms rest,
    )

tree_distinct : (room start : ℕ) (v : Tree) → flaw_at room start v ≡ None → TreeHasFewParts v → AreDistinct (steps_of (parts_of v))
tree_distinct room start a_null e h = tt
tree_distinct room start (a_boolean b) e h = tt
tree_distinct room start (a_number k) e h = tt
tree_distinct room start (a_string s) e h = tt
tree_distinct room start (an_array ns) e h = indices_distinct 0 (elements_in ns) (omega (arith, h.0))
tree_distinct zero start (an_object ms) e h = absurd (cc)
tree_distinct (suc room) start (an_object ms) e h = names_distinct room [] ms e

pub distinct_parts : (n : Placed) → IsFlawless n → AreDistinct (steps_of (parts_of (tree_of n)))
distinct_parts (placed v start end) k = tree_distinct k.room start v k.flawless k.short

-- so each part is found under its own step

fails : (b : Bool) → (b ≡ true → ⊥) → b ≡ false
fails true h = absurd (h refl)
fails false h = refl

in_tail : (s : Step) (m : Placed) (rest xs : Parts) → In s (steps_of (xs ++ (s, m) ∷ rest))
in_tail s m rest [] = inl refl
in_tail s m rest (x ∷ xs) = inr (in_tail s m rest xs)

not_here : (s a : Step) → (s ≡ a → ⊥) → bytes_eq a s ≡ false
not_here s a h = fails (bytes_eq a s) (λ e. h (sym (same_text a s e)))

found_in : (s : Step) (m : Placed) (rest xs : Parts) → AreDistinct (steps_of (xs ++ (s, m) ∷ rest)) → part_under s (xs ++ (s, m) ∷ rest) ≡ Some m
found_in s m rest [] d = ap (λ b. cond b (Some m) (part_under s rest)) (text_same s s refl)
found_in s m rest (x ∷ xs) d = ap (λ b. cond b (Some x.1) (part_under s (xs ++ (s, m) ∷ rest))) (not_here s x.0 (d.0 s (in_tail s m rest xs))) ∙ found_in s m rest xs d.1

pub found_under : (ps front : Parts) (s : Step) (m : Placed) (rest : Parts) → AreDistinct (steps_of ps) → ps ≡ front ++ (s, m) ∷ rest → part_under s ps ≡ Some m
found_under ps front s m rest d e = subst (λ x. part_under s x ≡ Some m) (sym e) (found_in s m rest front (subst (λ x. AreDistinct (steps_of x)) e d))

-- there are not too many

length_numbered : (i : ℕ) (ns : List Placed) → length (parts_by_index i ns) ≡ length ns
length_numbered i [] = refl
length_numbered i (n ∷ ns) = ap suc (length_numbered (i + 1) ns)

length_named : (es : List Entry) → length (parts_by_name es) ≡ length es
length_named [] = refl
length_named (e ∷ es) = ap suc (length_named es)

tree_few : (v : Tree) → TreeHasFewParts v → length (parts_of v) < 2 ^ 64
tree_few a_null h = omega arith
tree_few (a_boolean b) h = omega arith
tree_few (a_number k) h = omega arith
tree_few (a_string s) h = omega arith
tree_few (an_array ns) h = omega (arith, h.0, length_numbered 0 (elements_in ns))
tree_few (an_object ms) h = omega (arith, h.0, length_named (entries_in ms))

-- so an array with these parts has not too many items
pub items_few : (n : Placed) (ns : List Placed) → IsFlawless n → parts_by_index 0 ns ≡ parts_of (tree_of n) → length ns < 2 ^ 64
items_few (placed v start end) ns k e = omega (arith, tree_few v k.short, ap length e, length_numbered 0 ns)
