-- Trees that texts without a break show have names at their members, and their strings and tokens are those of the texts.
use Rattle.std.proofs.Common.{rules, ◌≡◌, ℕ, Bool, true, false, cond, not, ◌||◌, List, [], ◌∷◌, ◌++◌, codes, Option, Some, None, inl, inr, refl, sym, ap, subst}
use Rattle.std.proofs.lemmas.Slice.Eq.{bytes_eq-Decides}
use Rattle.std.specs.FinMap as finite
use Rattle.std.specs.Prelude.{if◌then◌else◌, option_and_then}
use Rattle.std.specs.Str.{bytes_eq}
use Rattle.name_path.specs.Names.{IsName, root_name}
use Rattle.json_span.specs.Parts.{inside, inside_object, IsInMembers, in_member, in_later_member, itself}
use Rattle.json_span.specs.Tree.{Tree, a_null, a_boolean, a_number, a_string, an_array, an_object, Placed, placed, tree_of, Members, no_members, a_member, Entry, entries_in, value_of_name}
use Rattle.token_tree.specs.Laws.{NamesTest}
use Rattle.token_tree.specs.Promise.{StandsIn}
use Rattle.token_tree.specs.Shape.{Break, mark_in, properties_of, def_of, is_token, are_token, entries_at, members_in, is_object, is_child, put_children, child_of, group_of, shape_of, shape_breaks, group_breaks, child_breaks, group_member_breaks, root_breaks, reserved_breaks, token_breaks, at_value, at_name}
use Rattle.token_tree.specs.Texts.{is_reserved, is_name}
use Rattle.token_tree.specs.Tree.{Child, a_token, a_group, Named, group_with}
use Rattle.token_tree.specs.declared.fault.Rule.TheVariants as rule
use Rattle.token_tree.proofs.Keeps.{own_members}
use Rattle.token_tree.proofs.Places.{part_stands, under_stands}
use Rattle.source_trees.proofs.MergingKeepsTokens.{Holding, IsTokenName, IsMarked, WellFormed, IsWellFormed, AreFormed, none_formed, more_formed, group_formed}

nil_left : (xs ys : List Break) → xs ++ ys ≡ [] → xs ≡ []
nil_left [] ys e = refl
nil_left (x ∷ xs) ys e = cc

nil_right : (xs ys : List Break) → xs ++ ys ≡ [] → ys ≡ []
nil_right [] ys e = e
nil_right (x ∷ xs) ys e = cc

cons_breaks : (b : Break) (bs : List Break) → b ∷ bs ≡ [] → ⊥
cons_breaks b bs e = cc

-- `$root` is a token without a break
abbrev IsSoundToken : Placed → Type 0
IsSoundToken n = (is_token n ≡ true) × (token_breaks (entries_at n) ≡ [])

root_token : (b : Bool) (n : Placed) → is_token n ≡ b → (if b then token_breaks (entries_at n) else at_value rule.RootToken n) ≡ [] → IsSoundToken n
root_token true n same none = (same, none)
root_token false n same none = cc

same_text : (x y : List ℕ) → bytes_eq x y ≡ true → x ≡ y
same_text x y h = search (rules, bytes_eq-Decides)

-- the members of an object that stands in a text stand there
abbrev EachMember : List ℕ → Members → Type 0
EachMember text ms = (n : Placed) → IsInMembers n ms → StandsIn text n

members_stand : (text : List ℕ) (ms : Members) (start end : ℕ) → StandsIn text (placed (an_object ms) start end) → EachMember text ms
members_stand text ms start end s n i = part_stands text n (placed (an_object ms) start end) (inside (inside_object i)) s

-- the names of members
abbrev pub NamesHold : (List ℕ → Type 0) → Members → Type 0
NamesHold string no_members = Unit {0}
NamesHold string (a_member name start end n ms) = string name × NamesHold string ms

-- What holds of a text: of the names and the strings that stand in it, and of the tokens, each of which breaks no rule.
pub record HoldsOfText (holds : Holding) (file text : List ℕ) : Type 0 where
  pub names : (n : Placed) → StandsIn text n → NamesHold holds.string (members_in (tree_of n))
  pub strings : (n : Placed) (s : List ℕ) → StandsIn text n → tree_of n ≡ a_string s → holds.string s
  pub tokens : (n : Placed) → StandsIn text n → is_token n ≡ true → token_breaks (entries_at n) ≡ []
      → holds.token (def_of file text n)

module _ (holds : Holding) (tests : NamesTest) (file text : List ℕ) (of_text : HoldsOfText holds file text) where
  -- the mark of a group
  mark_shown : (v : Tree) → ((s : List ℕ) → v ≡ a_string s → holds.string s) → IsMarked holds (mark_in v)
  mark_shown a_null h = tt
  mark_shown (a_boolean true) h = tt
  mark_shown (a_boolean false) h = tt
  mark_shown (a_number k) h = tt
  mark_shown (a_string s) h = h s refl
  mark_shown (an_array ns) h = tt
  mark_shown (an_object ms) h = tt

  mark_under : (u : Option Placed) → ((n : Placed) → u ≡ Some n → StandsIn text n)
      → IsMarked holds (option_and_then (λ n. mark_in (tree_of n)) u)
  mark_under None h = tt
  mark_under (Some n) h = mark_shown (tree_of n) (λ s is. of_text.strings n s (h n refl) is)

  group_shown : (ms : Members) (start end : ℕ) (cs : Named) → StandsIn text (placed (an_object ms) start end)
      → AreFormed holds cs → WellFormed holds (group_with (properties_of file (entries_in ms)) cs)
  group_shown ms start end cs stands h =
      let n = placed (an_object ms) start end in
      let es = entries_in ms in
      let mark = mark_under (value_of_name (codes "$deprecated") es)
      (λ m u. under_stands text n es (own_members n ms refl) stands (codes "$deprecated") m u) in
      group_formed holds (properties_of file es) cs mark h

  token_child : (name : List ℕ) (n : Placed) → StandsIn text n → IsSoundToken n → IsTokenName name → holds.string name
      → IsWellFormed holds name (child_of file text n)
  token_child name (placed v start end) stands (is, sound) h string =
      subst (λ (c : Child). IsWellFormed holds name c) (sym (ap (λ b. cond b (a_token (def_of file text (placed v start end))) (a_group (group_of file text v))) is))
      (h, string, of_text.tokens (placed v start end) stands is sound)

  -- a member, by what its name is
  one_member : (name : List ℕ) (n : Placed) (cs : Named) (e : Entry) (below : List Break) (root reserved named_well : Bool) → StandsIn text n → holds.string name → bytes_eq name root_name ≡ root → is_name name ≡ named_well
      → (if root then root_breaks n else (if reserved then reserved_breaks e else (if named_well then below else (at_name rule.Name e ++ below)))) ≡ []
      → AreFormed holds cs → (below ≡ [] → IsName name → IsWellFormed holds name (child_of file text n)) → AreFormed holds (if root || not reserved then finite.insert cs name (child_of file text n) else cs)
  one_member name n cs e below true reserved named_well stands string is test none h later =
      more_formed holds cs name (child_of file text n) h (token_child name n stands (root_token (is_token n) n refl none) (inr (same_text name root_name is)) string)
  one_member name n cs e below false true named_well stands string is test none h later = h
  one_member name n cs e below false false true stands string is test none h later = more_formed holds cs name (child_of file text n) h (later none ((tests name).0 test))
  one_member name n cs e below false false false stands string is test none h later = absurd (cons_breaks _ _ none)

  -- a child, by whether it is a token
  object_shown : (name : List ℕ) (ms : Members) (start end : ℕ) (is_one : Bool) → StandsIn text (placed (an_object ms) start end) → are_token (entries_in ms) ≡ is_one
      → (if is_one then token_breaks (entries_in ms) else group_breaks ms) ≡ [] → IsName name → holds.string name → (group_breaks ms ≡ [] → WellFormed holds (group_of file text (an_object ms)))
      → IsWellFormed holds name (child_of file text (placed (an_object ms) start end))
  object_shown name ms start end true stands same none is string later = token_child name (placed (an_object ms) start end) stands (same, none) (inl is) string
  object_shown name ms start end false stands same none is string later =
      subst (λ (c : Child). IsWellFormed holds name c) (sym (ap (λ b. cond b (a_token (def_of file text (placed (an_object ms) start end))) (a_group (group_of file text (an_object ms)))) same)) (is, string, later none)

  mutual
    members_shown : (ms : Members) (cs : Named) → EachMember text ms → NamesHold holds.string ms → group_breaks ms ≡ [] → AreFormed holds cs → AreFormed holds (put_children file text ms cs)
    members_shown no_members cs stand names none h = h
    members_shown (a_member name start end n ms) cs stand names none h =
        let e : Entry = record { name = name; start = start; end = end; value = n } in
        let here = stand n (in_member itself) in
        members_shown ms (if is_child name then finite.insert cs name (child_of file text n) else cs) (λ x i. stand x (in_later_member i)) names.1 (nil_right (group_member_breaks e (child_breaks n)) (group_breaks ms) none)
        (one_member name n cs e (child_breaks n) (bytes_eq name root_name) (is_reserved name) (is_name name) here names.0 refl refl (nil_left (group_member_breaks e (child_breaks n)) (group_breaks ms) none) h
        (λ below is. child_shown name n here below is names.0))

    child_shown : (name : List ℕ) (n : Placed) → StandsIn text n → child_breaks n ≡ [] → IsName name → holds.string name → IsWellFormed holds name (child_of file text n)
    child_shown name (placed a_null start end) stands none is string = absurd (cons_breaks _ _ none)
    child_shown name (placed (a_boolean b) start end) stands none is string = absurd (cons_breaks _ _ none)
    child_shown name (placed (a_number k) start end) stands none is string = absurd (cons_breaks _ _ none)
    child_shown name (placed (a_string s) start end) stands none is string = absurd (cons_breaks _ _ none)
    child_shown name (placed (an_array ns) start end) stands none is string = absurd (cons_breaks _ _ none)
    child_shown name (placed (an_object ms) start end) stands none is string =
        object_shown name ms start end (are_token (entries_in ms)) stands refl none is string (λ below. group_shown ms start end (put_children file text ms finite.empty) stands
        (members_shown ms finite.empty (members_stand text ms start end stands) (of_text.names (placed (an_object ms) start end) stands) below (none_formed holds)))

  shown_formed : (v : Tree) (start end : ℕ) → StandsIn text (placed v start end) → group_breaks (members_in v) ≡ [] → WellFormed holds (group_of file text v)
  shown_formed a_null start end stands none = group_formed holds (properties_of file []) finite.empty tt (none_formed holds)
  shown_formed (a_boolean b) start end stands none = group_formed holds (properties_of file []) finite.empty tt (none_formed holds)
  shown_formed (a_number k) start end stands none = group_formed holds (properties_of file []) finite.empty tt (none_formed holds)
  shown_formed (a_string s) start end stands none = group_formed holds (properties_of file []) finite.empty tt (none_formed holds)
  shown_formed (an_array ns) start end stands none = group_formed holds (properties_of file []) finite.empty tt (none_formed holds)
  shown_formed (an_object ms) start end stands none =
      group_shown ms start end (put_children file text ms finite.empty) stands
      (members_shown ms finite.empty (members_stand text ms start end stands) (of_text.names (placed (an_object ms) start end) stands) none (none_formed holds))

  whole_breaks : (root : Placed) (object token : Bool) → (if not object then at_value rule.Root root else (if token then (at_value rule.Root root ++ token_breaks (entries_at root)) else group_breaks (members_in (tree_of root)))) ≡ []
      → group_breaks (members_in (tree_of root)) ≡ []
  whole_breaks root false token none = absurd (cons_breaks _ _ none)
  whole_breaks root true true none = absurd (cons_breaks _ _ none)
  whole_breaks root true false none = none

  -- what a value of the text shows
  pub shape_formed : (root : Placed) → StandsIn text root → shape_breaks root ≡ [] → WellFormed holds (shape_of file text root)
  unfolding shape_of shape_breaks
  shape_formed (placed v start end) stands none =
      let root = placed v start end in
      shown_formed v start end stands (whole_breaks root (is_object (tree_of root)) (is_token root) none)
