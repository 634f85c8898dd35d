-- The breaks of a token file's shape have spans in the file.
use Rattle.std.proofs.Common.{◌≡◌, ◌⊎◌, ℕ, Bool, true, false, not, List, [], ◌∷◌, ◌++◌, if◌then◌else◌, codes, inl, inr, refl, sym, subst}
use Rattle.std.specs.List.{flat_map}
use Rattle.std.specs.Str.{bytes_eq}
use Rattle.name_path.specs.Names.{root_name}
use Rattle.json_span.specs.Tree.{Tree, a_null, a_boolean, a_number, a_string, an_array, an_object, Placed, placed, Members, no_members, a_member, Entry, tree_of, start_of, end_of, entries_in}
use Rattle.ring.specs.Lists.{In}
use Rattle.ring.proofs.Ends.{in_cases}
use Rattle.token_tree.specs.Shape.{Break, at_value, at_name, members_in, entries_at, is_object, has, are_token, is_token, has_token_form, has_group_form, token_member_breaks, token_breaks, root_breaks, reserved_breaks, group_member_breaks, group_breaks, child_breaks, object_breaks, shape_breaks}
use Rattle.token_tree.specs.Texts.{is_reserved, is_name}
use Rattle.token_tree.specs.declared.fault.Rule.{Rule}
use Rattle.token_tree.specs.declared.fault.Rule.TheVariants as rule
use Rattle.transforms.proofs.NamesApart.{from_flat}
use Rattle.build_plain.proofs.SpansInText.{IsWithin, SpansIn, PartsIn, MembersIn, span_within, EntryIn, AllIn, entries_all}

module _ (low high : ℕ) where
  abbrev pub BreakIn : Break → Type 0
  BreakIn b = IsWithin low high b.start b.end

  abbrev BreaksIn : List Break → Type 0
  BreaksIn bs = (b : Break) → In b bs → BreakIn b

  none : BreaksIn []
  none b i = absurd i

  -- of one list or of the other
  by_test : (t : Bool) (xs ys : List Break) → BreaksIn xs → BreaksIn ys → BreaksIn (if t then xs else ys)
  by_test true xs ys p q = p
  by_test false xs ys p q = q

  both : (xs ys : List Break) → BreaksIn xs → BreaksIn ys → BreaksIn (xs ++ ys)
  both xs ys p q b i = go (in_cases xs ys b i)
    where
      go : In b xs ⊎ In b ys → BreakIn b
      go (inl j) = p b j
      go (inr j) = q b j

  of_value : (r : Rule) (n : Placed) → SpansIn low high n → BreaksIn (at_value r n)
  of_value r n s b (inl e) = subst BreakIn (sym e) (span_within low high n s)
  of_value r n s b (inr i) = absurd i

  of_name : (r : Rule) (e : Entry) → EntryIn low high e → BreaksIn (at_name r e)
  of_name r e s b (inl is) = subst BreakIn (sym is) s.name_in
  of_name r e s b (inr i) = absurd i

  of_token_member : (valued : Bool) (e : Entry) → EntryIn low high e → BreaksIn (token_member_breaks valued e)
  of_token_member valued e s =
      by_test (not (is_reserved e.name)) (at_name rule.TokenChild e) (if has_token_form valued e.name (tree_of e.value) then [] else at_value rule.Property e.value) (of_name rule.TokenChild e s)
      (by_test (has_token_form valued e.name (tree_of e.value)) [] (at_value rule.Property e.value) none (of_value rule.Property e.value s.value))

  pub of_token : (es : List Entry) → AllIn low high es → BreaksIn (token_breaks es)
  of_token es all b i = go (from_flat (token_member_breaks (has (codes "$value") es)) b es i)
    where
      go : (e : Entry) × In e es × In b (token_member_breaks (has (codes "$value") es) e) → BreakIn b
      go (e, j, k) = of_token_member (has (codes "$value") es) e (all e j) b k

  pub all_entries : (n : Placed) → SpansIn low high n → AllIn low high (entries_at n)
  all_entries (placed a_null start end) s e i = absurd i
  all_entries (placed (a_boolean b) start end) s e i = absurd i
  all_entries (placed (a_number k) start end) s e i = absurd i
  all_entries (placed (a_string t) start end) s e i = absurd i
  all_entries (placed (an_array ns) start end) s e i = absurd i
  all_entries (placed (an_object ms) start end) s e i = entries_all low high ms s.3 e i

  of_root : (n : Placed) → SpansIn low high n → BreaksIn (root_breaks n)
  of_root n s = by_test (is_token n) (token_breaks (entries_at n)) (at_value rule.RootToken n) (of_token (entries_at n) (all_entries n s)) (of_value rule.RootToken n s)

  of_reserved : (e : Entry) → EntryIn low high e → BreaksIn (reserved_breaks e)
  of_reserved e s = by_test (has_group_form e.name (tree_of e.value)) [] (at_value rule.Property e.value) none (of_value rule.Property e.value s.value)

  of_group_member : (e : Entry) (inner : List Break) → EntryIn low high e → BreaksIn inner → BreaksIn (group_member_breaks e inner)
  of_group_member e inner s p =
      by_test (bytes_eq e.name root_name) (root_breaks e.value) (if is_reserved e.name then reserved_breaks e else if is_name e.name then inner else at_name rule.Name e ++ inner) (of_root e.value s.value)
      (by_test (is_reserved e.name) (reserved_breaks e) (if is_name e.name then inner else at_name rule.Name e ++ inner) (of_reserved e s)
      (by_test (is_name e.name) inner (at_name rule.Name e ++ inner) p (both (at_name rule.Name e) inner (of_name rule.Name e s) p)))

  mutual
    of_group : (ms : Members) → MembersIn low high ms → BreaksIn (group_breaks ms)
    of_group no_members s = none
    of_group (a_member name start end n ms) s =
        let e : Entry = record { name = name; start = start; end = end; value = n } in
        both (group_member_breaks e (child_breaks n)) (group_breaks ms) (of_group_member e (child_breaks n) (record { name_in = s.0; value = s.1 }) (of_child n s.1)) (of_group ms s.2)

    of_child : (n : Placed) → SpansIn low high n → BreaksIn (child_breaks n)
    of_child (placed a_null start end) s = of_value rule.Member (placed a_null start end) s
    of_child (placed (a_boolean b) start end) s = of_value rule.Member (placed (a_boolean b) start end) s
    of_child (placed (a_number k) start end) s = of_value rule.Member (placed (a_number k) start end) s
    of_child (placed (a_string t) start end) s = of_value rule.Member (placed (a_string t) start end) s
    of_child (placed (an_array ns) start end) s = of_value rule.Member (placed (an_array ns) start end) s
    of_child (placed (an_object ms) start end) s =
        by_test (are_token (entries_in ms)) (token_breaks (entries_in ms)) (group_breaks ms) (of_token (entries_in ms) (entries_all low high ms s.3)) (of_group ms s.3)

  members_all : (n : Placed) → SpansIn low high n → MembersIn low high (members_in (tree_of n))
  members_all (placed a_null start end) s = tt
  members_all (placed (a_boolean b) start end) s = tt
  members_all (placed (a_number k) start end) s = tt
  members_all (placed (a_string t) start end) s = tt
  members_all (placed (an_array ns) start end) s = tt
  members_all (placed (an_object ms) start end) s = s.3

  pub shape_in : (root : Placed) → SpansIn low high root → (b : Break) → In b (shape_breaks root) → BreakIn b
  unfolding shape_breaks
  shape_in root s =
      by_test (not (is_object (tree_of root))) (at_value rule.Root root) (if is_token root then at_value rule.Root root ++ token_breaks (entries_at root) else group_breaks (members_in (tree_of root))) (of_value rule.Root root s)
      (by_test (is_token root) (at_value rule.Root root ++ token_breaks (entries_at root)) (group_breaks (members_in (tree_of root)))
      (both (at_value rule.Root root) (token_breaks (entries_at root)) (of_value rule.Root root s) (of_token (entries_at root) (all_entries root s))) (of_group (members_in (tree_of root)) (members_all root s)))
