-- The members of a group with the expansions of its child groups in their place, one after the other.
use Rattle.std.proofs.lemmas.Bool.Decides.{nat_tests}
use Rattle.std.proofs.Common.{◌≡◌, ℕ, suc, ◌+◌, ◌<◌, ◌==◌, ◌&&◌, true, T, List, [], ◌∷◌, Option, None, Some, refl, sym, ap, ap₂, subst, ◌∙◌, length, arith, Result, Ok, Err, IfOk}
use Rattle.std.specs.FinMap as map
use Rattle.std.specs.FinMap.Entries.{find, is_sorted, below_all}
use Rattle.std.specs.Cmp.Lexicographic.{nat_list_cmp_total}
use Rattle.std.specs.Ordering.{is_lt}
use Rattle.tk_io.specs.Order.{text_cmp}
use Rattle.tk_io.proofs.TextMaps.{text_cmp-IsAntisymmetric}
use Rattle.token_tree.specs.Tree.{Definition, Child, a_token, a_group, Group, Children, no_children, child, Named, children_of, group_with}
use Rattle.token_tree.specs.declared.tree.Group.{Group as GroupIn}
use Rattle.group_inherit.specs.Expansion.{properties_in, without_extension, over_inherited, expanded, Expands, expands, AreExpanded, no_member, own_token, child_group, IsInherited, no_target, its_target}
use Rattle.group_inherit.specs.Extension.{GroupPath, at_path, children_in, target_path, names_of_groups, paths_below}
use Rattle.group_inherit.specs.Merging.{either, children_by_name}
use Rattle.group_inherit.specs.Ordered.{child_entries}
use Rattle.group_inherit.specs.Putting.{put_all}
use Rattle.group_inherit.specs.inner.Outcomes.{HasMembers}
use Rattle.group_inherit.specs.inner.Tables.{tabled_group, HaveExpansions, HasTarget}
use Rattle.group_inherit.proofs.OrderedTrees.{again, entries_again}
use Rattle.group_inherit.proofs.Overs.{get_named, named_entries}
use Rattle.group_inherit.proofs.Puts.{get_put_all, either_none}

abbrev pub Entries : Type 0
Entries = List (List ℕ × Child)

-- Expanded members have the names of the members, in their order.

below_same : (x : List ℕ) (tree : Group) (path : GroupPath) (cs : Children) {ms : Children} → AreExpanded tree path cs ms
    → below_all text_cmp x (child_entries ms) ≡ below_all text_cmp x (child_entries cs)
below_same x tree path no_children no_member = refl
below_same x tree path (child name (a_token d) cs) (own_token a) = ap (λ b. is_lt (text_cmp x name) && b) (below_same x tree path cs a)
below_same x tree path (child name (a_group g) cs) (child_group e a) = ap (λ b. is_lt (text_cmp x name) && b) (below_same x tree path cs a)

sorted_same : (tree : Group) (path : GroupPath) (cs : Children) {ms : Children} → AreExpanded tree path cs ms
    → is_sorted text_cmp (child_entries ms) ≡ is_sorted text_cmp (child_entries cs)
sorted_same tree path no_children no_member = refl
sorted_same tree path (child name (a_token d) cs) (own_token a) = ap₂ ◌&&◌ (below_same name tree path cs a) (sorted_same tree path cs a)
sorted_same tree path (child name (a_group g) cs) (child_group e a) = ap₂ ◌&&◌ (below_same name tree path cs a) (sorted_same tree path cs a)

-- children in the order of their names, put one after the other
named_put : (cs : Children) → T (is_sorted text_cmp (child_entries cs)) → children_by_name cs ≡ put_all (child_entries cs) map.empty
named_put cs s =
    map.same_map nat_list_cmp_total text_cmp-IsAntisymmetric _ _ (λ q.
    ap (λ (ds : Children). map.get (children_by_name ds) q) (sym (again cs))
    ∙ (get_named (child_entries cs) q
    ∙ sym (get_put_all nat_list_cmp_total text_cmp-IsAntisymmetric (child_entries cs) s map.empty q
    ∙ (ap (either (find text_cmp q (child_entries cs))) (map.get-empty text_cmp q) ∙ either_none _))))

-- Of the members `es`, those that are left and the numbers that are left for their groups, where these members were made.
pub record Filling (tree : Group) (path : GroupPath) (table : List GroupIn) (es left : Entries) (numbers : List ℕ) (made : Named) : Type 0 where
  pub known : HaveExpansions tree table (paths_below path (children_of left)) numbers
  pub whole : (rest : Children) → AreExpanded tree path (children_of left) rest
      → (ms : Children) × AreExpanded tree path (children_of es) ms × (children_by_name ms ≡ put_all (child_entries rest) made)

module _ (tree : Group) (path : GroupPath) (table : List GroupIn) (es : Entries) where
  -- at first all members are left
  pub nothing_filled : (numbers : List ℕ) (made : Named) → T (is_sorted text_cmp es) → made ≡ map.empty
      → HaveExpansions tree table (paths_below path (children_of es)) numbers → Filling tree path table es es numbers made
  nothing_filled numbers made s e known = record {
    known = known;
    whole = λ rest a. (
      rest,
      a,
      named_put rest (subst T (sym (sorted_same tree path (children_of es) a ∙ ap (is_sorted text_cmp) (entries_again es))) s)
          ∙ ap (put_all (child_entries rest)) (sym e),
    );
  }

  -- a token stays
  pub token_filled : (name : List ℕ) (c : Child) (d : Definition) (left : Entries) (numbers : List ℕ) (made new : Named) → c ≡ a_token d
      → new ≡ map.insert made name c → Filling tree path table es ((name, c) ∷ left) numbers made → Filling tree path table es left numbers new
  token_filled name c d left numbers made new is put f =
      let g : Filling tree path table es ((name, a_token d) ∷ left) numbers made =
      subst (λ (x : Child). Filling tree path table es ((name, x) ∷ left) numbers made) is f in
      record {
        known = g.known;
        whole = λ rest a. (
            let w = g.whole (child name (a_token d) rest) (own_token a) in
            (w.0, w.1, w.2 ∙ ap (put_all (child_entries rest)) (sym (put ∙ ap (map.insert made name) is))));
      }

  -- a group's expansion stands in its place
  pub group_filled : (name : List ℕ) (c : Child) (g : Group) (left : Entries) (w : ℕ) (numbers : List ℕ) (made new : Named) → c ≡ a_group g
      → new ≡ map.insert made name (a_group (tabled_group table w)) → Filling tree path table es ((name, c) ∷ left) (w ∷ numbers) made → Filling tree path table es left numbers new
  group_filled name c g left w numbers made new is put f =
      let h : Filling tree path table es ((name, a_group g) ∷ left) (w ∷ numbers) made =
      subst (λ (x : Child). Filling tree path table es ((name, x) ∷ left) (w ∷ numbers) made) is f in
      record {
        known = h.known.1;
        whole = λ rest a. (
            let v = h.whole (child name (a_group (tabled_group table w)) rest) (child_group h.known.0 a) in
            (v.0, v.1, v.2 ∙ ap (put_all (child_entries rest)) (sym put)));
      }

  -- at the end no member is left
  pub all_filled : (left : Entries) (numbers : List ℕ) (made : Named) → left ≡ [] → Filling tree path table es left numbers made
      → HasMembers tree path (children_of es) made
  all_filled left numbers made gone f =
      let g : Filling tree path table es [] numbers made = subst (λ (l : Entries). Filling tree path table es l numbers made) gone f in
      let w = g.whole no_children no_member in
      record { members = w.0; are = w.1; same = sym w.2 }

-- Where there are no child groups all members stay.

alone : (tree : Group) (path : GroupPath) (cs : Children) → length (names_of_groups cs) ≡ 0 → AreExpanded tree path cs cs
alone tree path no_children e = no_member
alone tree path (child name (a_token d) cs) e = own_token (alone tree path cs e)
alone tree path (child name (a_group g) cs) e = absurd (omega (arith, e))

pub members_stay : (tree : Group) (path : GroupPath) (m : Named) → length (names_of_groups (children_of (map.entries m))) ≡ 0 → HasMembers tree path (children_of (map.entries m)) m
members_stay tree path m e =
    let cs = children_of (map.entries m) in
    record { members = cs; are = alone tree path cs e; same = sym (named_entries m) }

-- how many numbers are left for the groups of the members that are left
pub groups_left_token : (name : List ℕ) (c : Child) (d : Definition) (left : Entries) (n many : ℕ) → c ≡ a_token d
    → n + length (names_of_groups (children_of ((name, c) ∷ left))) ≡ many → n + length (names_of_groups (children_of left)) ≡ many
groups_left_token name c d left n many is e = subst (λ (x : Child). n + length (names_of_groups (children_of ((name, x) ∷ left))) ≡ many) is e

pub groups_left_group : (name : List ℕ) (c : Child) (g : Group) (left : Entries) (n many : ℕ) → c ≡ a_group g
    → n + length (names_of_groups (children_of ((name, c) ∷ left))) ≡ many → (n < many) × ((n + 1) + length (names_of_groups (children_of left)) ≡ many)
groups_left_group name c g left n many is e =
    let f : n + suc (length (names_of_groups (children_of left))) ≡ many = subst (λ (x : Child). n + length (names_of_groups (children_of ((name, x) ∷ left))) ≡ many) is e in
    (omega (arith, f), omega (arith, f))

zero_of : (n : ℕ) → (n == 0) ≡ true → n ≡ 0
zero_of n h = grind (arith, nat_tests)

-- no numbers are given where there are no child groups
pub no_names : (cs : Children) (numbers : List ℕ) → length numbers ≡ length (names_of_groups cs) → (length numbers == 0) ≡ true → length (names_of_groups cs) ≡ 0
no_names cs numbers many e = sym many ∙ zero_of (length numbers) e

-- The expansion of a group, from its members and its target.

module _ (tree : Group) (table : List GroupIn) where
  pub none_inherited : (o : Option GroupPath) → HasTarget tree table o None → IsInherited tree o None
  none_inherited None h = no_target
  none_inherited (Some path) h = absurd h

  pub some_inherited : (o : Option GroupPath) (w : ℕ) → HasTarget tree table o (Some w) → IsInherited tree o (Some (tabled_group table w))
  some_inherited None w h = absurd h
  some_inherited (Some path) w h = its_target h

pub expands_with : (tree : Group) (path : GroupPath) (g : Group) (m : Named) (inherited : Option Group) {made : Group} → at_path tree path ≡ g → HasMembers tree path (children_in g) m
    → IsInherited tree (target_path g) inherited → made ≡ over_inherited (group_with (without_extension (properties_in g)) m) inherited → Expands tree path made
expands_with tree path g m inherited {made} at has target is =
    let members : AreExpanded tree path (children_in (at_path tree path)) has.members =
    subst (λ (h : Group). AreExpanded tree path (children_in h) has.members) (sym at) has.are in
    let over : IsInherited tree (target_path (at_path tree path)) inherited =
    subst (λ (h : Group). IsInherited tree (target_path h) inherited) (sym at) target in
    let own = without_extension (properties_in g) in
    subst (Expands tree path)
    (ap (λ (h : Group). expanded h has.members inherited) at
    ∙ (ap (λ (n : Named). over_inherited (group_with own n) inherited) (sym has.same) ∙ sym is))
    (expands members over)

-- what follows from what holds of an answer
pub ok_then : {X E : Type 0} (r : Result X E) (P Q : X → Type 0) → ((x : X) → P x → Q x) → IfOk r P → IfOk r Q
ok_then (Ok x) P Q f h = f x h
ok_then (Err e) P Q f h = tt
