-- What a group needs stands in order, its count is a sum, and of a ring the first group that extends the next one is told.
use Rattle.std.proofs.Common.{◌≡◌, ◌⊎◌, inl, inr, ℕ, suc, ◌+◌, Bool, true, false, ◌&&◌, T, List, [], ◌∷◌, ◌++◌, sum, length, Option, Some, None, if◌then◌else◌, option_and_then, unwrap_or, refl, sym, ap, ◌∙◌, subst}
use Rattle.std.proofs.lemmas.Cmp.{tied_itself}
use Rattle.std.proofs.lemmas.Slice.Eq.{bytes_eq-Decides, slice_eq-Decides}
use Rattle.std.specs.Cmp.Lexicographic.{nat_list_cmp_total}
use Rattle.std.specs.FinMap.Entries.{is_sorted, below_all}
use Rattle.std.specs.List.{AllZip}
use Rattle.std.specs.Ordering.{is_lt}
use Rattle.std.specs.Str.{bytes_eq}
use Rattle.std.specs.declared.cmp.Ordering.{Ordering}
use Rattle.std.specs.declared.cmp.Ordering.TheVariants.{Less, Equal, Greater}
use Rattle.ring.specs.Lists.{In}
use Rattle.ring.specs.Values.{Comes, comes, AllCome, none, more}
use Rattle.tk_io.specs.Order.{text_cmp}
use Rattle.token_tree.specs.Tree.{Extension, Child, a_token, a_group, Group, group, Children, no_children, child, child_among, child_at}
use Rattle.group_inherit.specs.Extension.{GroupPath, as_group, group_at, at_path, children_in, extension_of, name_of_group, names_of_groups, group_names, how_many, same_path, where_target, extension_to, head_or, extension_along}
use Rattle.group_inherit.specs.Laws.{IsFirstOfName}
use Rattle.group_inherit.specs.Merging.{either, member_at, empty_group}
use Rattle.group_inherit.specs.Ordered.{child_entries, IsOrdered, AreOrdered, IsOrderedChild}
use Rattle.source_trees.specs.ExtensionRules.{Ascend, NeedsAreInOrder, CountsAreSums, next_of, ExtendsNext, IsFirstThatExtends, RingsTellFirst}

-- Names that ascend.

is_less : (o : Ordering) → T (is_lt o) → o ≡ Less
is_less Less t = refl
is_less Equal t = absurd t
is_less Greater t = absurd t

both_first : (a b : Bool) → T (a && b) → T a
both_first true b p = tt
both_first false b p = p

both_second : (a b : Bool) → T (a && b) → T b
both_second true b p = p
both_second false b p = absurd p

abbrev entries : Children → List (List ℕ × Child)
entries cs = child_entries cs

abbrev Sorted : Children → Type 0
Sorted cs = T (is_sorted text_cmp (child_entries cs))

-- the name is below those of all children
abbrev Below : List ℕ → Children → Type 0
Below name cs = T (below_all text_cmp name (child_entries cs))

in_name : (name k : List ℕ) (c : Child) → In name (name_of_group k c) → (g : Group) × (name ≡ k) × (c ≡ a_group g)
in_name name k (a_token d) i = absurd i
in_name name k (a_group g) (inl e) = (g, e, refl)
in_name name k (a_group g) (inr i) = absurd i

either_name : (name k : List ℕ) (c : Child) (cs : Children) → In name (names_of_groups (child k c cs)) → In name (name_of_group k c) ⊎ In name (names_of_groups cs)
either_name name k (a_token d) cs i = inr i
either_name name k (a_group g) cs (inl e) = inl (inl e)
either_name name k (a_group g) cs (inr i) = inr i

less_than : (k : List ℕ) (cs : Children) → Below k cs → (name : List ℕ) → In name (names_of_groups cs) → text_cmp k name ≡ Less
less_than k no_children b name i = absurd i
less_than k (child n c cs) b name i =
    go (λ j. less_than k cs (both_second (is_lt (text_cmp k n)) (below_all text_cmp k (child_entries cs)) b) name j) (either_name name n c cs i)
  where
    here : text_cmp k n ≡ Less
    here = is_less (text_cmp k n) (both_first (is_lt (text_cmp k n)) (below_all text_cmp k (child_entries cs)) b)

    go : (In name (names_of_groups cs) → text_cmp k name ≡ Less) → In name (name_of_group n c) ⊎ In name (names_of_groups cs) → text_cmp k name ≡ Less
    go later (inl j) = (let r = in_name name n c j in subst (λ (x : List ℕ). text_cmp k x ≡ Less) (sym r.1) here)
    go later (inr j) = later j

ascend_names : (cs : Children) → Sorted cs → Ascend (names_of_groups cs)
ascend_names no_children s = tt
ascend_names (child n (a_token d) cs) s = ascend_names cs (both_second (below_all text_cmp n (child_entries cs)) (is_sorted text_cmp (child_entries cs)) s)
ascend_names (child n (a_group g) cs) s = (
  less_than n cs (both_first (below_all text_cmp n (child_entries cs)) (is_sorted text_cmp (child_entries cs)) s),
  ascend_names cs (both_second (below_all text_cmp n (child_entries cs)) (is_sorted text_cmp (child_entries cs)) s),
)

less_not_equal : Less ≡ Equal → ⊥
less_not_equal e = cc

apart : (k name : List ℕ) → text_cmp k name ≡ Less → bytes_eq k name ≡ false
apart k name less = go (bytes_eq k name) refl
  where
    go : (t : Bool) → bytes_eq k name ≡ t → t ≡ false
    go true e =
        let same : k ≡ name = (bytes_eq-Decides k name).0 e in
        let itself : text_cmp k k ≡ Less = subst (λ (x : List ℕ). text_cmp k x ≡ Less) (sym same) less in
        absurd (less_not_equal (sym itself ∙ tied_itself nat_list_cmp_total k))
    go false e = refl

groups_there : (cs : Children) → Sorted cs → (name : List ℕ) → In name (names_of_groups cs) → (g : Group) × (child_among name cs ≡ Some (a_group g))
groups_there no_children s name i = absurd i
groups_there (child n c cs) s name i = go (λ j. groups_there cs (both_second (below_all text_cmp n (child_entries cs)) (is_sorted text_cmp (child_entries cs)) s) name j) (either_name name n c cs i)
  where
    below : Below n cs
    below = both_first (below_all text_cmp n (child_entries cs)) (is_sorted text_cmp (child_entries cs)) s

    go : (In name (names_of_groups cs) → (g : Group) × (child_among name cs ≡ Some (a_group g))) → In name (name_of_group n c) ⊎ In name (names_of_groups cs)
        → (g : Group) × (child_among name (child n c cs) ≡ Some (a_group g))
    go later (inl j) =
        let r = in_name name n c j in
        (r.0, subst (λ t. (if t then Some c else child_among name cs) ≡ Some (a_group r.0)) (sym ((bytes_eq-Decides n name).1 (sym r.1))) (ap Some r.2))
    go later (inr j) =
        let r = later j in
        (r.0, subst (λ t. (if t then Some c else child_among name cs) ≡ Some (a_group r.0)) (sym (apart n name (less_than n cs below name j))) r.1)

in_later : (name k : List ℕ) (c : Child) (cs : Children) → In name (names_of_groups cs) → In name (names_of_groups (child k c cs))
in_later name k (a_token d) cs i = i
in_later name k (a_group g) cs i = inr i

some_child : {c d : Child} → Some c ≡ Some d → c ≡ d
some_child e = cc

all_there : (cs : Children) (name : List ℕ) (g : Group) → child_among name cs ≡ Some (a_group g) → In name (names_of_groups cs)
all_there no_children name g e = cc
all_there (child n c cs) name g e = go (bytes_eq n name) refl e (all_there cs name g)
  where
    here : (d : Child) → d ≡ a_group g → name ≡ n → In name (names_of_groups (child n d cs))
    here (a_token x) is same = cc
    here (a_group x) is same = inl same

    go : (t : Bool) → bytes_eq n name ≡ t → (if t then Some c else child_among name cs) ≡ Some (a_group g) → (child_among name cs ≡ Some (a_group g) → In name (names_of_groups cs)) → In name (names_of_groups (child n c cs))
    go true same is later = here c (some_child is) (sym ((bytes_eq-Decides n name).0 same))
    go false same is later = in_later name n c cs (later is)

-- The group at a path of a tree in order.

child_ordered : (cs : Children) (name : List ℕ) (c : Child) → AreOrdered cs → child_among name cs ≡ Some c → IsOrderedChild c
child_ordered no_children name c o e = cc
child_ordered (child n d cs) name c o e = go (bytes_eq n name) e (child_ordered cs name c o.1)
  where
    go : (t : Bool) → (if t then Some d else child_among name cs) ≡ Some c → (child_among name cs ≡ Some c → IsOrderedChild c) → IsOrderedChild c
    go true is later = subst IsOrderedChild (some_child is) o.0
    go false is later = later is

module _ (first : IsFirstOfName) where
  below_ordered : (o : Option Child) (path : GroupPath) (g : Group) → ((c : Child) → o ≡ Some c → IsOrderedChild c) → ((h : Group) → IsOrdered h → group_at h path ≡ Some g → IsOrdered g)
      → option_and_then (λ h. group_at h path) (option_and_then as_group o) ≡ Some g → IsOrdered g
  below_ordered None path g all later e = cc
  below_ordered (Some (a_token d)) path g all later e = cc
  below_ordered (Some (a_group h)) path g all later e = later h (all (a_group h) refl) e

  found_ordered : (path : GroupPath) (tree g : Group) → IsOrdered tree → group_at tree path ≡ Some g → IsOrdered g
  found_ordered [] tree g o e = (let same : tree ≡ g = cc in subst IsOrdered same o)
  found_ordered (name ∷ path) (group ps cs) g o e =
      below_ordered (member_at name (group ps cs)) path g (λ c is. child_ordered cs name c o.1 (sym (first name (group ps cs)) ∙ is)) (λ h k f. found_ordered path h g k f) e

  path_ordered : (tree : Group) (path : GroupPath) → IsOrdered tree → IsOrdered (at_path tree path)
  path_ordered tree path o = go (group_at tree path) (λ g e. found_ordered path tree g o e)
    where
      go : (r : Option Group) → ((g : Group) → r ≡ Some g → IsOrdered g) → IsOrdered (unwrap_or r empty_group)
      go None h = (tt, tt)
      go (Some g) h = h g refl

  sorted_of : (g : Group) → IsOrdered g → Sorted (children_in g)
  sorted_of (group ps cs) o = o.0

  child_of_group : (name : List ℕ) (g : Group) → child_at name g ≡ child_among name (children_in g)
  child_of_group name (group ps cs) = refl

  pub needs_are_in_order : NeedsAreInOrder
  needs_are_in_order tree path o =
      let g = at_path tree path in
      let sorted : Sorted (children_in g) = sorted_of g (path_ordered tree path o) in
      record {
        names = group_names g;
        are = refl;
        ascend = ascend_names (children_in g) sorted;
        groups = λ name i. (let r = groups_there (children_in g) sorted name i in (r.0, child_of_group name g ∙ r.1));
        all = λ name h e. all_there (children_in g) name h (sym (child_of_group name g) ∙ e);
      }

-- Counts.

how_many_is : (cs : Children) → how_many cs ≡ length (child_entries cs)
how_many_is no_children = refl
how_many_is (child n c cs) = ap suc (how_many_is cs)

all_zip : {N V : Type 0} {need : N → List N} {step : N → List V → V} {ws : List N} {xs : List V} → AllCome need step ws xs → AllZip (Comes need step) ws xs
all_zip none = tt
all_zip (more x all) = (x, all_zip all)

pub counts_are_sums : CountsAreSums
counts_are_sums tree path n (comes {xs = xs} all) =
    record { counts = xs; each = all_zip all; total = ap (λ k. k + sum xs) (how_many_is (children_in (at_path tree path))) }

-- Rings.

head_is : (first : GroupPath) (vs : List GroupPath) → head_or first vs ≡ next_of first vs
head_is first [] = refl
head_is first (v ∷ vs) = refl

same_decides : (p q : GroupPath) → (same_path p q ≡ true → p ≡ q) × (p ≡ q → same_path p q ≡ true)
same_decides p q = slice_eq-Decides bytes_eq-Decides p q (same_path p q) refl

some_extension : {x y : Extension} → Some x ≡ Some y → x ≡ y
some_extension e = cc

-- a group whose target is the next path, and one whose target is not
told_next : (next : GroupPath) (g : Group) (e : Extension) → extension_to next g ≡ Some e → (extension_of g ≡ Some e) × (e.target ≡ next)
told_next next g e is = go (extension_of g) refl is
  where
    by : (x : Extension) → extension_of g ≡ Some x → (t : Bool) → same_path x.target next ≡ t → (if t then Some x else None) ≡ Some e → (extension_of g ≡ Some e) × (e.target ≡ next)
    by x own true same k =
        let is_e = some_extension k in
        (own ∙ ap Some is_e, subst (λ (y : Extension). y.target ≡ next) is_e ((same_decides x.target next).0 same))
    by x own false same k = cc

    go : (o : Option Extension) → extension_of g ≡ o → option_and_then (where_target next) o ≡ Some e → (extension_of g ≡ Some e) × (e.target ≡ next)
    go None own k = cc
    go (Some x) own k = by x own (same_path x.target next) refl k

not_next : (next : GroupPath) (g : Group) (x : Extension) → extension_of g ≡ Some x → x.target ≡ next → extension_to next g ≡ Some x
not_next next g x own target =
    ap (option_and_then (where_target next)) own ∙ subst (λ t. (if t then Some x else None) ≡ Some x) (sym ((same_decides x.target next).1 target)) refl

no_extension : {x : Extension} → None ≡ Some x → ⊥
no_extension e = cc

heads : {A : Type 0} {x y : A} {xs ys : List A} → x ∷ xs ≡ y ∷ ys → x ≡ y
heads e = cc

tails : {A : Type 0} {x y : A} {xs ys : List A} → x ∷ xs ≡ y ∷ ys → xs ≡ ys
tails e = cc

along_tells : (tree : Group) (first : GroupPath) (ring : List GroupPath) (e : Extension) → extension_along (λ path. path) (at_path tree) first ring ≡ Some e → IsFirstThatExtends tree first ring e
along_tells tree first [] e is = cc
along_tells tree first (v ∷ vs) e is = go (extension_to (head_or first vs) (at_path tree v)) refl (along_tells tree first vs e) is
  where
    none_here : extension_to (head_or first vs) (at_path tree v) ≡ None → (x : Extension) → ExtendsNext tree v (next_of first vs) x → ⊥
    none_here absent x h = no_extension (sym absent ∙ not_next (head_or first vs) (at_path tree v) x h.0 (h.1 ∙ sym (head_is first vs)))

    go : (o : Option Extension) → extension_to (head_or first vs) (at_path tree v) ≡ o → (extension_along (λ path. path) (at_path tree) first vs ≡ Some e → IsFirstThatExtends tree first vs e)
        → either o (extension_along (λ path. path) (at_path tree) first vs) ≡ Some e → IsFirstThatExtends tree first (v ∷ vs) e
    go (Some x) here later k =
        let t = told_next (head_or first vs) (at_path tree v) e (here ∙ k) in
        record {
          before = [];
          path = v;
          after = vs;
          is_ring = refl;
          extends = (t.0, t.1 ∙ head_is first vs);
          none_before = λ front other back y same h. nothing front other back same;
        }
      where
        nothing : (front : List GroupPath) (other : GroupPath) (back : List GroupPath) → [] ≡ front ++ other ∷ back → ⊥
        nothing [] other back same = cc
        nothing (f ∷ front) other back same = cc
    go None here later k =
        let r = later k in
        record {
          before = v ∷ r.before;
          path = r.path;
          after = r.after;
          is_ring = ap (λ (xs : List GroupPath). v ∷ xs) r.is_ring;
          extends = r.extends;
          none_before = λ front other back y same h. split r front other back y same h;
        }
      where
        split : (r : IsFirstThatExtends tree first vs e) (front : List GroupPath) (other : GroupPath) (back : List GroupPath) (y : Extension) → v ∷ r.before ≡ front ++ other ∷ back
            → ExtendsNext tree other (next_of first (back ++ r.path ∷ r.after)) y → ⊥
        split r [] other back y same h =
            let rest : back ++ r.path ∷ r.after ≡ vs = ap (λ (xs : List GroupPath). xs ++ r.path ∷ r.after) (sym (tails same)) ∙ sym r.is_ring in
            none_here here y
            (subst (λ (xs : List GroupPath). ExtendsNext tree v (next_of first xs) y) rest (subst (λ (p : GroupPath). ExtendsNext tree p (next_of first (back ++ r.path ∷ r.after)) y) (sym (heads same)) h))
        split r (f ∷ front) other back y same h = r.none_before front other back y (tails same) h

pub rings_tell_first : RingsTellFirst
rings_tell_first tree first others e is = along_tells tree first (first ∷ others) e is
