-- Lists by paths: what stands below a group is listed in the order of paths.
use Rattle.std.proofs.Common.{◌≡◌, ℕ, Bool, true, false, ◌&&◌, T, List, [], ◌∷◌, ◌++◌, map, Option, Some, None, is_some, refl, sym, ap, ap₂, subst, ◌∙◌, append-nil, Ordering, Less}
use Rattle.std.specs.Cmp.{tied_itself}
use Rattle.std.specs.Cmp.Lexicographic.{nat_list_cmp_total}
use Rattle.std.specs.FinMap.Entries.{is_sorted, below_all}
use Rattle.std.specs.Ordering.{is_lt, ordering_then}
use Rattle.tk_io.specs.Order.{text_cmp, names_cmp}
use Rattle.token_tree.specs.Tree.{Extension, Child, a_token, a_group, Group, group, Children, no_children, child}
use Rattle.group_inherit.specs.Extension.{GroupPath, group_at, groups_from, groups_among, groups_in, extension_of, Lost, lost_unless, lost_at, lost_among, has_group, lost_targets}
use Rattle.group_inherit.specs.Flattening.{Nearest, nearest, tokens_in, tokens_among, tokens_at}
use Rattle.group_inherit.specs.Ordered.{child_entries, IsOrdered, AreOrdered, IsOrderedChild}
use Rattle.group_inherit.specs.inner.Numbering.{GroupAt}
use Rattle.group_inherit.proofs.Finding.{one_name}
use Rattle.group_inherit.proofs.Puts.{first, second, less}

both : (a b : Bool) → T a → T b → T (a && b)
both true b p q = q
both false b p q = p

front_same : (at xs ys : GroupPath) → names_cmp (at ++ xs) (at ++ ys) ≡ names_cmp xs ys
front_same [] xs ys = refl
front_same (name ∷ at) xs ys = ap (λ r. ordering_then r (names_cmp (at ++ xs) (at ++ ys))) (tied_itself nat_list_cmp_total name) ∙ front_same at xs ys

names_less : (at : GroupPath) (name next : List ℕ) (xs ys : GroupPath) → text_cmp name next ≡ Less → names_cmp (at ++ name ∷ xs) (at ++ next ∷ ys) ≡ Less
names_less at name next xs ys e = front_same at (name ∷ xs) (next ∷ ys) ∙ ap (λ r. ordering_then r (names_cmp xs ys)) e

goes_less : (at : GroupPath) (next : List ℕ) (ys : GroupPath) → names_cmp at (at ++ next ∷ ys) ≡ Less
goes_less at next ys = ap (λ p. names_cmp p (at ++ next ∷ ys)) (sym (append-nil at)) ∙ front_same at [] (next ∷ ys)

is_less : (r : Ordering) → r ≡ Less → T (is_lt r)
is_less r e = subst (λ o. T (is_lt o)) (sym e) tt

module _ {X : Type 0} where
  -- each path goes on from this one
  abbrev AreUnder : GroupPath → List (GroupPath × X) → Type 0
  AreUnder at [] = Unit {0}
  AreUnder at (r ∷ rs) = ((rest : GroupPath) × (r.0 ≡ at ++ rest)) × AreUnder at rs

  -- .. by a name
  abbrev AreBelow : GroupPath → List (GroupPath × X) → Type 0
  AreBelow at [] = Unit {0}
  AreBelow at (r ∷ rs) = ((next : List ℕ) × (rest : GroupPath) × (r.0 ≡ at ++ next ∷ rest)) × AreBelow at rs

  -- .. by a name after this one
  abbrev AreBehind : GroupPath → List ℕ → List (GroupPath × X) → Type 0
  AreBehind at name [] = Unit {0}
  AreBehind at name (r ∷ rs) = ((next : List ℕ) × (rest : GroupPath) × (text_cmp name next ≡ Less) × (r.0 ≡ at ++ next ∷ rest)) × AreBehind at name rs

  under_join : (at : GroupPath) (xs ys : List (GroupPath × X)) → AreUnder at xs → AreUnder at ys → AreUnder at (xs ++ ys)
  under_join at [] ys u v = v
  under_join at (x ∷ xs) ys u v = (u.0, under_join at xs ys u.1 v)

  below_join : (at : GroupPath) (xs ys : List (GroupPath × X)) → AreBelow at xs → AreBelow at ys → AreBelow at (xs ++ ys)
  below_join at [] ys u v = v
  below_join at (x ∷ xs) ys u v = (u.0, below_join at xs ys u.1 v)

  behind_join : (at : GroupPath) (name : List ℕ) (xs ys : List (GroupPath × X)) → AreBehind at name xs → AreBehind at name ys → AreBehind at name (xs ++ ys)
  behind_join at name [] ys u v = v
  behind_join at name (x ∷ xs) ys u v = (u.0, behind_join at name xs ys u.1 v)

  -- what goes on from a name goes on from the path before it
  under_less : (at : GroupPath) (name : List ℕ) (xs : List (GroupPath × X)) → AreUnder (at ++ name ∷ []) xs → AreUnder at xs
  under_less at name [] u = tt
  under_less at name (x ∷ xs) u = ((name ∷ u.0.0, u.0.1 ∙ one_name at name u.0.0), under_less at name xs u.1)

  below_from : (at : GroupPath) (name : List ℕ) (xs : List (GroupPath × X)) → AreUnder (at ++ name ∷ []) xs → AreBelow at xs
  below_from at name [] u = tt
  below_from at name (x ∷ xs) u = ((name, u.0.0, u.0.1 ∙ one_name at name u.0.0), below_from at name xs u.1)

  behind_from : (at : GroupPath) (name next : List ℕ) (xs : List (GroupPath × X)) → text_cmp name next ≡ Less → AreUnder (at ++ next ∷ []) xs → AreBehind at name xs
  behind_from at name next [] h u = tt
  behind_from at name next (x ∷ xs) h u = ((next, u.0.0, h, u.0.1 ∙ one_name at next u.0.0), behind_from at name next xs h u.1)

  -- Paths before those of a list.

  before_join : (p : GroupPath) (xs ys : List (GroupPath × X)) → T (below_all names_cmp p xs) → T (below_all names_cmp p ys) → T (below_all names_cmp p (xs ++ ys))
  before_join p [] ys h k = k
  before_join p (x ∷ xs) ys h k =
      both (is_lt (names_cmp p x.0)) (below_all names_cmp p (xs ++ ys)) (first (is_lt (names_cmp p x.0)) (below_all names_cmp p xs) h)
      (before_join p xs ys (second (is_lt (names_cmp p x.0)) (below_all names_cmp p xs) h) k)

  before_below : (at : GroupPath) (xs : List (GroupPath × X)) → AreBelow at xs → T (below_all names_cmp at xs)
  before_below at [] u = tt
  before_below at (x ∷ xs) u =
      both (is_lt (names_cmp at x.0)) (below_all names_cmp at xs) (is_less (names_cmp at x.0) (ap (names_cmp at) u.0.2 ∙ goes_less at u.0.0 u.0.1)) (before_below at xs u.1)

  before_behind : (p at : GroupPath) (name : List ℕ) (rest : GroupPath) (xs : List (GroupPath × X)) → p ≡ at ++ name ∷ rest → AreBehind at name xs → T (below_all names_cmp p xs)
  before_behind p at name rest [] e u = tt
  before_behind p at name rest (x ∷ xs) e u =
      both (is_lt (names_cmp p x.0)) (below_all names_cmp p xs) (is_less (names_cmp p x.0) (ap₂ names_cmp e u.0.3 ∙ names_less at name u.0.0 rest u.0.1 u.0.2))
      (before_behind p at name rest xs e u.1)

  sorted_join : (at : GroupPath) (name : List ℕ) (xs ys : List (GroupPath × X)) → AreUnder (at ++ name ∷ []) xs → AreBehind at name ys → T (is_sorted names_cmp xs) → T (is_sorted names_cmp ys) → T (is_sorted names_cmp (xs ++ ys))
  sorted_join at name [] ys u b s t = t
  sorted_join at name (x ∷ xs) ys u b s t =
      both (below_all names_cmp x.0 (xs ++ ys)) (is_sorted names_cmp (xs ++ ys))
      (before_join x.0 xs ys (first (below_all names_cmp x.0 xs) (is_sorted names_cmp xs) s) (before_behind x.0 at name u.0.0 ys (u.0.1 ∙ one_name at name u.0.0) b))
      (sorted_join at name xs ys u.1 b (second (below_all names_cmp x.0 xs) (is_sorted names_cmp xs) s) t)

-- The tokens of an ordered group.

mutual
  tokens_under : (at : GroupPath) (above : Nearest) (g : Group) → AreUnder at (tokens_in at above g)
  tokens_under at above (group ps cs) = tokens_under_among at (nearest ps above) cs

  tokens_under_among : (at : GroupPath) (near : Nearest) (cs : Children) → AreUnder at (tokens_among at near cs)
  tokens_under_among at near no_children = tt
  tokens_under_among at near (child name c cs) =
      under_join at (tokens_at (at ++ name ∷ []) near c) (tokens_among at near cs) (under_less at name (tokens_at (at ++ name ∷ []) near c) (tokens_under_at (at ++ name ∷ []) near c))
      (tokens_under_among at near cs)

  tokens_under_at : (at : GroupPath) (near : Nearest) (c : Child) → AreUnder at (tokens_at at near c)
  tokens_under_at at near (a_token d) = (([], sym (append-nil at)), tt)
  tokens_under_at at near (a_group g) = tokens_under at near g

tokens_behind : (at : GroupPath) (near : Nearest) (name : List ℕ) (cs : Children) → T (below_all text_cmp name (child_entries cs)) → AreBehind at name (tokens_among at near cs)
tokens_behind at near name no_children h = tt
tokens_behind at near name (child next c cs) h =
    behind_join at name (tokens_at (at ++ next ∷ []) near c) (tokens_among at near cs)
    (behind_from at name next (tokens_at (at ++ next ∷ []) near c) (less (text_cmp name next) (first (is_lt (text_cmp name next)) (below_all text_cmp name (child_entries cs)) h)) (tokens_under_at (at ++ next ∷ []) near c))
    (tokens_behind at near name cs (second (is_lt (text_cmp name next)) (below_all text_cmp name (child_entries cs)) h))

mutual
  pub tokens_sorted : (at : GroupPath) (above : Nearest) (g : Group) → IsOrdered g → T (is_sorted names_cmp (tokens_in at above g))
  tokens_sorted at above (group ps cs) o = tokens_sorted_among at (nearest ps above) cs o.0 o.1

  tokens_sorted_among : (at : GroupPath) (near : Nearest) (cs : Children) → T (is_sorted text_cmp (child_entries cs)) → AreOrdered cs → T (is_sorted names_cmp (tokens_among at near cs))
  tokens_sorted_among at near no_children s o = tt
  tokens_sorted_among at near (child name c cs) s o =
      sorted_join at name (tokens_at (at ++ name ∷ []) near c) (tokens_among at near cs) (tokens_under_at (at ++ name ∷ []) near c)
      (tokens_behind at near name cs (first (below_all text_cmp name (child_entries cs)) (is_sorted text_cmp (child_entries cs)) s))
      (tokens_sorted_at (at ++ name ∷ []) near c o.0)
      (tokens_sorted_among at near cs (second (below_all text_cmp name (child_entries cs)) (is_sorted text_cmp (child_entries cs)) s) o.1)

  tokens_sorted_at : (at : GroupPath) (near : Nearest) (c : Child) → IsOrderedChild c → T (is_sorted names_cmp (tokens_at at near c))
  tokens_sorted_at at near (a_token d) o = tt
  tokens_sorted_at at near (a_group g) o = tokens_sorted at near g o

-- Its groups.

mutual
  groups_under : (at : GroupPath) (g : Group) → AreUnder at (groups_from at g)
  groups_under at (group ps cs) = (([], sym (append-nil at)), groups_under_among at cs)

  groups_under_among : (at : GroupPath) (cs : Children) → AreUnder at (groups_among at cs)
  groups_under_among at no_children = tt
  groups_under_among at (child name c cs) =
      under_join at (groups_in (at ++ name ∷ []) c) (groups_among at cs) (under_less at name (groups_in (at ++ name ∷ []) c) (groups_under_in (at ++ name ∷ []) c)) (groups_under_among at cs)

  groups_under_in : (at : GroupPath) (c : Child) → AreUnder at (groups_in at c)
  groups_under_in at (a_token d) = tt
  groups_under_in at (a_group g) = groups_under at g

groups_below : (at : GroupPath) (cs : Children) → AreBelow at (groups_among at cs)
groups_below at no_children = tt
groups_below at (child name c cs) =
    below_join at (groups_in (at ++ name ∷ []) c) (groups_among at cs) (below_from at name (groups_in (at ++ name ∷ []) c) (groups_under_in (at ++ name ∷ []) c)) (groups_below at cs)

groups_behind : (at : GroupPath) (name : List ℕ) (cs : Children) → T (below_all text_cmp name (child_entries cs)) → AreBehind at name (groups_among at cs)
groups_behind at name no_children h = tt
groups_behind at name (child next c cs) h =
    behind_join at name (groups_in (at ++ next ∷ []) c) (groups_among at cs)
    (behind_from at name next (groups_in (at ++ next ∷ []) c) (less (text_cmp name next) (first (is_lt (text_cmp name next)) (below_all text_cmp name (child_entries cs)) h)) (groups_under_in (at ++ next ∷ []) c))
    (groups_behind at name cs (second (is_lt (text_cmp name next)) (below_all text_cmp name (child_entries cs)) h))

mutual
  pub groups_sorted : (at : GroupPath) (g : Group) → IsOrdered g → T (is_sorted names_cmp (groups_from at g))
  groups_sorted at (group ps cs) o =
      both (below_all names_cmp at (groups_among at cs)) (is_sorted names_cmp (groups_among at cs)) (before_below at (groups_among at cs) (groups_below at cs)) (groups_sorted_among at cs o.0 o.1)

  groups_sorted_among : (at : GroupPath) (cs : Children) → T (is_sorted text_cmp (child_entries cs)) → AreOrdered cs → T (is_sorted names_cmp (groups_among at cs))
  groups_sorted_among at no_children s o = tt
  groups_sorted_among at (child name c cs) s o =
      sorted_join at name (groups_in (at ++ name ∷ []) c) (groups_among at cs) (groups_under_in (at ++ name ∷ []) c)
      (groups_behind at name cs (first (below_all text_cmp name (child_entries cs)) (is_sorted text_cmp (child_entries cs)) s))
      (groups_sorted_in (at ++ name ∷ []) c o.0)
      (groups_sorted_among at cs (second (below_all text_cmp name (child_entries cs)) (is_sorted text_cmp (child_entries cs)) s) o.1)

  groups_sorted_in : (at : GroupPath) (c : Child) → IsOrderedChild c → T (is_sorted names_cmp (groups_in at c))
  groups_sorted_in at (a_token d) o = tt
  groups_sorted_in at (a_group g) o = groups_sorted at g o

-- Its lost targets.

abbrev lost_entry : Lost → GroupPath × Extension
lost_entry l = (l.path, l.extension)

-- a group's target is lost, or it is not
lost_or : (tree : Group) (path : GroupPath) (o : Option Extension) (rest : List Lost) (P : List Lost → Type 0) → P rest → ((e : Extension) → P (record { path = path; extension = e } ∷ rest)) → P (lost_at (has_group tree) path o ++ rest)
lost_or tree path None rest P h k = h
lost_or tree path (Some e) rest P h k = elim (is_some (group_at tree e.target)) as (λ b. P (lost_unless b path e ++ rest)) [ true ↦ h | false ↦ k e ]

before_lost : (tree : Group) (p : GroupPath) (gs : List GroupAt) → T (below_all names_cmp p gs) → T (below_all names_cmp p (map lost_entry (lost_among (has_group tree) gs)))
before_lost tree p [] h = tt
before_lost tree p (g ∷ gs) h =
    let less_here = first (is_lt (names_cmp p g.0)) (below_all names_cmp p gs) h in
    let rest = before_lost tree p gs (second (is_lt (names_cmp p g.0)) (below_all names_cmp p gs) h) in
    lost_or tree g.0 (extension_of g.1) (lost_among (has_group tree) gs) (λ ls. T (below_all names_cmp p (map lost_entry ls))) rest
    (λ e. both (is_lt (names_cmp p g.0)) (below_all names_cmp p (map lost_entry (lost_among (has_group tree) gs))) less_here rest)

lost_sorted_among : (tree : Group) (gs : List GroupAt) → T (is_sorted names_cmp gs) → T (is_sorted names_cmp (map lost_entry (lost_among (has_group tree) gs)))
lost_sorted_among tree [] s = tt
lost_sorted_among tree (g ∷ gs) s =
    let rest = lost_sorted_among tree gs (second (below_all names_cmp g.0 gs) (is_sorted names_cmp gs) s) in
    lost_or tree g.0 (extension_of g.1) (lost_among (has_group tree) gs) (λ ls. T (is_sorted names_cmp (map lost_entry ls))) rest
    (λ e. both (below_all names_cmp g.0 (map lost_entry (lost_among (has_group tree) gs))) (is_sorted names_cmp (map lost_entry (lost_among (has_group tree) gs)))
    (before_lost tree g.0 gs (first (below_all names_cmp g.0 gs) (is_sorted names_cmp gs) s)) rest)

pub lost_sorted : (tree : Group) → IsOrdered tree → T (is_sorted names_cmp (map lost_entry (lost_targets tree)))
unfolding lost_targets
lost_sorted tree o = lost_sorted_among tree (groups_from [] tree) (groups_sorted [] tree o)
