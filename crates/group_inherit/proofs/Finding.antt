-- The groups at paths are those of the list of all groups.
use Rattle.std.proofs.Common.{◌≡◌, ℕ, List, [], ◌∷◌, ◌++◌, Option, Some, None, option_and_then, inl, inr, refl, sym, ap, ◌∙◌, subst, map, length, arith, append_assoc, append-nil, length-append}
use Rattle.std.proofs.lemmas.Bool.{cases_Bool}
use Rattle.std.proofs.lemmas.List.{append_cancel_left}
use Rattle.std.proofs.lemmas.Option.{none-some, same_Some}
use Rattle.std.specs.FinMap as map_of
use Rattle.std.specs.Ordering.{eq_by_cmp}
use Rattle.ring.specs.Lists.{In, AreApart}
use Rattle.ring.proofs.Ends.{in_left, in_cases}
use Rattle.tk_io.specs.Order.{text_cmp}
use Rattle.token_tree.specs.Tree.{Properties, Child, a_token, a_group, Group, group, Children, no_children, child}
use Rattle.group_inherit.specs.Merging.{children_by_name, member_at}
use Rattle.group_inherit.specs.Extension.{GroupPath, as_group, group_at, groups_from, groups_among, groups_in}
use Rattle.group_inherit.specs.inner.Numbering.{GroupAt, LacksName, AreNamed, AreNamedAmong, AreNamedIn}
use Rattle.group_inherit.proofs.Naming.{same_name, get_here, get_there, get_later, get_none}

pub in_right : {N : Type 0} (xs ys : List N) (x : N) → In x ys → In x (xs ++ ys)
in_right [] ys x i = i
in_right (y ∷ xs) ys x i = inr (in_right xs ys x i)

pub one_name : (path : GroupPath) (name : List ℕ) (rest : GroupPath) → (path ++ name ∷ []) ++ rest ≡ path ++ name ∷ rest
one_name path name rest = append_assoc path (name ∷ []) rest

-- What is listed is found.

pub record Found (at : GroupPath) (g : Group) (p : GroupPath) (h : Group) : Type 0 where
  pub rest : GroupPath
  pub is : p ≡ at ++ rest
  pub there : group_at g rest ≡ Some h

record FoundAmong (at : GroupPath) (cs : Children) (p : GroupPath) (h : Group) : Type 0 where
  name : List ℕ
  inner : Group
  rest : GroupPath
  is : p ≡ at ++ name ∷ rest
  member : map_of.get (children_by_name cs) name ≡ Some (a_group inner)
  there : group_at inner rest ≡ Some h

record FoundIn (at : GroupPath) (c : Child) (p : GroupPath) (h : Group) : Type 0 where
  inner : Group
  same : c ≡ a_group inner
  found : Found at inner p h

step_in : (name : List ℕ) (path : GroupPath) (ps : Properties) (cs : Children) (g h : Group) → map_of.get (children_by_name cs) name ≡ Some (a_group g) → group_at g path ≡ Some h → group_at (group ps cs) (name ∷ path) ≡ Some h
step_in name path ps cs g h e f = ap (λ (o : Option Child). option_and_then (λ x. group_at x path) (option_and_then as_group o)) e ∙ f

from_child : (at : GroupPath) (name : List ℕ) (c : Child) (cs : Children) (p : GroupPath) (h : Group) → FoundIn (at ++ name ∷ []) c p h → FoundAmong at (child name c cs) p h
from_child at name c cs p h f = record {
  name = name;
  inner = f.inner;
  rest = f.found.rest;
  is = f.found.is ∙ one_name at name f.found.rest;
  member = get_here name c cs ∙ ap Some f.same;
  there = f.found.there;
}

from_others : (at : GroupPath) (name : List ℕ) (c : Child) (cs : Children) (p : GroupPath) (h : Group) → LacksName name cs → FoundAmong at cs p h → FoundAmong at (child name c cs) p h
from_others at name c cs p h l f = record {
  name = f.name;
  inner = f.inner;
  rest = f.rest;
  is = f.is;
  member = get_later name c cs f.name (a_group f.inner) l f.member;
  there = f.there;
}

mutual
  pub found_from : (at : GroupPath) (g : Group) (p : GroupPath) (h : Group) → AreNamed g → In {N = GroupAt} (p, h) (groups_from at g) → Found at g p h
  found_from at (group ps cs) p h a (inl e) = record { rest = []; is = ap (λ (x : GroupAt). x.0) e ∙ sym (append-nil at); there = ap (λ (x : GroupAt). Some x.1) (sym e) }
  found_from at (group ps cs) p h a (inr i) =
      let f = found_among at cs p h a i in
      record { rest = f.name ∷ f.rest; is = f.is; there = step_in f.name f.rest ps cs f.inner h f.member f.there }

  found_among : (at : GroupPath) (cs : Children) (p : GroupPath) (h : Group) → AreNamedAmong cs → In {N = GroupAt} (p, h) (groups_among at cs) → FoundAmong at cs p h
  found_among at no_children p h a i = absurd i
  found_among at (child name c cs) p h a i = elim (in_cases (groups_in (at ++ name ∷ []) c) (groups_among at cs) (p, h) i) [
    | inl j ↦ from_child at name c cs p h (found_in (at ++ name ∷ []) c p h a.1 j)
    | inr j ↦ from_others at name c cs p h a.0 (found_among at cs p h a.2 j)
  ]

  found_in : (at : GroupPath) (c : Child) (p : GroupPath) (h : Group) → AreNamedIn c → In {N = GroupAt} (p, h) (groups_in at c) → FoundIn at c p h
  found_in at (a_token d) p h a i = absurd i
  found_in at (a_group g) p h a i = record { inner = g; same = refl; found = found_from at g p h a i }

-- What is found is listed.

-- the child of the name, and the group below it
none_of_none : (q : List ℕ) (rest : GroupPath) (h : Group) → option_and_then (λ x. group_at x rest) (option_and_then as_group (map_of.get (children_by_name no_children) q)) ≡ Some h → ⊥
none_of_none q rest h e = none-some h (sym (ap (λ (o : Option Child). option_and_then (λ x. group_at x rest) (option_and_then as_group o)) (get_none q)) ∙ e)

mutual
  pub listed_from : (at : GroupPath) (g : Group) (rest : GroupPath) (h : Group) → group_at g rest ≡ Some h → In {N = GroupAt} (at ++ rest, h) (groups_from at g)
  listed_from at (group ps cs) [] h e = inl (λ i. (append-nil at i, same_Some h (group ps cs) (sym e) i))
  listed_from at (group ps cs) (name ∷ rest) h e = inr (listed_among at cs name rest h e)

  listed_among : (at : GroupPath) (cs : Children) (q : List ℕ) (rest : GroupPath) (h : Group) → option_and_then (λ x. group_at x rest) (option_and_then as_group (map_of.get (children_by_name cs) q)) ≡ Some h → In {N = GroupAt} (at ++ q ∷ rest, h) (groups_among at cs)
  listed_among at no_children q rest h e = absurd (none_of_none q rest h e)
  listed_among at (child name c cs) q rest h e = elim (cases_Bool (eq_by_cmp text_cmp q name)) [
    | inl t ↦
        let same : q ≡ name = same_name q name t in
        let here : option_and_then (λ x. group_at x rest) (as_group c) ≡ Some h =
        sym (ap (λ (o : Option Child). option_and_then (λ x. group_at x rest) (option_and_then as_group o)) (ap (λ (n : List ℕ). map_of.get (children_by_name (child name c cs)) n) same ∙ get_here name c cs)) ∙ e in
        in_left (groups_in (at ++ name ∷ []) c) (groups_among at cs) (at ++ q ∷ rest, h)
        (subst (λ (p : GroupPath). In {N = GroupAt} (p, h) (groups_in (at ++ name ∷ []) c)) (one_name at name rest ∙ ap (λ (n : List ℕ). at ++ n ∷ rest) (sym same)) (listed_in (at ++ name ∷ []) c rest h here))
    | inr f ↦
        let there : option_and_then (λ x. group_at x rest) (option_and_then as_group (map_of.get (children_by_name cs) q)) ≡ Some h =
        sym (ap (λ (o : Option Child). option_and_then (λ x. group_at x rest) (option_and_then as_group o)) (get_there name c cs q f)) ∙ e in
        in_right (groups_in (at ++ name ∷ []) c) (groups_among at cs) (at ++ q ∷ rest, h) (listed_among at cs q rest h there)
  ]

  listed_in : (at : GroupPath) (c : Child) (rest : GroupPath) (h : Group) → option_and_then (λ x. group_at x rest) (as_group c) ≡ Some h → In {N = GroupAt} (at ++ rest, h) (groups_in at c)
  listed_in at (a_token d) rest h e = absurd (none-some h e)
  listed_in at (a_group g) rest h e = listed_from at g rest h e

-- No two groups have one path.

abbrev pub paths : List GroupAt → List GroupPath
paths es = map (λ e. e.0) es

paths_join : (xs ys : List GroupAt) → paths (xs ++ ys) ≡ paths xs ++ paths ys
paths_join [] ys = refl
paths_join (x ∷ xs) ys = ap (λ (zs : List GroupPath). x.0 ∷ zs) (paths_join xs ys)

record Begins (at : GroupPath) (p : GroupPath) : Type 0 where
  rest : GroupPath
  is : p ≡ at ++ rest

record BeginsAmong (at : GroupPath) (cs : Children) (p : GroupPath) : Type 0 where
  name : List ℕ
  rest : GroupPath
  is : p ≡ at ++ name ∷ rest
  other : (q : List ℕ) → LacksName q cs → q ≡ name → ⊥

begins_either : (at : GroupPath) (name : List ℕ) (c : Child) (cs : Children) (p : GroupPath) → BeginsAmong at cs p → BeginsAmong at (child name c cs) p
begins_either at name c cs p b = record { name = b.name; rest = b.rest; is = b.is; other = λ q l. b.other q l.1 }

mutual
  begins_from : (at : GroupPath) (g : Group) (p : GroupPath) → In p (paths (groups_from at g)) → Begins at p
  begins_from at (group ps cs) p (inl e) = record { rest = []; is = e ∙ sym (append-nil at) }
  begins_from at (group ps cs) p (inr i) = let b = begins_among at cs p i in record { rest = b.name ∷ b.rest; is = b.is }

  begins_among : (at : GroupPath) (cs : Children) (p : GroupPath) → In p (paths (groups_among at cs)) → BeginsAmong at cs p
  begins_among at no_children p i = absurd i
  begins_among at (child name c cs) p i = elim (in_cases (paths (groups_in (at ++ name ∷ []) c)) (paths (groups_among at cs)) p (subst (λ (ps : List GroupPath). In p ps) (paths_join (groups_in (at ++ name ∷ []) c) (groups_among at cs)) i)) [
    | inl j ↦
        let b = begins_in (at ++ name ∷ []) c p j in
        record { name = name; rest = b.rest; is = b.is ∙ one_name at name b.rest; other = λ q l. l.0 }
    | inr j ↦ begins_either at name c cs p (begins_among at cs p j)
  ]

  begins_in : (at : GroupPath) (c : Child) (p : GroupPath) → In p (paths (groups_in at c)) → Begins at p
  begins_in at (a_token d) p i = absurd i
  begins_in at (a_group g) p i = begins_from at g p i

-- a path is not one that goes on from it
longer : (at : GroupPath) (name : List ℕ) (rest : GroupPath) → at ≡ at ++ name ∷ rest → ⊥
longer at name rest e = absurd (omega (arith, ap length e, length-append at (name ∷ rest)))

apart_join : {N : Type 0} (xs ys : List N) → AreApart xs → AreApart ys → ((x : N) → In x xs → In x ys → ⊥) → AreApart (xs ++ ys)
apart_join [] ys a b d = b
apart_join (x ∷ xs) ys a b d =
    ((λ i. elim (in_cases xs ys x i) [ inl j ↦ a.0 j | inr j ↦ d x (inl refl) j ]), apart_join xs ys a.1 b (λ y i j. d y (inr i) j))

head_same : (x y : List ℕ) (xs ys : GroupPath) → x ∷ xs ≡ y ∷ ys → x ≡ y
head_same x y xs ys e = cc

mutual
  pub apart_from : (at : GroupPath) (g : Group) → AreNamed g → AreApart (paths (groups_from at g))
  apart_from at (group ps cs) a =
      ((λ i. (let b = begins_among at cs at i in longer at b.name b.rest b.is)), apart_among at cs a)

  apart_among : (at : GroupPath) (cs : Children) → AreNamedAmong cs → AreApart (paths (groups_among at cs))
  apart_among at no_children a = tt
  apart_among at (child name c cs) a =
      subst AreApart (sym (paths_join (groups_in (at ++ name ∷ []) c) (groups_among at cs)))
      (apart_join (paths (groups_in (at ++ name ∷ []) c)) (paths (groups_among at cs)) (apart_in (at ++ name ∷ []) c a.1) (apart_among at cs a.2)
      (λ p i j. (
      let b = begins_in (at ++ name ∷ []) c p i in
      let d = begins_among at cs p j in
      d.other name a.0 (head_same name d.name b.rest d.rest (append_cancel_left at (name ∷ b.rest) (d.name ∷ d.rest) (sym (b.is ∙ one_name at name b.rest) ∙ d.is))))))

  apart_in : (at : GroupPath) (c : Child) → AreNamedIn c → AreApart (paths (groups_in at c))
  apart_in at (a_token d) a = tt
  apart_in at (a_group g) a = apart_from at g a

-- Each group below has names apart.

mutual
  pub named_from : (at : GroupPath) (g : Group) (p : GroupPath) (h : Group) → AreNamed g → In {N = GroupAt} (p, h) (groups_from at g) → AreNamed h
  named_from at (group ps cs) p h a (inl e) = subst (λ (x : GroupAt). AreNamed x.1) (sym e) a
  named_from at (group ps cs) p h a (inr i) = named_among at cs p h a i

  named_among : (at : GroupPath) (cs : Children) (p : GroupPath) (h : Group) → AreNamedAmong cs → In {N = GroupAt} (p, h) (groups_among at cs) → AreNamed h
  named_among at no_children p h a i = absurd i
  named_among at (child name c cs) p h a i = elim (in_cases (groups_in (at ++ name ∷ []) c) (groups_among at cs) (p, h) i) [
    | inl j ↦ named_in (at ++ name ∷ []) c p h a.1 j
    | inr j ↦ named_among at cs p h a.2 j
  ]

  named_in : (at : GroupPath) (c : Child) (p : GroupPath) (h : Group) → AreNamedIn c → In {N = GroupAt} (p, h) (groups_in at c) → AreNamed h
  named_in at (a_token d) p h a i = absurd i
  named_in at (a_group g) p h a i = named_from at g p h a i

-- The group at a path goes on to those below.

further : (path rest : GroupPath) (h : Group) (o : Option Group) → ((x : Group) → group_at x path ≡ Some h → group_at x (path ++ rest) ≡ group_at h rest) → option_and_then (λ x. group_at x path) o ≡ Some h → option_and_then (λ x. group_at x (path ++ rest)) o ≡ group_at h rest
further path rest h None f e = absurd (none-some h e)
further path rest h (Some x) f e = f x e

pub goes_on : (g : Group) (path : GroupPath) (h : Group) (rest : GroupPath) → group_at g path ≡ Some h → group_at g (path ++ rest) ≡ group_at h rest
goes_on g [] h rest e = ap (λ (x : Group). group_at x rest) (same_Some g h e)
goes_on g (name ∷ path) h rest e = further path rest h (option_and_then as_group (member_at name g)) (λ x k. goes_on x path h rest k) e
