-- Children by their names.
use Rattle.std.proofs.Common.{◌≡◌, ℕ, zero, suc, drop, Bool, true, false, cond, List, [], ◌∷◌, Some, None, inl, inr, refl, sym, ap, ap₂, ◌∙◌, subst, Ordering, Less, Equal, Greater, is_eq, T, ◌&&◌}
use Rattle.std.proofs.lemmas.Bool.{cases_Bool, false≢true}
use Rattle.std.proofs.lemmas.Option.{none-some}
use Rattle.std.specs.Cmp.{tied_itself}
use Rattle.std.specs.Cmp.Lexicographic.{nat_list_cmp_total}
use Rattle.std.specs.FinMap as map_of
use Rattle.std.specs.FinMap.Entries.{is_sorted, below_all}
use Rattle.std.specs.Ordering.{eq_by_cmp, is_lt}
use Rattle.std.specs.Str.{bytes_eq}
use Rattle.tk_io.specs.Order.{text_cmp}
use Rattle.tk_io.proofs.TextMaps.{text_cmp-IsAntisymmetric}
use Rattle.token_tree.proofs.Names.{same_text, text_same}
use Rattle.token_tree.specs.Tree.{Child, Group, group, Children, no_children, child, children_of, child_among, child_at}
use Rattle.group_inherit.specs.Merging.{children_by_name, member_at}
use Rattle.group_inherit.specs.inner.Numbering.{LacksName}

tied : (r : Ordering) → is_eq r ≡ true → r ≡ Equal
tied Less e = cc
tied Equal e = refl
tied Greater e = cc

pub same_name : (x y : List ℕ) → eq_by_cmp text_cmp x y ≡ true → x ≡ y
same_name x y e = text_cmp-IsAntisymmetric x y (tied (text_cmp x y) e)

pub name_itself : (x : List ℕ) → eq_by_cmp text_cmp x x ≡ true
name_itself x = ap is_eq (tied_itself nat_list_cmp_total x)

pub get_child : (name : List ℕ) (c : Child) (cs : Children) (q : List ℕ) → map_of.get (children_by_name (child name c cs)) q ≡ cond (eq_by_cmp text_cmp q name) (Some c) (map_of.get (children_by_name cs) q)
get_child name c cs q = map_of.get-insert nat_list_cmp_total (children_by_name cs) name c q

pub get_here : (name : List ℕ) (c : Child) (cs : Children) → map_of.get (children_by_name (child name c cs)) name ≡ Some c
get_here name c cs = get_child name c cs name ∙ ap (λ b. cond b (Some c) (map_of.get (children_by_name cs) name)) (name_itself name)

pub get_there : (name : List ℕ) (c : Child) (cs : Children) (q : List ℕ) → eq_by_cmp text_cmp q name ≡ false → map_of.get (children_by_name (child name c cs)) q ≡ map_of.get (children_by_name cs) q
get_there name c cs q e = get_child name c cs q ∙ ap (λ b. cond b (Some c) (map_of.get (children_by_name cs) q)) e

pub get_none : (q : List ℕ) → map_of.get (children_by_name no_children) q ≡ None
get_none q = map_of.get-empty text_cmp q

-- the first child of a name stands there

same_name_test : (q k : List ℕ) → eq_by_cmp text_cmp q k ≡ bytes_eq k q
same_name_test q k = elim (cases_Bool (bytes_eq k q)) [
  | inl t ↦ ap (eq_by_cmp text_cmp q) (same_text k q t) ∙ (name_itself q ∙ sym t)
  | inr f ↦ elim (cases_Bool (eq_by_cmp text_cmp q k)) [
    | inl t ↦ absurd (false≢true (sym f ∙ text_same k q (sym (same_name q k t))))
    | inr g ↦ g ∙ sym f
  ]
]

first_among : (name : List ℕ) (cs : Children) → map_of.get (children_by_name cs) name ≡ child_among name cs
first_among name no_children = get_none name
first_among name (child k c cs) =
    get_child k c cs name ∙ ap₂ (λ b o. cond b (Some c) o) (same_name_test name k) (first_among name cs)

pub first_of_name : (name : List ℕ) (g : Group) → member_at name g ≡ child_at name g
first_of_name name (group ps cs) = first_among name cs

-- a name that is not there
pub lacked : (name : List ℕ) (cs : Children) → LacksName name cs → map_of.get (children_by_name cs) name ≡ None
lacked name no_children l = get_none name
lacked name (child other c cs) l = elim (cases_Bool (eq_by_cmp text_cmp name other)) [
  | inl e ↦ absurd (l.0 (same_name name other e))
  | inr e ↦ get_there other c cs name e ∙ lacked name cs l.1
]

-- a child that is found among the others is found after one more, whose name they lack
pub get_later : (name : List ℕ) (c : Child) (cs : Children) (q : List ℕ) (d : Child) → LacksName name cs → map_of.get (children_by_name cs) q ≡ Some d → map_of.get (children_by_name (child name c cs)) q ≡ Some d
get_later name c cs q d l e = elim (cases_Bool (eq_by_cmp text_cmp q name)) [
  | inl t ↦ absurd (none-some d (sym (lacked name cs l) ∙ (ap (λ (x : List ℕ). map_of.get (children_by_name cs) x) (sym (same_name q name t)) ∙ e)))
  | inr f ↦ get_there name c cs q f ∙ e
]

-- Entries in the order of their names have names apart.

first : (a b : Bool) → T (a && b) → T a
first true b p = tt
first false b p = absurd p

second : (a b : Bool) → T (a && b) → T b
second true b p = p
second false b p = absurd p

not_less : (r : Ordering) → r ≡ Equal → T (is_lt r) → ⊥
not_less Less e p = cc
not_less Equal e p = p
not_less Greater e p = p

below_lacks : (name : List ℕ) (es : List (List ℕ × Child)) → T (below_all text_cmp name es) → LacksName name (children_of es)
below_lacks name [] h = tt
below_lacks name (e ∷ es) h = (
  (λ p. not_less (text_cmp name e.0) (subst (λ (x : List ℕ). text_cmp name x ≡ Equal) p (tied_itself nat_list_cmp_total name)) (first (is_lt (text_cmp name e.0)) (below_all text_cmp name es) h)),
  below_lacks name es (second (is_lt (text_cmp name e.0)) (below_all text_cmp name es) h),
)

pub sorted_lacks : (e : List ℕ × Child) (es : List (List ℕ × Child)) → T (is_sorted text_cmp (e ∷ es)) → LacksName e.0 (children_of es)
sorted_lacks e es h = below_lacks e.0 es (first (below_all text_cmp e.0 es) (is_sorted text_cmp es) h)

pub sorted_rest : (e : List ℕ × Child) (es : List (List ℕ × Child)) → T (is_sorted text_cmp (e ∷ es)) → T (is_sorted text_cmp es)
sorted_rest e es h = second (below_all text_cmp e.0 es) (is_sorted text_cmp es) h

pub sorted_drop : (i : ℕ) (es : List (List ℕ × Child)) → T (is_sorted text_cmp es) → T (is_sorted text_cmp (drop i es))
sorted_drop zero es h = h
sorted_drop (suc i) [] h = tt
sorted_drop (suc i) (e ∷ es) h = sorted_drop i es (sorted_rest e es h)
