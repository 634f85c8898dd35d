-- The lost targets of a tree: just those of the groups whose target is no group.
use Rattle.std.proofs.Common.{◌≡◌, Bool, true, false, List, [], ◌∷◌, Option, Some, None, is_some, inl, inr, refl, sym, ap, subst, ◌∙◌}
use Rattle.ring.specs.Lists.{In}
use Rattle.ring.proofs.Ends.{in_left, in_cases}
use Rattle.token_tree.specs.Tree.{Extension, Group}
use Rattle.group_inherit.specs.Extension.{GroupPath, group_at, groups_from, extension_of, Lost, lost_unless, lost_at, lost_among, has_group, lost_targets}
use Rattle.group_inherit.specs.Laws.{LostAreAll}
use Rattle.group_inherit.specs.inner.Numbering.{GroupAt}
use Rattle.group_inherit.proofs.Finding.{Found, found_from, listed_from, in_right}
use Rattle.group_inherit.proofs.OrderedTrees.{ordered_named}

-- the group of a lost target among these
record Among (tree : Group) (gs : List GroupAt) (l : Lost) : Type 0 where
  group : Group
  there : In {N = GroupAt} (l.path, group) gs
  extends_it : extension_of group ≡ Some l.extension
  nowhere : group_at tree l.extension.target ≡ None

no_group : (o : Option Group) → is_some o ≡ false → o ≡ None
no_group None e = refl
no_group (Some g) e = absurd (cc)

unless : (tree : Group) (g : GroupAt) (gs : List GroupAt) (l : Lost) (e : Extension) (b : Bool) → extension_of g.1 ≡ Some e → is_some (group_at tree e.target) ≡ b → In l (lost_unless b g.0 e) → Among tree (g ∷ gs) l
unless tree g gs l e true x t i = absurd i
unless tree g gs l e false x t (inr i) = absurd i
unless tree g gs l e false x t (inl p) = record {
  group = g.1;
  there = inl (ap (λ (m : Lost). (m.path, g.1)) p);
  extends_it = x ∙ ap (λ (m : Lost). Some m.extension) (sym p);
  nowhere = ap (λ (m : Lost). group_at tree m.extension.target) p ∙ no_group (group_at tree e.target) t;
}

here : (tree : Group) (g : GroupAt) (gs : List GroupAt) (l : Lost) (o : Option Extension) → extension_of g.1 ≡ o → In l (lost_at (has_group tree) g.0 o) → Among tree (g ∷ gs) l
here tree g gs l None x i = absurd i
here tree g gs l (Some e) x i = unless tree g gs l e (is_some (group_at tree e.target)) x refl i

lost_found : (tree : Group) (gs : List GroupAt) (l : Lost) → In l (lost_among (has_group tree) gs) → Among tree gs l
lost_found tree [] l i = absurd i
lost_found tree (g ∷ gs) l i = elim (in_cases (lost_at (has_group tree) g.0 (extension_of g.1)) (lost_among (has_group tree) gs) l i) [
  | inl j ↦ here tree g gs l (extension_of g.1) refl j
  | inr j ↦ (let a = lost_found tree gs l j in record { group = a.group; there = inr a.there; extends_it = a.extends_it; nowhere = a.nowhere })
]

lost_here : (tree : Group) (path : GroupPath) (e : Extension) (o : Option Extension) → o ≡ Some e → group_at tree e.target ≡ None → In (record { path = path; extension = e }) (lost_at (has_group tree) path o)
lost_here tree path e o x none =
    subst (λ (y : Option Extension). In {N = Lost} (record { path = path; extension = e }) (lost_at (has_group tree) path y)) (sym x)
    (subst (λ b. In {N = Lost} (record { path = path; extension = e }) (lost_unless b path e)) (sym (ap is_some none)) (inl refl))

lost_listed : (tree : Group) (gs : List GroupAt) (l : Lost) (h : Group) → In {N = GroupAt} (l.path, h) gs → extension_of h ≡ Some l.extension → group_at tree l.extension.target ≡ None → In l (lost_among (has_group tree) gs)
lost_listed tree [] l h i x none = absurd i
lost_listed tree (g ∷ gs) l h (inl p) x none =
    in_left (lost_at (has_group tree) g.0 (extension_of g.1)) (lost_among (has_group tree) gs) l
    (subst (λ (k : GroupAt). In {N = Lost} l (lost_at (has_group tree) k.0 (extension_of k.1))) p (lost_here tree l.path l.extension (extension_of h) x none))
lost_listed tree (g ∷ gs) l h (inr i) x none = in_right (lost_at (has_group tree) g.0 (extension_of g.1)) (lost_among (has_group tree) gs) l (lost_listed tree gs l h i x none)

pub lost_are_all : LostAreAll
unfolding lost_targets
lost_are_all tree l o = (
  (λ i. (
      let a = lost_found tree (groups_from [] tree) l i in
      let f : Found [] tree l.path a.group = found_from [] tree l.path a.group (ordered_named tree o) a.there in
      record { group = a.group; stands_there = ap (group_at tree) f.is ∙ f.there; extends_it = a.extends_it; nowhere = a.nowhere })),
  (λ t. lost_listed tree (groups_from [] tree) l t.group (listed_from [] tree l.path t.group t.stands_there) t.extends_it t.nowhere),
)
