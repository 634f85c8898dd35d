-- Trees that agree where references lead have the same kinds and links there.
use Rattle.std.proofs.Common.{◌≡◌, List, [], ◌∷◌, Option, Some, None, sym, ap, ap₂, ◌∙◌}
use Rattle.name_path.specs.declared.place.Place.{Place}
use Rattle.alias_ref.specs.Written.{Step, Written, leaf, parts, refers, misspelled, WrittenPlaces, whole}
use Rattle.alias_ref.specs.Kinds.{Kinds, link_token, KindOf, kind_alone, kind_linked, LinksAt, links_leaf, links_steps, links_one, links_parts, LinksEach, each_done, each_more}
use Rattle.group_inherit.specs.Merging.{either}
use Rattle.name_path.specs.declared.kind.Kind.{Kind}
use Rattle.name_path.specs.declared.link.Link.{Link}

link_is : (o : Option Written) (u : List Step) → link_token o ≡ Some u → o ≡ Some (refers u [])
link_is (Some (refers t [])) u h = let e : t ≡ u = cc in ap (λ x. Some (refers x [])) e
link_is (Some (refers t (s ∷ ss))) u h = cc
link_is (Some (leaf n)) u h = cc
link_is (Some (parts c ss)) u h = cc
link_is (Some misspelled) u h = cc
link_is None u h = cc

module _ (T T' : WrittenPlaces) (own own' group group' : Kinds) (In : List Step → Type 0) (agree : (p : Place) → In p.token → T p ≡ T' p) (same_own : (t : List Step) → In t → own t ≡ own' t) (same_group : (t : List Step) → In t → group t ≡ group' t) (closed : (p : Place) (u : List Step) (steps : List Step) → In p.token → T' p ≡ Some (refers u steps) → In u) where
  pub kind_same : {t : List Step} {o : Option Kind} → KindOf T own group t o → In t → KindOf T' own' group' t o
  kind_same (kind_alone {token = t} n e) h = kind_alone (ap link_token (sym (agree (whole t) h)) ∙ n) (e ∙ ap₂ either (same_own t h) (same_group t h))
  kind_same (kind_linked {token = t} {other = u} {l = l} n k e) h =
      let link = ap link_token (sym (agree (whole t) h)) ∙ n in
      let inside = closed (whole t) u [] h (link_is (T' (whole t)) u link) in
      kind_linked link (kind_same k inside) (e ∙ ap₂ (λ x y. either x (either l y)) (same_own t h) (same_group t h))

  mutual
    pub links_same : {p : Place} {ls : List Link} → LinksAt T own group p ls → In p.token → LinksAt T' own' group' p ls
    links_same (links_leaf {p} e) h = links_leaf (sym (agree p h) ∙ e)
    links_same (links_steps {p} e) h = links_steps (sym (agree p h) ∙ e)
    links_same (links_one {p = p} {token = u} e k is) h = let e' = sym (agree p h) ∙ e in links_one e' (kind_same k (closed p u [] h e')) is
    links_same (links_parts {p} e k) h = links_parts (sym (agree p h) ∙ e) (links_each_same k h)

    links_each_same : {p : Place} {steps : List Step} {ls : List Link} → LinksEach T own group p steps ls → In p.token → LinksEach T' own' group' p steps ls
    links_each_same each_done h = each_done
    links_each_same (each_more a k e) h = each_more (links_same a h) (links_each_same k h) e
