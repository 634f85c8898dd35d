-- The links of a place are its references without steps.
use Rattle.std.proofs.Common.{◌≡◌, List, [], ◌∷◌, Some, inl, inr, refl, sym, ◌∙◌, subst}
use Rattle.ring.specs.Lists.{In}
use Rattle.name_path.specs.declared.link.Link.{Link}
use Rattle.name_path.specs.declared.place.Place.{Place}
use Rattle.alias_ref.specs.Written.{Step, refers, WrittenPlaces, part}
use Rattle.alias_ref.specs.Kinds.{Kinds, LinksAt, links_leaf, links_steps, links_one, links_parts, LinksEach, each_done, each_more, IsLink}
use Rattle.alias_ref.specs.PlainParts.{Below, below_here, below_part}
use Rattle.alias_ref.proofs.RefsAreWritten.{In-left, In-right, In-either}

module _ (T : WrittenPlaces) (own group : Kinds) where
  link_is : (token : List Step) (x l : Link) → IsLink T own group token x → l ≡ x → IsLink T own group token l
  link_is token x l k e = subst (IsLink T own group token) (sym e) k

  mutual
    pub links_real : {p : Place} {ls : List Link} → LinksAt T own group p ls → (l : Link) → In l ls → IsLink T own group p.token l
    links_real (links_leaf e) l h = elim h [ ]
    links_real (links_steps e) l h = elim h [ ]
    links_real (links_one {p = p} {token = u} {k = k} e kind is) l h = elim (subst (In l) is h) [
      | inl f ↦ link_is p.token (record { trail = p.trail; target = u; kind = k }) l (record { written = e; kind = kind }) f
      | inr f ↦ elim f [ ]
    ]
    links_real (links_parts e k) l h = each_real k l h

    each_real : {p : Place} {steps : List Step} {ls : List Link} → LinksEach T own group p steps ls → (l : Link) → In l ls → IsLink T own group p.token l
    each_real each_done l h = elim h [ ]
    each_real (each_more {xs = xs} {ys = ys} a k e) l h = elim (In-either l xs ys (subst (In l) e h)) [
      | inl f ↦ links_real a l f
      | inr f ↦ each_real k l f
    ]

  each_has : {p : Place} {steps : List Step} {ls : List Link} → LinksEach T own group p steps ls → (s : Step) → In s steps → (ms : List Link) × LinksAt T own group (part p s) ms × ((l : Link) → In l ms → In l ls)
  each_has each_done s h = elim h [ ]
  each_has {p} {ls = ls} (each_more {s = r} {steps = steps} {xs = xs} {ys = ys} a k e) s h = elim h [
    | inl f ↦ (xs, subst (λ x. LinksAt T own group (part p x) xs) (sym f) a, λ l i. subst (In l) (sym e) (In-left l xs ys i))
    | inr f ↦ let found = each_has k s f in (found.0, found.1, λ l i. subst (In l) (sym e) (In-right l xs ys (found.2 l i)))
  ]

  -- each reference without steps that stands below a place is among its links
  pub links_all : {p q : Place} {trail : List Step} → Below T p trail q → (ls : List Link) → LinksAt T own group p ls → (target : List Step) → T q ≡ Some (refers target []) → (l : Link) × In l ls × (l.trail ≡ q.trail) × (l.target ≡ target)
  links_all below_here ls (links_leaf e) target f = let h = sym e ∙ f in absurd (cc)
  links_all below_here ls (links_steps {s = s} {steps = steps} e) target f = let h = sym e ∙ f in let no : s ∷ steps ≡ [] = cc in absurd (cc)
  links_all (below_here {p = p}) ls (links_one {token = u} {k = k} e kind is) target f =
      let h = sym e ∙ f in
      let same : u ≡ target = cc in
      let here : Link = record { trail = p.trail; target = u; kind = k } in
      (here, subst (In here) (sym is) (inl refl), refl, same)
  links_all below_here ls (links_parts e k) target f = let h = sym e ∙ f in absurd (cc)
  links_all (below_part s g i b) ls (links_leaf e) target f = let h = sym e ∙ g in absurd (cc)
  links_all (below_part s g i b) ls (links_steps e) target f = let h = sym e ∙ g in absurd (cc)
  links_all (below_part s g i b) ls (links_one e kind is) target f = let h = sym e ∙ g in absurd (cc)
  links_all (below_part {steps = us} s g i b) ls (links_parts {steps = steps} e k) target f =
      let h = sym g ∙ e in
      let same : us ≡ steps = cc in
      let found = each_has k s (subst (In s) same i) in
      let deep = links_all b found.0 found.1 target f in
      (deep.0, found.2 deep.0 deep.1, deep.2, deep.3)
