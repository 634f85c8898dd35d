-- Kinds and links at a place, from those at its parts and targets.
use Rattle.std.proofs.Common.{◌≡◌, List, [], ◌∷◌, ◌++◌, Option, Some, None, refl, sym, ap, ap₂, ◌∙◌, subst, append_assoc, append-nil}
use Rattle.name_path.specs.declared.place.Place.{Place}
use Rattle.alias_ref.specs.Written.{Step, Written, refers, WrittenPlaces, whole, part, is_written}
use Rattle.alias_ref.specs.Visits.{Way, steps_from, way_of}
use Rattle.alias_ref.specs.Kinds.{Kinds, link_token, KindOf, kind_alone, kind_linked, LinksAt, links_leaf, links_steps, links_one, links_parts, LinksEach, each_done, each_more}
use Rattle.group_inherit.specs.Merging.{either}
use Rattle.name_path.specs.declared.kind.Kind.{Kind}
use Rattle.name_path.specs.declared.link.Link.{Link}
use Rattle.alias_ref.specs.inner.Linking.{lent, link_here}
use Rattle.alias_ref.proofs.WaysSettle.{go_if_ends}

pub whole_of : (p : Place) → p.trail ≡ [] → p ≡ whole p.token
whole_of p h = let make : List Step → Place = λ ss. record { token = p.token; trail = ss } in ap make h

module _ (T : WrittenPlaces) where
  pub way_end : (settle : Place → Way) (p q : Place) (u : List Step) → (way_of T settle p u []).ends ≡ Some q → q ≡ whole u
  unfolding steps_from
  way_end settle p q u h = let k = go_if_ends (is_written (T (whole u))) p (steps_from T settle p (whole u) []) h in let e = k.1 in cc

  module _ (own group : Kinds) where
    pub alone : (p : Place) (s : Written) (o : Option Kind) → T p ≡ Some s → link_token (Some s) ≡ None → p.trail ≡ [] → o ≡ either (own p.token) (group p.token) → KindOf T own group p.token o
    alone p s o is none h e = kind_alone (ap (λ x. link_token (T x)) (sym (whole_of p h)) ∙ ap link_token is ∙ none) e

    pub refers_kind : (settle : Place → Way) (p q : Place) (u : List Step) (steps : List Step) (k o : Option Kind) → T p ≡ Some (refers u steps) → (way_of T settle p u steps).ends ≡ Some q → (q.trail ≡ [] → KindOf T own group q.token k)
        → o ≡ either (own p.token) (either (lent k steps) (group p.token)) → p.trail ≡ [] → KindOf T own group p.token o
    refers_kind settle p q u [] k o is h kind e at =
        let end = way_end settle p q u h in
        let of_target = subst (λ x. KindOf T own group x.token k) end (kind (ap (λ x. x.trail) end)) in
        kind_linked (ap (λ x. link_token (T x)) (sym (whole_of p at)) ∙ ap link_token is) of_target e
    refers_kind settle p q u (s ∷ steps) k o is h kind e at = alone p (refers u (s ∷ steps)) o is refl at e

    pub refers_links : (settle : Place → Way) (p q : Place) (u : List Step) (steps : List Step) (k : Option Kind) (ls : List Link) → T p ≡ Some (refers u steps) → (way_of T settle p u steps).ends ≡ Some q → (q.trail ≡ [] → KindOf T own group q.token k)
        → ls ≡ link_here p u k steps → LinksAt T own group p ls
    refers_links settle p q u [] k ls is h kind e =
        let end = way_end settle p q u h in
        links_one is (subst (λ x. KindOf T own group x.token k) end (kind (ap (λ x. x.trail) end))) e
    refers_links settle p q u (s ∷ steps) k ls is h kind e = subst (λ x. LinksAt T own group p x) (sym e) (links_steps is)

    each_end : {p : Place} {steps : List Step} {xs : List Link} → LinksEach T own group p steps xs → (s : Step) (ys : List Link) → LinksAt T own group (part p s) ys → LinksEach T own group p (steps ++ s ∷ []) (xs ++ ys)
    each_end each_done s ys l = each_more l each_done (sym (append-nil ys))
    each_end (each_more {xs = ms} {ys = ns} a k e) s ys l = each_more a (each_end k s ys l) (ap (λ z. z ++ ys) e ∙ append_assoc ms ns ys)

    -- one more part, at the end of a list of links
    pub one_more_part : (p : Place) (steps : List Step) (s : Step) (start now after more : List Link) → ((ls : List Link) × LinksEach T own group p steps ls × (now ≡ start ++ ls)) → LinksAt T own group (part p s) more → after ≡ now ++ more
        → (ls : List Link) × LinksEach T own group p (steps ++ s ∷ []) ls × (after ≡ start ++ ls)
    one_more_part p steps s start now after more (ls, k, e) l h = (ls ++ more, each_end k s more l, h ∙ ap (λ z. z ++ more) e ∙ append_assoc start ls more)

    pub kind_once : {t : List Step} {a b : Option Kind} → KindOf T own group t a → KindOf T own group t b → a ≡ b
    kind_once (kind_alone n e) (kind_alone m f) = e ∙ sym f
    kind_once (kind_alone n e) (kind_linked m k f) = let h = sym n ∙ m in cc
    kind_once (kind_linked n k e) (kind_alone m f) = let h = sym n ∙ m in cc
    kind_once (kind_linked {token = t} {other = u} {l = l} n k e) (kind_linked {other = v} {l = j} m g f) =
        let h = sym n ∙ m in
        let same : v ≡ u = cc in
        let kinds : l ≡ j = kind_once k (subst (λ x. KindOf T own group x j) same g) in
        e ∙ ap (λ x. either (own t) (either x (group t))) kinds ∙ sym f

    mutual
      pub links_once : {p : Place} {ls ms : List Link} → LinksAt T own group p ls → LinksAt T own group p ms → ls ≡ ms
      links_once (links_leaf e) (links_leaf f) = refl
      links_once (links_leaf e) (links_steps f) = refl
      links_once (links_leaf e) (links_one f k is) = let h = sym e ∙ f in cc
      links_once (links_leaf e) (links_parts f k) = let h = sym e ∙ f in cc
      links_once (links_steps e) (links_leaf f) = refl
      links_once (links_steps e) (links_steps f) = refl
      links_once (links_steps {s = s} {steps = steps} e) (links_one f k is) = let h = sym e ∙ f in let no : s ∷ steps ≡ [] = cc in absurd (cc)
      links_once (links_steps e) (links_parts f k) = let h = sym e ∙ f in cc
      links_once (links_one e k is) (links_leaf f) = let h = sym e ∙ f in cc
      links_once (links_one e k is) (links_steps {s = s} {steps = steps} f) = let h = sym f ∙ e in let no : s ∷ steps ≡ [] = cc in absurd (cc)
      links_once (links_one {p = p} {token = t} {k = a} e k is) (links_one {token = u} {k = b} f l is') =
          let h = sym e ∙ f in
          let same : u ≡ t = cc in
          let make : List Step → Option Kind → List Link = λ x y. record { trail = p.trail; target = x; kind = y } ∷ [] in
          is ∙ ap₂ make (sym same) (kind_once k (subst (λ x. KindOf T own group x b) same l)) ∙ sym is'
      links_once (links_one e k is) (links_parts f l) = let h = sym e ∙ f in cc
      links_once (links_parts e k) (links_leaf f) = let h = sym e ∙ f in cc
      links_once (links_parts e k) (links_steps f) = let h = sym e ∙ f in cc
      links_once (links_parts e k) (links_one f l is) = let h = sym e ∙ f in cc
      links_once (links_parts {p = p} {steps = steps} e k) (links_parts {steps = us} {ls = ms} f l) =
          let h = sym e ∙ f in
          let same : us ≡ steps = cc in
          each_links_once k (subst (λ x. LinksEach T own group p x ms) same l)

      each_links_once : {p : Place} {steps : List Step} {ls ms : List Link} → LinksEach T own group p steps ls → LinksEach T own group p steps ms → ls ≡ ms
      each_links_once each_done each_done = refl
      each_links_once (each_more a k e) (each_more b l f) = e ∙ ap₂ (λ x y. x ++ y) (links_once a b) (each_links_once k l) ∙ sym f
