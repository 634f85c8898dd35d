-- A place has at most one lead, one end and one meaning.
use Rattle.std.proofs.Common.{◌≡◌, List, ◌∷◌, true, false, Some, refl, sym, ap, ap₂, ◌∙◌, subst}
use Rattle.name_path.specs.declared.place.Place.{Place}
use Rattle.json_span.specs.PlainView.{Value, ValueEntry}
use Rattle.alias_ref.specs.Written.{Step, Container, leaf, parts, refers, WrittenPlaces, whole, part, is_reference}
use Rattle.alias_ref.specs.Meaning.{Leads, leads, Goes, arrived, onward, Settles, stays, follows, put_together, Means, means_leaf, means_parts, means_target, EachMeans, none_left, one_more}

module _ (T : WrittenPlaces) where
  pub goes_along : {t u : List Step} {ss us : List Step} {q : Place} → Some (refers t ss) ≡ Some (refers u us) → Goes T (whole u) us q → Goes T (whole t) ss q
  goes_along {t} {u} {ss} {us} {q} e g = let a : u ≡ t = cc in let b : us ≡ ss = cc in subst (λ x. Goes T (whole x) ss q) a (subst (λ xs. Goes T (whole u) xs q) b g)

  not_plain : {p q : Place} → is_reference (T p) ≡ false → Leads T p q → ⊥
  not_plain h (leads e w g) = let no_way : true ≡ false = sym (ap is_reference e) ∙ h in cc

  mutual
    pub lead_once : {p q r : Place} → Leads T p q → Leads T p r → q ≡ r
    lead_once (leads e w g) (leads f x h) = go_once g (goes_along (sym e ∙ f) h)

    pub go_once : {p q r : Place} {steps : List Step} → Goes T p steps q → Goes T p steps r → q ≡ r
    go_once arrived arrived = refl
    go_once (onward {q = q} {r = r} {s} {steps} a w g) (onward {q = q'} {r = r'} b x h) =
        let e : q' ≡ q = sym (settle_once a b) in
        go_once g (subst (λ y. Goes T (part y s) steps r') e h)

    pub settle_once : {p q r : Place} → Settles T p q → Settles T p r → q ≡ r
    settle_once (stays h) (stays k) = refl
    settle_once (stays h) (follows a b) = absurd (not_plain h a)
    settle_once (follows a b) (stays k) = absurd (not_plain k a)
    settle_once (follows {q = q} {r = r} a b) (follows {q = q'} {r = r'} c d) =
        settle_once b (subst (λ y. Settles T y r') (sym (lead_once a c)) d)

  pub leaf_or_lead : {p q : Place} {v : Value} → T p ≡ Some (leaf v) → Leads T p q → ⊥
  leaf_or_lead e l = not_plain (ap is_reference e) l

  pub parts_or_lead : {p q : Place} {c : Container} {ss : List Step} → T p ≡ Some (parts c ss) → Leads T p q → ⊥
  parts_or_lead e l = not_plain (ap is_reference e) l

  mutual
    pub means_once : {p : Place} {v w : Value} → Means T p v → Means T p w → v ≡ w
    means_once (means_leaf e) (means_leaf f) = let h = sym e ∙ f in cc
    means_once (means_leaf e) (means_parts f ms) = let h = sym e ∙ f in cc
    means_once (means_leaf e) (means_target l m) = absurd (leaf_or_lead e l)
    means_once (means_parts e ms) (means_leaf f) = let h = sym e ∙ f in cc
    means_once (means_parts {p} {c} {steps} e ms) (means_parts {c = d} {steps = us} {es = gs} f ns) =
        let h = sym e ∙ f in
        let kept : c ≡ d = cc in
        let same : us ≡ steps = cc in
        ap₂ put_together kept (each_means_once ms (subst (λ x. EachMeans T p x gs) same ns))
    means_once (means_parts e ms) (means_target l m) = absurd (parts_or_lead e l)
    means_once (means_target l m) (means_leaf f) = absurd (leaf_or_lead f l)
    means_once (means_target l m) (means_parts f ns) = absurd (parts_or_lead f l)
    means_once (means_target l m) (means_target {v = w} k n) = means_once m (subst (λ y. Means T y w) (sym (lead_once l k)) n)

    pub each_means_once : {p : Place} {steps : List Step} {es gs : List ValueEntry} → EachMeans T p steps es → EachMeans T p steps gs → es ≡ gs
    each_means_once none_left none_left = refl
    each_means_once (one_more {s = s} m ms) (one_more n ns) =
        let make : Value → ValueEntry = λ v. record { name = s; value = v } in
        ap₂ (λ v es. make v ∷ es) (means_once m n) (each_means_once ms ns)
