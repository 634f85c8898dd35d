-- A first break that is remembered.
use Rattle.std.proofs.Common.{◌≡◌, ℕ, ◌+◌, ◌<◌, ◌≤◌, List, [], ◌∷◌, ◌++◌, Bool, true, false, cond, Option, Some, None, length, refl, sym, ap, ◌∙◌, subst, arith, append_assoc, length-append, inl, inr}
use Rattle.std.proofs.lemmas.Bool.{lt-leb}
use Rattle.std.proofs.lemmas.List.{map-append, length-map}
use Rattle.std.specs.Prelude.{◌≢◌, nat_le}
use Rattle.std.specs.Option.{option_or}
use Rattle.ring.specs.Lists.{In}
use Rattle.name_path.specs.declared.place.Place.{Place}
use Rattle.alias_ref.specs.Written.{WrittenPlaces, is_misspelled}
use Rattle.alias_ref.specs.Visits.{Visit, visit, lost, since, RefBreak, ref_break, most_on_branch, most_visits, break_if, own_break, first_break, walked}
use Rattle.alias_ref.specs.declared.fault.RefRule.TheVariants as rule
use Rattle.alias_ref.specs.Remembered.{below_visit, below, Avoids}
use Rattle.alias_ref.proofs.BranchesAreChains.{Each}
use Rattle.alias_ref.proofs.FirstBreaks.{first-append}
use Rattle.alias_ref.proofs.RememberedWalks.{lacks_since, Each-of, Each-front, sound_of, sound_unbroken, sound_below}
use Rattle.alias_ref.proofs.WalksBelow.{since_behind, Fits, Agree, walked_agree}

module _ (T : WrittenPlaces) (b : List Place) where
  -- what comes before the visit that doesn't fit
  stops_later : (xs : List Visit) (e : Visit) (ys zs : List Visit) (e' : Visit) (ws : List Visit) → xs ++ e ∷ ys ≡ zs ++ e' ∷ ws → Each (Fits b) (xs ++ e ∷ []) → (Fits b e' → ⊥) → (r : List Visit) × (zs ≡ xs ++ e ∷ r)
  stops_later [] e ys [] e' ws is h misfit = let same : e ≡ e' = cc in absurd (misfit (subst (Fits b) same h.0))
  stops_later [] e ys (z ∷ zs) e' ws is h misfit = let same : z ≡ e = cc in (zs, ap (λ x. x ∷ zs) same)
  stops_later (x ∷ xs) e ys [] e' ws is h misfit = let same : x ≡ e' = cc in absurd (misfit (subst (Fits b) same h.0))
  stops_later (x ∷ xs) e ys (z ∷ zs) e' ws is h misfit =
      let rest : xs ++ e ∷ ys ≡ zs ++ e' ∷ ws = cc in
      let same : z ≡ x = cc in
      let k = stops_later xs e ys zs e' ws rest h.1 misfit in
      (k.0, ap (λ y. y ∷ zs) same ∙ ap (λ l. x ∷ l) k.1)

  begins_below : (es es' before after : List Visit) (last : Visit) → Agree T b es es' → es ≡ before ++ last ∷ after → Each (Fits b) (before ++ last ∷ [])
      → (more : List Visit) × (es' ≡ below b before ++ below_visit b last ∷ more)
  begins_below es es' before after last a is fits = elim a as (λ _. (more : List Visit) × (es' ≡ below b before ++ below_visit b last ∷ more)) [
    | inl same ↦ (below b after, same ∙ ap (below b) is ∙ map-append (below_visit b) before (last ∷ after))
    | inr s ↦
        let k = stops_later before last after s.xs (visit s.c s.p) s.ys (sym is ∙ s.is) fits s.unfit in (
          below b k.0 ++ visit (b ++ s.c) s.p ∷ s.ys',
          s.is' ∙ ap (λ l. l ++ visit (b ++ s.c) s.p ∷ s.ys') (ap (below b) k.1 ∙ map-append (below_visit b) before (last ∷ k.0))
              ∙ append_assoc (below b before) (below_visit b last ∷ below b k.0) (visit (b ++ s.c) s.p ∷ s.ys'),
        )
  ]

  own_none : (n k : ℕ) (c : List Place) (x : Place) (br : RefBreak) (t u v : Bool) → is_misspelled (T x) ≡ v → br.rule ≢ rule.Deep → br.rule ≢ rule.Big
      → cond t (Some (ref_break rule.Deep x)) (cond u (Some (ref_break rule.Big x)) (cond v (Some (ref_break rule.RefSyntax x)) None)) ≡ Some br
      → length (b ++ c) < most_on_branch → k < most_visits → break_if T k (b ++ c) x None ≡ Some br
  own_none n k c x br true u v e deep big h room few = let same : ref_break rule.Deep x ≡ br = cc in absurd (deep (sym (ap (λ y. y.rule) same)))
  own_none n k c x br false true v e deep big h room few = let same : ref_break rule.Big x ≡ br = cc in absurd (big (sym (ap (λ y. y.rule) same)))
  own_none n k c x br false false false e deep big h room few = absurd (cc)
  own_none n k c x br false false true e deep big h room few =
      ap (λ y. cond y (Some (ref_break rule.Deep x)) (cond (nat_le most_visits k) (Some (ref_break rule.Big x)) (cond (is_misspelled (T x)) (Some (ref_break rule.RefSyntax x)) None))) (lt-leb most_on_branch (length (b ++ c)) room)
      ∙ ap (λ y. cond y (Some (ref_break rule.Big x)) (cond (is_misspelled (T x)) (Some (ref_break rule.RefSyntax x)) None)) (lt-leb most_visits k few)
      ∙ ap (λ z. cond z (Some (ref_break rule.RefSyntax x)) None) e
      ∙ h

  own_if : (n k : ℕ) (c : List Place) (x : Place) (br : RefBreak) (o : Option (List Place)) → since x c ≡ o → br.rule ≢ rule.Deep → br.rule ≢ rule.Big → break_if T n c x o ≡ Some br
      → since x (b ++ c) ≡ since x c → length (b ++ c) < most_on_branch → k < most_visits → break_if T k (b ++ c) x (since x (b ++ c)) ≡ Some br
  own_if n k c x br (Some r) e deep big h same room few = ap (break_if T k (b ++ c) x) (same ∙ e) ∙ h
  own_if n k c x br None e deep big h same room few =
      ap (break_if T k (b ++ c) x) (same ∙ e) ∙ own_none n k c x br (nat_le most_on_branch (length c)) (nat_le most_visits n) (is_misspelled (T x)) refl deep big h room few

  own_below : (n k : ℕ) (e : Visit) (br : RefBreak) → own_break T n e ≡ Some br → br.rule ≢ rule.Deep → br.rule ≢ rule.Big → Fits b e → k < most_visits → own_break T k (below_visit b e) ≡ Some br
  own_below n k (visit c x) br h deep big fits few =
      own_if n k c x br (since x c) refl deep big h (since_behind x b c fits.0) (omega (arith, fits.1, length-append b c)) few
  own_below n k (lost x) br h deep big fits few = h

  last_of : (xs : List Visit) (e : Visit) → Each (Fits b) (xs ++ e ∷ []) → Fits b e
  last_of [] e h = h.0
  last_of (x ∷ xs) e h = last_of xs e h.1

  fits_from : (es : List Visit) (d : ℕ) → Avoids b es → ((c : List Place) (x : Place) → In (visit c x) es → length c ≤ d) → length b + d < most_on_branch → Each (Fits b) es
  fits_from es d a within room = Each-of (Fits b) es one
    where
      one : (e : Visit) → In e es → Fits b e
      one (visit c x) i = (lacks_since (a c x i), omega (arith, room, within c x i))
      one (lost p) i = tt

  pub remembered_fault : (p : Place) (before after : List Visit) (last : Visit) (d k : ℕ) (br : RefBreak)
      → walked T [] p ≡ before ++ last ∷ after → first_break T 0 before ≡ None → own_break T (length before) last ≡ Some br → br.rule ≢ rule.Deep → br.rule ≢ rule.Big
      → Avoids b (before ++ last ∷ []) → ((c : List Place) (x : Place) → In (visit c x) (before ++ last ∷ []) → length c ≤ d) → length b + d < most_on_branch → k + length before < most_visits
      → first_break T k (walked T b p) ≡ Some br
  unfolding first_break
  remembered_fault p before after last d k br is clean own deep big a within room few =
      let fits = fits_from (before ++ last ∷ []) d a within room in
      let begins = begins_below (walked T [] p) (walked T b p) before after last (walked_agree T b p (omega (arith, room))) is fits in
      let front = Each-front (Fits b) before (last ∷ []) fits in
      let count : length (below b before) ≡ length before = length-map before (below_visit b) in
      let none : first_break T k (below b before) ≡ None =
      sound_unbroken T k (below b before) (sound_below T b before (sound_of T 0 before clean) front) (omega (arith, few, count)) in
      let here : own_break T (k + length (below b before)) (below_visit b last) ≡ Some br =
      own_below (length before) (k + length (below b before)) last br own deep big (last_of before last fits) (omega (arith, few, count)) in
      ap (first_break T k) begins.1
      ∙ first-append T k (below b before) (below_visit b last ∷ begins.0)
      ∙ ap (λ o. option_or o (first_break T (k + length (below b before)) (below_visit b last ∷ begins.0))) none
      ∙ ap (λ o. option_or o (first_break T ((k + length (below b before)) + 1) begins.0)) here
