-- Where places settle and lead by hops, and which hops hold.
use Rattle.std.proofs.Common.{◌≡◌, ℕ, ◌+◌, List, [], ◌∷◌, ◌++◌, inl, inr, refl, sym, ap, ◌∙◌, subst, Bool, true, false, Option, Some, None, length, take, drop, get_or, drop-cons, add-one, zero, suc, ◌<◌, ◌≤◌, arith}
use Rattle.std.specs.Prelude.{Result, Ok, Err, IfOk, OnOk, ◌⊎◌}
use Rattle.std.specs.List.{AllByRecursion}
use Rattle.std.proofs.lemmas.List.{append_assoc, take_more}
use Rattle.name_path.specs.declared.place.Place.{Place}
use Rattle.ring.specs.Lists.{In, AreApart}
use Rattle.alias_ref.specs.Written.{Step, Written, refers, misspelled, WrittenPlaces, whole, part, written_in, is_written, is_reference}
use Rattle.alias_ref.specs.Laws.{Flat}
use Rattle.certificates.specs.declared.certificate.Hop.{Hop}
use Rattle.explain.specs.Following.{starts_of}
use Rattle.explain.specs.Validity.{SettlesBy, GoesBy, arrived, onward, LeadsBy, leads, EachLeads, IsSpotIn}
use Rattle.explain.specs.inner.Holding.{StepsTo, GoesFrom, EachHolds}
use Rattle.explain.specs.inner.Saying.{Says}
use Rattle.explain.specs.declared.saying.Said.{Said}
use Rattle.explain.specs.declared.saying.Said.TheVariants as said
use Rattle.explain.proofs.HopsFollowed.{one_end, apart_push, starts_joined}

pub none_if : {A : Type 0} (o : Option A) → ((x : A) → o ≡ Some x → ⊥) → o ≡ None
none_if None h = refl
none_if (Some x) h = absurd (h x refl)

pub ok_more : {E : Type 0} (r : Result Bool E) (P Q : Bool → Type 0) → ((b : Bool) → P b → Q b) → IfOk r P → IfOk r Q
ok_more (Ok b) P Q f p = f b p
ok_more (Err e) P Q f p = tt

pub ok_both : {E : Type 0} (r : Result Bool E) (P Q R : Bool → Type 0) → ((b : Bool) → P b → Q b → R b) → IfOk r P → IfOk r Q → IfOk r R
ok_both (Ok b) P Q R f p q = f b p q
ok_both (Err e) P Q R f p q = tt

pub on_ok : {A E : Type 0} (r : Result A E) (P Q : Type 0) → (P → Q) → OnOk r P → OnOk r Q
on_ok (Ok x) P Q f p = f p
on_ok (Err e) P Q f p = tt

-- what is no well-spelled reference
pub no_refers : (s : Said) (w : Option Written) → ((p : Place) → s ≡ said.Refers p → ⊥) → Says s w → (w ≡ Some misspelled) ⊎ (is_reference w ≡ false)
no_refers (said.Refers p) w none says = absurd (none p refl)
no_refers said.Misspelled w none says = inl says
no_refers said.Other w none says = inr says

pub not_false : (b : Bool) → (b ≡ false → ⊥) → b ≡ true
not_false true h = refl
not_false false h = absurd (h refl)

pub taken_one : (xs : List Hop) (i : ℕ) (x : Hop) → i < length xs → x ≡ get_or xs i x → take (i + 1) xs ≡ take i xs ++ x ∷ []
taken_one xs i x h e = take_more xs i x h ∙ ap (λ y. take i xs ++ y ∷ []) (sym e)

pub left_one : (xs : List Hop) (i : ℕ) (x : Hop) → i < length xs → x ≡ get_or xs i x → drop i xs ≡ x ∷ drop (i + 1) xs
left_one xs i x h e = drop-cons xs i x h ∙ ap (λ k. get_or xs i x ∷ drop k xs) (sym (add-one i)) ∙ ap (λ y. y ∷ drop (i + 1) xs) (sym e)

pub all_taken : (xs : List Hop) (i : ℕ) → (i < length xs → ⊥) → i ≤ length xs → (take i xs ≡ xs) × (drop i xs ≡ [])
all_taken [] zero h k = (refl, refl)
all_taken [] (suc i) h k = (refl, refl)
all_taken (x ∷ xs) zero h k = absurd (h (omega arith))
all_taken (x ∷ xs) (suc i) h k = let r = all_taken xs i (λ j. h (omega (arith, j))) (omega (arith, k)) in (ap (λ ys. x ∷ ys) r.0, r.1)

pub true_false : {A : Type 0} → true ≡ false → A
true_false e = absurd (cc)

module _ (T : WrittenPlaces) (hops : List Hop) (apart : AreApart (starts_of hops)) where
  pub settles_once : {p q r : Place} → SettlesBy T hops p q → SettlesBy T hops p r → q ≡ r
  settles_once s t = one_end hops apart s.reached t.reached

  pub goes_once : {p q r : Place} {steps : List Step} → GoesBy T hops p steps q → GoesBy T hops p steps r → q ≡ r
  goes_once arrived arrived = refl
  goes_once {r = r} (onward {s = step} {steps = steps} s w more) (onward t v other) =
      goes_once more (subst (λ x. GoesBy T hops (part x step) steps r) (settles_once t s) other)

  -- a step is gone
  pub step_back : {p q r : Place} {s : Step} {steps : List Step} → StepsTo T hops p s q → GoesBy T hops q steps r → GoesBy T hops p (s ∷ steps) r
  step_back {r = r} {s = s} {steps = steps} t more =
      onward t.settles (subst (λ x. is_written (T x) ≡ true) t.place t.written) (subst (λ x. GoesBy T hops x steps r) t.place more)

  pub step_front : {p q r : Place} {s : Step} {steps : List Step} → StepsTo T hops p s q → GoesBy T hops p (s ∷ steps) r → GoesBy T hops q steps r
  step_front {r = r} {s = s} {steps = steps} t (onward settles w more) =
      subst (λ x. GoesBy T hops x steps r) (ap (λ x. part x s) (settles_once settles t.settles) ∙ sym t.place) more

  pub no_step : {p r : Place} {s : Step} {steps : List Step} → ((q : Place) → StepsTo T hops p s q → ⊥) → GoesBy T hops p (s ∷ steps) r → ⊥
  no_step {s = s} none (onward {q = q} settles w more) = none (part q s) (record { settled = q; settles = settles; place = refl; written = w })

  -- a place that settles where no further step is written
  pub not_on : {p q : Place} {s : Step} → SettlesBy T hops p q → is_written (T (part q s)) ≡ false → (r : Place) → StepsTo T hops p s r → ⊥
  not_on {s = s} settles absent r t =
      let same : t.settled ≡ _ = settles_once t.settles settles in
      true_false (sym t.written ∙ ap (λ x. is_written (T x)) (t.place ∙ ap (λ x. part x s) same) ∙ absent)

  pub on : {p q : Place} {s : Step} → SettlesBy T hops p q → is_written (T (part q s)) ≡ true → StepsTo T hops p s (part q s)
  on {q = q} settles w = record { settled = q; settles = settles; place = refl; written = w }

-- a reference and what it names
module _ (T : WrittenPlaces) (hops : List Hop) where
  pub leads_from : (p n q : Place) → T p ≡ Some (refers n.token n.trail) → GoesFrom T hops n q → LeadsBy T hops p q
  leads_from p n q e g = leads e g.token g.steps

  named_token : (a b c d : List Step) → Some (refers a b) ≡ Some (refers c d) → a ≡ c
  named_token a b c d e = cc

  named_steps : (a b c d : List Step) → Some (refers a b) ≡ Some (refers c d) → b ≡ d
  named_steps a b c d e = cc

  pub from_leads : (p n q : Place) → T p ≡ Some (refers n.token n.trail) → LeadsBy T hops p q → GoesFrom T hops n q
  from_leads p n q e (leads {token = t} {steps = steps} f w more) =
      let token = named_token t steps n.token n.trail (sym f ∙ e) in
      let trail = named_steps t steps n.token n.trail (sym f ∙ e) in
      record { token = subst (λ x. is_written (T (whole x)) ≡ true) token w; steps = subst (λ x. GoesBy T hops (whole x) n.trail q) token (subst (λ x. GoesBy T hops (whole t) x q) trail more) }

  pub leads_nowhere : (p q : Place) → ((token steps : List Step) → T p ≡ Some (refers token steps) → ⊥) → LeadsBy T hops p q → ⊥
  leads_nowhere p q none (leads {token = t} {steps = steps} f w more) = none t steps f

-- each hop holds behind those before it
module _ (flat : Flat) where
  apart_on : (before hops : List Hop) → EachHolds flat before hops → AreApart (starts_of before) → AreApart (starts_of (before ++ hops))
  apart_on before [] e a = subst (λ hs. AreApart (starts_of hs)) (sym (append_nil before)) a
    where
      append_nil : (xs : List Hop) → xs ++ [] ≡ xs
      append_nil [] = refl
      append_nil (x ∷ xs) = ap (λ ys. x ∷ ys) (append_nil xs)
  apart_on before (h ∷ hops) e a =
      let more = subst AreApart (sym (starts_joined before (h ∷ []))) (apart_push (starts_of before) h.spot.place a e.0.fresh) in
      subst (λ hs. AreApart (starts_of hs)) (append_assoc before (h ∷ []) hops) (apart_on (before ++ h ∷ []) hops e.1 more)

  pub are_apart : (hops : List Hop) → EachHolds flat [] hops → AreApart (starts_of hops)
  are_apart hops e = apart_on [] hops e tt

  pub each_leads : (before hops : List Hop) → EachHolds flat before hops → EachLeads (written_in flat) before hops
  each_leads before [] e = tt
  each_leads before (h ∷ hops) e = (e.0.leads, each_leads (before ++ h ∷ []) hops e.1)

  pub each_spot : (before hops : List Hop) → EachHolds flat before hops → AllByRecursion (λ (h : Hop). IsSpotIn flat h.spot) hops
  each_spot before [] e = tt
  each_spot before (h ∷ hops) e = (e.0.spot, each_spot (before ++ h ∷ []) hops e.1)

  apart_fresh : (xs : List Place) (x : Place) (ys : List Place) → AreApart (xs ++ x ∷ ys) → In x xs → ⊥
  apart_fresh (y ∷ xs) x ys a (inl e) = a.0 (subst (λ z. In z (xs ++ x ∷ ys)) e (in_middle xs x ys))
    where
      in_middle : (zs : List Place) (z : Place) (ws : List Place) → In z (zs ++ z ∷ ws)
      in_middle [] z ws = inl refl
      in_middle (w ∷ zs) z ws = inr (in_middle zs z ws)
  apart_fresh (y ∷ xs) x ys a (inr i) = apart_fresh xs x ys a.1 i
  apart_fresh [] x ys a i = i

  pub each_holds : (before hops : List Hop) → AreApart (starts_of (before ++ hops)) → EachLeads (written_in flat) before hops → AllByRecursion (λ (h : Hop). IsSpotIn flat h.spot) hops → EachHolds flat before hops
  each_holds before [] a l s = tt
  each_holds before (h ∷ hops) a l s = (
    record {
      fresh = apart_fresh (starts_of before) h.spot.place (starts_of hops) (subst AreApart (starts_joined before (h ∷ hops)) a);
      leads = l.0;
      spot = s.0;
    },
    each_holds (before ++ h ∷ []) hops (subst (λ hs. AreApart (starts_of hs)) (sym (append_assoc before (h ∷ []) hops)) a) l.1 s.1,
  )

  pub fresh_of : (hops : List Hop) (h : Hop) → AreApart (starts_of (hops ++ h ∷ [])) → In h.spot.place (starts_of hops) → ⊥
  fresh_of hops h a = apart_fresh (starts_of hops) h.spot.place [] (subst AreApart (starts_joined hops (h ∷ [])) a)

  pub all_hold : (hops : List Hop) → AreApart (starts_of hops) → EachLeads (written_in flat) [] hops → AllByRecursion (λ (h : Hop). IsSpotIn flat h.spot) hops → EachHolds flat [] hops
  all_hold hops a l s = each_holds [] hops a l s
