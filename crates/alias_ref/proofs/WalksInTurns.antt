-- What the turns of the walk add to the entries seen.
use Rattle.std.proofs.Common.{◌≡◌, ℕ, ◌+◌, ◌<◌, List, [], ◌∷◌, ◌++◌, Bool, true, false, Option, Some, None, refl, sym, ap, ◌∙◌, subst, append_assoc, append-nil, length, get_or, drop}
use Rattle.name_path.specs.declared.place.Place.{Place}
use Rattle.json_span.specs.PlainView.{Value}
use Rattle.alias_ref.specs.Written.{Step, Written, leaf, refers, WrittenPlaces, whole, part, is_reference, is_written}
use Rattle.alias_ref.specs.Visits.{Visit, visit, lost, Way, ends_at, after_visits, goes_on, then_go, go_if, steps_from, way_of, settled, settle_by, pass_written, at_end, walk_written, RefBreak, ref_break, own_break, first_break, walked, passed}
use Rattle.alias_ref.specs.declared.fault.RefRule.TheVariants as rule
use Rattle.std.specs.Prelude.{Result, Ok, Err, IfOk, IfErr, OnOk}
use Rattle.alias_ref.specs.inner.Seen.{Clean, IsFault, IsLost, Sees}
use Rattle.alias_ref.specs.declared.fault.RefFault.{RefFault}
use Rattle.alias_ref.specs.declared.fault.RefFault.TheVariants as faults
use Rattle.alias_ref.specs.declared.spot.Spot.{Spot}
use Rattle.alias_ref.proofs.TracesGrow.{drop_at}
use Rattle.alias_ref.proofs.FirstBreaks.{clean_nil, clean_entry, clean_append, fault_later, fault_first, enters, walked-enters, passed-enters}

pub goes_on-front : (xs : List Visit) (o : Option Place) (next : Place → Way) → (es : List Visit) × ((goes_on xs o next).seen ≡ xs ++ es)
goes_on-front xs None next = ([], sym (append-nil xs))
goes_on-front xs (Some q) next = ((next q).seen, refl)

pub at_end-front : (xs : List Visit) (o : Option Place) (walk : Place → List Visit) → (es : List Visit) × (at_end xs o walk ≡ xs ++ es)
at_end-front xs None walk = ([], sym (append-nil xs))
at_end-front xs (Some q) walk = (walk q, refl)

joined-joined : (xs ys : List Visit) (w : Way) → after_visits xs (after_visits ys w) ≡ after_visits (xs ++ ys) w
joined-joined xs ys w = let make : List Visit → Way = λ es. record { seen = es; ends = w.ends } in ap make (sym (append_assoc xs ys w.seen))

pub on_ok : {X E : Type 0} (r : Result X E) {P : Type 0} → P → OnOk r P
on_ok (Ok x) h = h
on_ok (Err e) h = tt

module _ (T : WrittenPlaces) where
  lost_breaks : (n : ℕ) (p : Place) → first_break T n (lost p ∷ []) ≡ Some (ref_break rule.RefTarget p)
  unfolding first_break
  lost_breaks n p = refl

  breaks_behind : {n m : ℕ} (xs : List Visit) (p : Place) → Clean T n m xs → first_break T n (xs ++ lost p ∷ []) ≡ Some (ref_break rule.RefTarget p)
  breaks_behind {n} {m} xs p c = fault_later T (faults.Broken rule.RefTarget p []) xs (lost p ∷ []) c (lost_breaks m p)

  -- the names of the ways of a reference
  -- the fault of a lost target, where the first break is that
  pub lost_told : (f : RefFault) (home : Place) {why : Type 0} (b : Option RefBreak) → IsLost f home why → (why → b ≡ Some (ref_break rule.RefTarget home)) → IsFault f b
  lost_told (faults.Broken r p ring) home b (h, w) told = told w ∙ h
  lost_told faults.NoMemory home b h told = tt

  pub way_lost : (settle : Place → Way) (home : Place) (t : List Step) (steps : List Step) (n : ℕ) → is_written (T (whole t)) ≡ false → first_break T n (way_of T settle home t steps).seen ≡ Some (ref_break rule.RefTarget home)
  way_lost settle home t steps n h = ap (λ b. first_break T n (go_if b home (steps_from T settle home (whole t) steps)).seen) h ∙ lost_breaks n home

  pub way_found : (settle : Place → Way) (home : Place) (t : List Step) (steps : List Step) → is_written (T (whole t)) ≡ true → way_of T settle home t steps ≡ steps_from T settle home (whole t) steps
  way_found settle home t steps h = ap (λ b. go_if b home (steps_from T settle home (whole t) steps)) h

  module _ (settle : Place → Way) (home : Place) where
    steps_on : (p q : Place) (s : Step) (steps : List Step) (b : Bool) → (settle p).ends ≡ Some q → is_written (T (part q s)) ≡ b → steps_from T settle home p (s ∷ steps) ≡ after_visits (settle p).seen (go_if b home (steps_from T settle home (part q s) steps))
    unfolding steps_from
    steps_on p q s steps b e w =
        let next : Place → Way = λ x. go_if (is_written (T (part x s))) home (steps_from T settle home (part x s) steps) in
        ap (λ o. goes_on (settle p).seen o next) e ∙ ap (λ x. after_visits (settle p).seen (go_if x home (steps_from T settle home (part q s) steps))) w

    steps_front : (p : Place) (s : Step) (steps : List Step) → (es : List Visit) × ((steps_from T settle home p (s ∷ steps)).seen ≡ (settle p).seen ++ es)
    unfolding steps_from
    steps_front p s steps = goes_on-front (settle p).seen (settle p).ends (λ x. go_if (is_written (T (part x s))) home (steps_from T settle home (part x s) steps))

    steps_none : (p : Place) → steps_from T settle home p [] ≡ ends_at p
    unfolding steps_from
    steps_none p = refl

    -- without steps
    pub way_here : (t steps : List Step) → steps ≡ [] → is_written (T (whole t)) ≡ true → way_of T settle home t steps ≡ ends_at (whole t)
    way_here t steps e h = way_found settle home t steps h ∙ ap (steps_from T settle home (whole t)) e ∙ steps_none (whole t)

    -- one step, and then the others
    one_case : (xs : List Visit) (o : Option Place) (s : Step) (rest : List Step)
        → goes_on xs o (λ q. go_if (is_written (T (part q s))) home (steps_from T settle home (part q s) rest))
        ≡ then_go (goes_on xs o (λ q. go_if (is_written (T (part q s))) home (ends_at (part q s)))) (λ q. steps_from T settle home q rest)
    one_case xs None s rest = refl
    one_case xs (Some q) s rest = go (is_written (T (part q s)))
      where
        go : (b : Bool) → after_visits xs (go_if b home (steps_from T settle home (part q s) rest)) ≡ then_go (after_visits xs (go_if b home (ends_at (part q s)))) (λ x. steps_from T settle home x rest)
        go true = ap (λ ys. after_visits ys (steps_from T settle home (part q s) rest)) (sym (append-nil xs))
        go false = refl

    one_step : (p : Place) (s : Step) (rest : List Step) → steps_from T settle home p (s ∷ rest) ≡ then_go (steps_from T settle home p (s ∷ [])) (λ q. steps_from T settle home q rest)
    unfolding steps_from
    one_step p s rest = one_case (settle p).seen (settle p).ends s rest

    module _ (w : Way) (p : Place) (s : Step) (rest : List Step) {n m : ℕ} (es : List Visit) (clean : Clean T n m es) (so_far : after_visits es (steps_from T settle home p (s ∷ rest)) ≡ w) where
      pub step_fault : (f : RefFault) → IsFault f (first_break T m (steps_from T settle home p (s ∷ [])).seen) → IsFault f (first_break T n w.seen)
      step_fault f b =
          let one = steps_from T settle home p (s ∷ []) in
          let front = goes_on-front one.seen one.ends (λ q. steps_from T settle home q rest) in
          let all : (steps_from T settle home p (s ∷ rest)).seen ≡ one.seen ++ front.0 = ap (λ x. x.seen) (one_step p s rest) ∙ front.1 in
          let k = fault_later T f es (steps_from T settle home p (s ∷ rest)).seen clean
          (subst (λ xs. IsFault f (first_break T m xs)) (sym all) (fault_first T f m one.seen front.0 b)) in
          subst (λ x. IsFault f (first_break T n x.seen)) so_far k

      pub step_on : (q : Place) → (steps_from T settle home p (s ∷ [])).ends ≡ Some q → after_visits (es ++ (steps_from T settle home p (s ∷ [])).seen) (steps_from T settle home q rest) ≡ w
      step_on q e =
          let one = steps_from T settle home p (s ∷ []) in
          let on : steps_from T settle home p (s ∷ rest) ≡ after_visits one.seen (steps_from T settle home q rest) = one_step p s rest ∙ ap (λ o. goes_on one.seen o (λ x. steps_from T settle home x rest)) e in
          sym (joined-joined es one.seen (steps_from T settle home q rest)) ∙ ap (after_visits es) (sym on) ∙ so_far

    -- a turn of the loop over the steps
    module _ (w : Way) (p : Place) (s : Step) (rest : List Step) {n m : ℕ} (es : List Visit) (clean : Clean T n m es) (so_far : after_visits es (steps_from T settle home p (s ∷ rest)) ≡ w) where
      pub turn_fault : (f : RefFault) → IsFault f (first_break T m (settle p).seen) → IsFault f (first_break T n w.seen)
      turn_fault f b =
          let front = steps_front p s rest in
          let k = fault_later T f es (steps_from T settle home p (s ∷ rest)).seen clean
          (subst (λ xs. IsFault f (first_break T m xs)) (sym front.1) (fault_first T f m (settle p).seen front.0 b)) in
          subst (λ x. IsFault f (first_break T n x.seen)) so_far k

      pub turn_lost : (q : Place) {k : ℕ} → Clean T m k (settle p).seen → (settle p).ends ≡ Some q → is_written (T (part q s)) ≡ false → first_break T n w.seen ≡ Some (ref_break rule.RefTarget home)
      turn_lost q c e u =
          let on = ap (after_visits es) (sym (steps_on p q s rest false e u)) ∙ so_far in
          let all = joined-joined es (settle p).seen (record { seen = lost home ∷ []; ends = None }) in
          ap (λ x. first_break T n x.seen) (sym on ∙ all) ∙ breaks_behind (es ++ (settle p).seen) home (clean_append T es (settle p).seen clean c)

      pub turn_on : (q : Place) → (settle p).ends ≡ Some q → is_written (T (part q s)) ≡ true → after_visits (es ++ (settle p).seen) (steps_from T settle home (part q s) rest) ≡ w
      turn_on q e u = sym (joined-joined es (settle p).seen (steps_from T settle home (part q s) rest)) ∙ ap (after_visits es) (sym (steps_on p q s rest true e u)) ∙ so_far

    -- the next turn of the loop, below the branch that it began with
    pub next_steps : {w : Way} (p : Place) (es : List Visit) (steps : List Step) (i : ℕ) {s : Step} → i < length steps → s ≡ get_or steps i s → after_visits es (steps_from T settle home p (drop i steps)) ≡ w → after_visits es (steps_from T settle home p (s ∷ drop (i + 1) steps)) ≡ w
    next_steps p es steps i {s} h e so_far = ap (λ xs. after_visits es (steps_from T settle home p xs)) (sym (drop_at steps i s h e)) ∙ so_far

    pub turns_done : (w : Way) (p : Place) (es : List Visit) → after_visits es (steps_from T settle home p []) ≡ w → w ≡ record { seen = es; ends = Some p }
    turns_done w p es so_far =
        let make : List Visit → Way = λ xs. record { seen = xs; ends = Some p } in
        sym so_far ∙ ap (after_visits es) (steps_none p) ∙ ap make (append-nil es)

  -- a step from where a place settles
  pub next_seen : (settle : Place → Way) (home p q : Place) (s : Step) {n m : ℕ} (r : Result Spot RefFault) {P : Spot → Type 0} {why : Type 0}
      → Clean T n m (settle p).seen → (settle p).ends ≡ Some q → IfOk r (λ x. x.place ≡ part q s) → IfOk r P → ((x : Spot) → P x → is_written (T x.place) ≡ true) → IfErr r (λ f. IsLost f home why) → (why → is_written (T (part q s)) ≡ false)
      → Sees T (steps_from T settle home p (s ∷ [])).seen n m r × IfOk r (λ e. (steps_from T settle home p (s ∷ [])).ends ≡ Some e.place)
  next_seen settle home p q s {n} {m} (Ok x) c e place is written told gone =
      let way = steps_from T settle home p (s ∷ []) in
      let on = turn_on settle home way p s [] [] (clean_nil T n) refl q e (subst (λ y. is_written (T y) ≡ true) place (written x is)) in
      let done = turns_done settle home way (part q s) (settle p).seen on in
      (subst (λ (w : Way). Clean T n m w.seen) (sym done) c, ap (λ w. w.ends) done ∙ ap Some (sym place))
  next_seen settle home p q s {n} {m} (Err f) c e place is written told gone =
      let way = steps_from T settle home p (s ∷ []) in
      (lost_told f home (first_break T n way.seen) told (λ h. turn_lost settle home way p s [] [] (clean_nil T n) refl q c e (gone h)), tt)

  -- a visit that doesn't break, and what it asks for
  module _ (n : ℕ) (b b' : List Place) (p : Place) (s : Written) {m : ℕ} (is : T p ≡ Some s) (own : own_break T n (visit b p) ≡ None) (more : b' ≡ b ++ p ∷ []) (one : m ≡ n + 1) where
    entered : Clean T n m (visit b p ∷ [])
    entered = subst (λ k. Clean T n k (visit b p ∷ [])) (sym one) (clean_entry T n (visit b p) own)

    pass_is : passed T b p ≡ after_visits (visit b p ∷ []) (pass_written T (settle_by T (passed T b')) p (Some s))
    pass_is = passed-enters T b p (Some s) (enters T n b p own) is ∙ ap (λ x. after_visits (visit b p ∷ []) (pass_written T (settle_by T (passed T x)) p (Some s))) (sym more)

    walk_is : walked T b p ≡ visit b p ∷ walk_written T (settle_by T (passed T b')) (walked T b') p (Some s)
    walk_is = walked-enters T b p (Some s) (enters T n b p own) is ∙ ap (λ x. visit b p ∷ walk_written T (settle_by T (passed T x)) (walked T x) p (Some s)) (sym more)

    pub pass_fault : (f : RefFault) → IsFault f (first_break T m (pass_written T (settle_by T (passed T b')) p (Some s)).seen) → IsFault f (first_break T n (passed T b p).seen)
    pass_fault f h = subst (λ w. IsFault f (first_break T n w.seen)) (sym pass_is) (fault_later T f (visit b p ∷ []) (pass_written T (settle_by T (passed T b')) p (Some s)).seen entered h)

    pub pass_clean : {k : ℕ} → Clean T m k (pass_written T (settle_by T (passed T b')) p (Some s)).seen → Clean T n k (passed T b p).seen
    pass_clean {k} h = subst (λ w. Clean T n k w.seen) (sym pass_is) (clean_append T (visit b p ∷ []) (pass_written T (settle_by T (passed T b')) p (Some s)).seen entered h)

    pub pass_ends : (q : Place) → (pass_written T (settle_by T (passed T b')) p (Some s)).ends ≡ Some q → (passed T b p).ends ≡ Some q
    pass_ends q h = ap (λ w. w.ends) pass_is ∙ h

    pub walk_fault : (f : RefFault) → IsFault f (first_break T m (walk_written T (settle_by T (passed T b')) (walked T b') p (Some s))) → IsFault f (first_break T n (walked T b p))
    walk_fault f h = subst (λ w. IsFault f (first_break T n w)) (sym walk_is) (fault_later T f (visit b p ∷ []) (walk_written T (settle_by T (passed T b')) (walked T b') p (Some s)) entered h)

    pub walk_clean : {k : ℕ} → Clean T m k (walk_written T (settle_by T (passed T b')) (walked T b') p (Some s)) → Clean T n k (walked T b p)
    walk_clean {k} h = subst (λ w. Clean T n k w) (sym walk_is) (clean_append T (visit b p ∷ []) (walk_written T (settle_by T (passed T b')) (walked T b') p (Some s)) entered h)

    pub walk_sees : {X : Type 0} (k : ℕ) (r : Result X RefFault) → Sees T (walk_written T (settle_by T (passed T b')) (walked T b') p (Some s)) m k r → Sees T (walked T b p) n k r
    walk_sees k (Ok x) h = walk_clean h
    walk_sees k (Err f) h = walk_fault f h

  -- a leaf asks for no visit
  pub leaf_clean : {n m : ℕ} (b : List Place) (p : Place) (v : Value) → T p ≡ Some (leaf v) → own_break T n (visit b p) ≡ None → m ≡ n + 1 → Clean T n m (walked T b p)
  leaf_clean {n} {m} b p v is own one = walk_clean n b (b ++ p ∷ []) p (leaf v) is own refl one (clean_nil T m)

  -- a reference, when it is passed
  pub refers_fault : (f : RefFault) (n : ℕ) (settle : Place → Way) (p : Place) (t : List Step) (steps : List Step) → IsFault f (first_break T n (way_of T settle p t steps).seen) → IsFault f (first_break T n (pass_written T settle p (Some (refers t steps))).seen)
  refers_fault f n settle p t steps h =
      let w : Way = way_of T settle p t steps in
      let k = goes_on-front w.seen w.ends settle in
      subst (λ xs. IsFault f (first_break T n xs)) (sym k.1) (fault_first T f n w.seen k.0 h)

  pub refers_on : (settle : Place → Way) (p q : Place) (t : List Step) (steps : List Step) → (way_of T settle p t steps).ends ≡ Some q → pass_written T settle p (Some (refers t steps)) ≡ after_visits (way_of T settle p t steps).seen (settle q)
  refers_on settle p q t steps h = ap (λ o. goes_on (way_of T settle p t steps).seen o settle) h

  pub refers_then_fault : (f : RefFault) {n m : ℕ} (settle : Place → Way) (p q : Place) (t : List Step) (steps : List Step) → (way_of T settle p t steps).ends ≡ Some q → Clean T n m (way_of T settle p t steps).seen → IsFault f (first_break T m (settle q).seen) → IsFault f (first_break T n (pass_written T settle p (Some (refers t steps))).seen)
  refers_then_fault f {n} settle p q t steps e c h = subst (λ w. IsFault f (first_break T n w.seen)) (sym (refers_on settle p q t steps e)) (fault_later T f (way_of T settle p t steps).seen (settle q).seen c h)

  pub refers_clean : {n m k : ℕ} (settle : Place → Way) (p q : Place) (t : List Step) (steps : List Step) → (way_of T settle p t steps).ends ≡ Some q → Clean T n m (way_of T settle p t steps).seen → Clean T m k (settle q).seen → Clean T n k (pass_written T settle p (Some (refers t steps))).seen
  refers_clean {n} {m} {k} settle p q t steps e c d = subst (λ w. Clean T n k w.seen) (sym (refers_on settle p q t steps e)) (clean_append T (way_of T settle p t steps).seen (settle q).seen c d)

  -- a reference, when it is walked
  pub target_fault : (f : RefFault) (n : ℕ) (settle : Place → Way) (walk : Place → List Visit) (p : Place) (t : List Step) (steps : List Step) → IsFault f (first_break T n (way_of T settle p t steps).seen) → IsFault f (first_break T n (walk_written T settle walk p (Some (refers t steps))))
  target_fault f n settle walk p t steps h =
      let w : Way = way_of T settle p t steps in
      let k = at_end-front w.seen w.ends walk in
      subst (λ xs. IsFault f (first_break T n xs)) (sym k.1) (fault_first T f n w.seen k.0 h)

  target_on : (settle : Place → Way) (walk : Place → List Visit) (p q : Place) (t : List Step) (steps : List Step) → (way_of T settle p t steps).ends ≡ Some q → walk_written T settle walk p (Some (refers t steps)) ≡ (way_of T settle p t steps).seen ++ walk q
  target_on settle walk p q t steps h = ap (λ o. at_end (way_of T settle p t steps).seen o walk) h

  pub target_then_fault : (f : RefFault) {n m : ℕ} (settle : Place → Way) (walk : Place → List Visit) (p q : Place) (t : List Step) (steps : List Step) → (way_of T settle p t steps).ends ≡ Some q → Clean T n m (way_of T settle p t steps).seen → IsFault f (first_break T m (walk q)) → IsFault f (first_break T n (walk_written T settle walk p (Some (refers t steps))))
  target_then_fault f {n} settle walk p q t steps e c h = subst (λ w. IsFault f (first_break T n w)) (sym (target_on settle walk p q t steps e)) (fault_later T f (way_of T settle p t steps).seen (walk q) c h)

  pub target_clean : {n m k : ℕ} (settle : Place → Way) (walk : Place → List Visit) (p q : Place) (t : List Step) (steps : List Step) → (way_of T settle p t steps).ends ≡ Some q → Clean T n m (way_of T settle p t steps).seen → Clean T m k (walk q) → Clean T n k (walk_written T settle walk p (Some (refers t steps)))
  target_clean {n} {m} {k} settle walk p q t steps e c d = subst (λ w. Clean T n k w) (sym (target_on settle walk p q t steps e)) (clean_append T (way_of T settle p t steps).seen (walk q) c d)

  pub settle_passes : (pass : Place → Way) (p : Place) → is_reference (T p) ≡ true → settle_by T pass p ≡ pass p
  settle_passes pass p h = ap (λ b. settled b pass p) h

  pub settle_stays : (pass : Place → Way) (p : Place) → is_reference (T p) ≡ false → settle_by T pass p ≡ ends_at p
  settle_stays pass p h = ap (λ b. settled b pass p) h

  -- what settling a place saw, and where it ended, below the same branch
  pub settled_below : {b branch : List Place} (p : Place) {q : Place} {n m : ℕ} → b ≡ branch → Clean T n m (settle_by T (passed T b) p).seen → (settle_by T (passed T b) p).ends ≡ Some q → Clean T n m (settle_by T (passed T branch) p).seen × ((settle_by T (passed T branch) p).ends ≡ Some q)
  settled_below p {q} {n} {m} e c h = subst (λ x. Clean T n m (settle_by T (passed T x) p).seen × ((settle_by T (passed T x) p).ends ≡ Some q)) e (c, h)

  -- what was seen of some entries tells what was seen of others
  pub sees_by : {X : Type 0} {n m k : ℕ} (xs ys : List Visit) (r : Result X RefFault) → (Clean T m k xs → Clean T n k ys) → ((f : RefFault) → IsFault f (first_break T m xs) → IsFault f (first_break T n ys)) → Sees T xs m k r → Sees T ys n k r
  sees_by xs ys (Ok x) c d h = c h
  sees_by xs ys (Err f) c d h = d f h
