-- The first break in lists that are joined.
use Rattle.std.proofs.Common.{◌≡◌, ℕ, zero, suc, ◌+◌, ◌-◌, ◌<◌, List, [], ◌∷◌, ◌++◌, Bool, true, false, cond, Option, Some, None, length, refl, sym, ap, ap₂, ◌∙◌, subst, arith, length-append}
use Rattle.std.proofs.lemmas.Bool.{lt-leb}
use Rattle.std.specs.Prelude.{is_some, nat_le}
use Rattle.std.specs.Option.{option_or}
use Rattle.name_path.specs.declared.place.Place.{Place}
use Rattle.alias_ref.specs.Written.{Written, WrittenPlaces, is_misspelled}
use Rattle.alias_ref.specs.Visits.{Visit, visit, after_visits, since, settle_by, pass_written, unless_stands, pass_visits, walk_written, walk_visits, RefBreak, ref_break, most_on_branch, most_visits, break_if, own_break, first_break, walked, passed}
use Rattle.alias_ref.specs.declared.fault.RefRule.TheVariants as rule
use Rattle.alias_ref.specs.inner.Seen.{Clean, IsFault}
use Rattle.alias_ref.specs.declared.fault.RefFault.{RefFault}
use Rattle.alias_ref.specs.declared.fault.RefFault.TheVariants as faults

or_assoc : (a b c : Option RefBreak) → option_or (option_or a b) c ≡ option_or a (option_or b c)
or_assoc (Some x) b c = refl
or_assoc None b c = refl

pub or_none : (a b : Option RefBreak) → option_or a b ≡ None → (a ≡ None) × (b ≡ None)
or_none (Some x) b h = cc
or_none None b h = (refl, h)

module _ (T : WrittenPlaces) where
  pub first-append : (n : ℕ) (xs ys : List Visit) → first_break T n (xs ++ ys) ≡ option_or (first_break T n xs) (first_break T (n + length xs) ys)
  unfolding first_break
  first-append n [] ys = let e : n ≡ n + length {A = Visit} [] = omega arith in ap (λ k. first_break T k ys) e
  first-append n (x ∷ xs) ys =
      let e : (n + 1) + length xs ≡ n + length (x ∷ xs) = omega arith in
      ap (option_or (own_break T n x)) (first-append (n + 1) xs ys) ∙ sym (or_assoc (own_break T n x) (first_break T (n + 1) xs) (first_break T ((n + 1) + length xs) ys)) ∙ ap (λ k. option_or (option_or (own_break T n x) (first_break T (n + 1) xs)) (first_break T k ys)) e

  pub clean_nil : (n : ℕ) → Clean T n n []
  unfolding first_break
  clean_nil n = record { unbroken = refl; counted = omega arith }

  pub clean_entry : (n : ℕ) (e : Visit) → own_break T n e ≡ None → Clean T n (n + 1) (e ∷ [])
  unfolding first_break
  clean_entry n e h = record { unbroken = ap (λ o. option_or o None) h; counted = omega arith }

  pub clean_append : {n m k : ℕ} (xs ys : List Visit) → Clean T n m xs → Clean T m k ys → Clean T n k (xs ++ ys)
  clean_append {n} {m} {k} xs ys c d = record {
    unbroken = first-append n xs ys ∙ ap₂ option_or c.unbroken (ap (λ j. first_break T j ys) (sym c.counted) ∙ d.unbroken);
    counted = omega (arith, c.counted, d.counted, length-append xs ys);
  }

  breaks_later : {n m : ℕ} (xs ys : List Visit) (b : RefBreak) → Clean T n m xs → first_break T m ys ≡ Some b → first_break T n (xs ++ ys) ≡ Some b
  breaks_later {n} {m} xs ys b c h = first-append n xs ys ∙ ap₂ option_or c.unbroken (ap (λ j. first_break T j ys) (sym c.counted) ∙ h)

  breaks_first : (n : ℕ) (xs ys : List Visit) (b : RefBreak) → first_break T n xs ≡ Some b → first_break T n (xs ++ ys) ≡ Some b
  breaks_first n xs ys b h = first-append n xs ys ∙ ap (λ o. option_or o (first_break T (n + length xs) ys)) h

  pub fault_by : (f : RefFault) (a b : Option RefBreak) → ((x : RefBreak) → a ≡ Some x → b ≡ Some x) → IsFault f a → IsFault f b
  fault_by (faults.Broken r p ring) a b go h = go (record { rule = r; place = p; ring = ring }) h
  fault_by faults.NoMemory a b go h = tt

  pub fault_later : (f : RefFault) {n m : ℕ} (xs ys : List Visit) → Clean T n m xs → IsFault f (first_break T m ys) → IsFault f (first_break T n (xs ++ ys))
  fault_later f {n} {m} xs ys c h = fault_by f (first_break T m ys) (first_break T n (xs ++ ys)) (λ b e. breaks_later xs ys b c e) h

  pub fault_first : (f : RefFault) (n : ℕ) (xs ys : List Visit) → IsFault f (first_break T n xs) → IsFault f (first_break T n (xs ++ ys))
  fault_first f n xs ys h = fault_by f (first_break T n xs) (first_break T n (xs ++ ys)) (λ b e. breaks_first n xs ys b e) h

  -- a list that begins with an entry that breaks
  pub fault_own : (f : RefFault) (n : ℕ) (e : Visit) (es : List Visit) → IsFault f (own_break T n e) → IsFault f (first_break T n (e ∷ es))
  unfolding first_break
  fault_own f n e es h = fault_by f (own_break T n e) (first_break T n (e ∷ es)) (λ b k. ap (λ o. option_or o (first_break T (n + 1) es)) k) h

  -- what an entry without a break says
  pub record Enters (b : List Place) (p : Place) : Type 0 where
    pub is_new : since p b ≡ None
    pub room : length b < most_on_branch
    pub spelled : is_misspelled (T p) ≡ false

  enters_if : (b : List Place) (p : Place) (x y z : Bool) → nat_le most_on_branch (length b) ≡ x → is_misspelled (T p) ≡ z → since p b ≡ None
      → cond x (Some (ref_break rule.Deep p)) (cond y (Some (ref_break rule.Big p)) (cond z (Some (ref_break rule.RefSyntax p)) None)) ≡ None → Enters b p
  enters_if b p true y z e f g h = cc
  enters_if b p false true z e f g h = cc
  enters_if b p false false true e f g h = cc
  enters_if b p false false false e f g h = let r : length b < most_on_branch = grind (arith, e) in record { is_new = g; room = r; spelled = f }

  enters_of : (n : ℕ) (b : List Place) (p : Place) (o : Option (List Place)) → since p b ≡ o → break_if T n b p o ≡ None → Enters b p
  enters_of n b p (Some r) e h = cc
  enters_of n b p None e h = enters_if b p (nat_le most_on_branch (length b)) (nat_le most_visits n) (is_misspelled (T p)) refl refl e h

  pub enters : (n : ℕ) (b : List Place) (p : Place) → own_break T n (visit b p) ≡ None → Enters b p
  enters n b p h = enters_of n b p (since p b) refl h

  -- .. and what has no break
  pub unbroken : (n : ℕ) (b : List Place) (p : Place) → since p b ≡ None → length b < most_on_branch → n < most_visits → is_misspelled (T p) ≡ false → own_break T n (visit b p) ≡ None
  unbroken n b p new room few spelled =
      ap (break_if T n b p) new
      ∙ ap (λ x. cond x (Some (ref_break rule.Deep p)) (cond (nat_le most_visits n) (Some (ref_break rule.Big p)) (cond (is_misspelled (T p)) (Some (ref_break rule.RefSyntax p)) None))) (lt-leb most_on_branch (length b) room)
      ∙ ap (λ y. cond y (Some (ref_break rule.Big p)) (cond (is_misspelled (T p)) (Some (ref_break rule.RefSyntax p)) None)) (lt-leb most_visits n few)
      ∙ ap (λ z. cond z (Some (ref_break rule.RefSyntax p)) None) spelled

  less_room : (b : List Place) (p : Place) → length b < most_on_branch → most_on_branch - length b ≡ suc (most_on_branch - length (b ++ p ∷ []))
  less_room b p h = omega (arith, length-append b (p ∷ []))

  -- walking a place whose visit doesn't break
  pub walked-enters : (b : List Place) (p : Place) (o : Option Written) → Enters b p → T p ≡ o
      → walked T b p ≡ visit b p ∷ walk_written T (settle_by T (passed T (b ++ p ∷ []))) (walked T (b ++ p ∷ [])) p o
  unfolding walked passed walk_visits
  walked-enters b p o k e =
      ap (λ n. walk_visits T n b p) (less_room b p k.room)
      ∙ ap (λ x. visit b p ∷ cond (is_some x) [] (walk_written T (settle_by T (passed T (b ++ p ∷ []))) (walked T (b ++ p ∷ [])) p (T p))) k.is_new
      ∙ ap (λ x. visit b p ∷ walk_written T (settle_by T (passed T (b ++ p ∷ []))) (walked T (b ++ p ∷ [])) p x) e

  pub passed-enters : (b : List Place) (p : Place) (o : Option Written) → Enters b p → T p ≡ o
      → passed T b p ≡ after_visits (visit b p ∷ []) (pass_written T (settle_by T (passed T (b ++ p ∷ []))) p o)
  unfolding passed pass_visits
  passed-enters b p o k e =
      ap (λ n. pass_visits T n b p) (less_room b p k.room)
      ∙ ap (λ x. after_visits (visit b p ∷ []) (unless_stands (is_some x) (pass_written T (settle_by T (passed T (b ++ p ∷ []))) p (T p)))) k.is_new
      ∙ ap (λ x. after_visits (visit b p ∷ []) (pass_written T (settle_by T (passed T (b ++ p ∷ []))) p x)) e

  pub walk_visits-begins : (n : ℕ) (b : List Place) (p : Place) → (es : List Visit) × (walk_visits T n b p ≡ visit b p ∷ es)
  unfolding walk_visits
  walk_visits-begins zero b p = ([], refl)
  walk_visits-begins (suc n) b p = (_, refl)

  pub pass_visits-begins : (n : ℕ) (b : List Place) (p : Place) → (es : List Visit) × ((pass_visits T n b p).seen ≡ visit b p ∷ es)
  unfolding pass_visits
  pass_visits-begins zero b p = ([], refl)
  pass_visits-begins (suc n) b p = (_, refl)

  pub walked-fault : (f : RefFault) (n : ℕ) (b : List Place) (p : Place) → IsFault f (own_break T n (visit b p)) → IsFault f (first_break T n (walked T b p))
  unfolding walked
  walked-fault f n b p h =
      let k = walk_visits-begins (most_on_branch - length b) b p in
      subst (λ es. IsFault f (first_break T n es)) (sym k.1) (fault_own f n (visit b p) k.0 h)

  pub passed-fault : (f : RefFault) (n : ℕ) (b : List Place) (p : Place) → IsFault f (own_break T n (visit b p)) → IsFault f (first_break T n (passed T b p).seen)
  unfolding passed
  passed-fault f n b p h =
      let k = pass_visits-begins (most_on_branch - length b) b p in
      subst (λ es. IsFault f (first_break T n es)) (sym k.1) (fault_own f n (visit b p) k.0 h)
