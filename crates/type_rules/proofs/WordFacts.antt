-- What the words of a table stand for.
use Rattle.std.proofs.Common.{◌≡◌, ℕ, zero, suc, ◌<◌, Bool, true, false, ◌&&◌, ◌||◌, not, cond, List, [], ◌∷◌, map, length, Option, Some, refl, ap, sym, ◌∙◌, arith}
use Rattle.std.specs.Prelude.{◌↔◌, Contains, slice_index_or}
use Rattle.std.specs.List.{list_all, list_any}
use Rattle.std.specs.Str.{bytes_eq}
use Rattle.std.proofs.lemmas.Slice.Eq.{bytes_eq-Decides}
use Rattle.type_rules.specs.declared.size.SizeUnit.{SizeUnit}
use Rattle.type_rules.specs.declared.size.SizeUnit.TheVariants.{Px, Rem}
use Rattle.type_rules.specs.declared.time.TimeUnit.{TimeUnit}
use Rattle.type_rules.specs.declared.time.TimeUnit.TheVariants.{Ms, S}
use Rattle.type_rules.specs.declared.space.Space.{Space}
use Rattle.type_rules.specs.declared.space.Space.TheVariants.{Srgb, SrgbLinear, DisplayP3, A98Rgb, ProphotoRgb, Rec2020, XyzD65, XyzD50, Hsl, Hwb, Lab, Lch, Oklab, Oklch}
use Rattle.type_rules.specs.Words.{meaning, size_units, size_unit_name, time_units, time_unit_name, weights, spaces, all_spaces, space_name}

pub same_text : (xs ys : List ℕ) → bytes_eq xs ys ≡ true → xs ≡ ys
same_text xs ys e = (bytes_eq-Decides xs ys).0 e

pub text_same : (xs ys : List ℕ) → xs ≡ ys → bytes_eq xs ys ≡ true
text_same xs ys e = (bytes_eq-Decides xs ys).1 e

neither : (b c : Bool) → not (b || c) ≡ true → (b ≡ false) × (not c ≡ true)
neither false c t = (refl, t)
neither true c t = cc

pub and_left : (a b : Bool) → (a && b) ≡ true → a ≡ true
and_left true b e = refl
and_left false b e = e

pub and_right : (a b : Bool) → (a && b) ≡ true → b ≡ true
and_right true b e = e
and_right false b e = cc

module _ {A : Type 0} where
  -- the rows of things by their names
  abbrev pub named_rows : (A → List ℕ) → List A → List (List ℕ × A)
  named_rows name us = map (λ u. (name u, u)) us

  first_named : (name : A → List ℕ) (u s : A) (word : List ℕ) (b : Bool) (rest : Option A) → (b ≡ true → name u ≡ word) → (rest ≡ Some s → name s ≡ word) → (cond b (Some u) rest) ≡ Some s → name s ≡ word
  first_named name u s word true rest here later e = let h : u ≡ s = cc in ap name (sym h) ∙ here refl
  first_named name u s word false rest here later e = later e

  pub meaning_named : (name : A → List ℕ) (us : List A) (word : List ℕ) (s : A) → meaning (named_rows name us) word ≡ Some s → name s ≡ word
  meaning_named name [] word s e = cc
  meaning_named name (u ∷ us) word s e = first_named name u s word (bytes_eq (name u) word) (meaning (named_rows name us) word) (same_text (name u) word) (meaning_named name us word s) e

  -- the names of a table differ
  abbrev pub names_differ : List (List ℕ × A) → Bool
  names_differ [] = true
  names_differ (r ∷ rs) = not (list_any (λ q. bytes_eq r.0 q.0) rs) && names_differ rs

  -- what a word stands for is in its row
  in_first : (r : List ℕ × A) (word : List ℕ) (x : A) (b : Bool) (rest : Option A) (rs : List (List ℕ × A)) → (b ≡ true → r.0 ≡ word) → (rest ≡ Some x → Contains rs (word, x)) → cond b (Some r.1) rest ≡ Some x → Contains (r ∷ rs) (word, x)
  in_first r word x true rest rs here later e = let h : r.1 ≡ x = cc in (0, omega arith, (λ i. (here refl i, h i)))
  in_first r word x false rest rs here later e = let (k, p, q) = later e in (suc k, omega (arith, p), q)

  pub in_row : (rs : List (List ℕ × A)) (word : List ℕ) (x : A) → meaning rs word ≡ Some x → Contains rs (word, x)
  in_row [] word x e = cc
  in_row (r ∷ rs) word x e = in_first r word x (bytes_eq r.0 word) (meaning rs word) rs (same_text r.0 word) (in_row rs word x) e

  -- no later row has the name of this one
  not_any : (name : List ℕ) (rs : List (List ℕ × A)) (word : List ℕ) (x : A) (k : ℕ) → not (list_any (λ q. bytes_eq name q.0) rs) ≡ true → k < length rs → slice_index_or rs k (word, x) ≡ (word, x) → bytes_eq name word ≡ false
  not_any name [] word x k t h e = absurd (omega (arith, h))
  not_any name (r ∷ rs) word x zero t h e =
      ap (λ q. bytes_eq name q.0) (sym e) ∙ (neither (bytes_eq name r.0) (list_any (λ q. bytes_eq name q.0) rs) t).0
  not_any name (r ∷ rs) word x (suc k) t h e =
      not_any name rs word x k (neither (bytes_eq name r.0) (list_any (λ q. bytes_eq name q.0) rs) t).1 (omega (arith, h)) e

  -- the row of a word says what the word stands for
  at_row : (rs : List (List ℕ × A)) (word : List ℕ) (x : A) (k : ℕ) → names_differ rs ≡ true → k < length rs → slice_index_or rs k (word, x) ≡ (word, x) → meaning rs word ≡ Some x
  at_row [] word x k d h e = absurd (omega (arith, h))
  at_row (r ∷ rs) word x zero d h e =
      ap (λ b. cond b (Some r.1) (meaning rs word)) (text_same r.0 word (ap (λ q. q.0) e)) ∙ ap (λ q. Some q.1) e
  at_row (r ∷ rs) word x (suc k) d h e =
      ap (λ b. cond b (Some r.1) (meaning rs word)) (not_any r.0 rs word x k (and_left _ _ d) (omega (arith, h)) e)
      ∙ at_row rs word x k (and_right (not (list_any (λ q. bytes_eq r.0 q.0) rs)) _ d) (omega (arith, h)) e

  pub of_row : (rs : List (List ℕ × A)) (word : List ℕ) (x : A) → names_differ rs ≡ true → Contains rs (word, x) → meaning rs word ≡ Some x
  of_row rs word x d (k, h, e) = at_row rs word x k d h e

  -- what each row has, each meaning has
  all_first : (p : A → Bool) (r : List ℕ × A) (x : A) (b : Bool) (rest : Option A) → p r.1 ≡ true → (rest ≡ Some x → p x ≡ true) → cond b (Some r.1) rest ≡ Some x → p x ≡ true
  all_first p r x true rest here later e = let h : r.1 ≡ x = cc in ap p (sym h) ∙ here
  all_first p r x false rest here later e = later e

  pub all_meanings : (p : A → Bool) (rs : List (List ℕ × A)) (word : List ℕ) (x : A) → list_all (λ r. p r.1) rs ≡ true → meaning rs word ≡ Some x → p x ≡ true
  all_meanings p [] word x t e = cc
  all_meanings p (r ∷ rs) word x t e = all_first p r x (bytes_eq r.0 word) (meaning rs word) (and_left (p r.1) (list_all (λ r. p r.1) rs) t) (all_meanings p rs word x (and_right (p r.1) (list_all (λ r. p r.1) rs) t)) e

pub space_found : (s : Space) → meaning spaces (space_name s) ≡ Some s
space_found Srgb = refl
space_found SrgbLinear = refl
space_found DisplayP3 = refl
space_found A98Rgb = refl
space_found ProphotoRgb = refl
space_found Rec2020 = refl
space_found XyzD65 = refl
space_found XyzD50 = refl
space_found Hsl = refl
space_found Hwb = refl
space_found Lab = refl
space_found Lch = refl
space_found Oklab = refl
space_found Oklch = refl

pub size_found : (u : SizeUnit) → meaning size_units (size_unit_name u) ≡ Some u
size_found Px = refl
size_found Rem = refl

pub time_found : (u : TimeUnit) → meaning time_units (time_unit_name u) ≡ Some u
time_found Ms = refl
time_found S = refl

pub spaces_named : (word : List ℕ) (s : Space) → (meaning spaces word ≡ Some s) ↔ (space_name s ≡ word)
spaces_named word s = (meaning_named space_name all_spaces word s, λ e. ap (meaning spaces) (sym e) ∙ space_found s)

pub size_units_named : (word : List ℕ) (u : SizeUnit) → (meaning size_units word ≡ Some u) ↔ (size_unit_name u ≡ word)
size_units_named word u = (meaning_named size_unit_name (Px ∷ Rem ∷ []) word u, λ e. ap (meaning size_units) (sym e) ∙ size_found u)

pub time_units_named : (word : List ℕ) (u : TimeUnit) → (meaning time_units word ≡ Some u) ↔ (time_unit_name u ≡ word)
time_units_named word u = (meaning_named time_unit_name (Ms ∷ S ∷ []) word u, λ e. ap (meaning time_units) (sym e) ∙ time_found u)

pub weights_named : (word : List ℕ) (n : ℕ) → (meaning weights word ≡ Some n) ↔ Contains weights (word, n)
weights_named word n = (in_row weights word n, of_row weights word n refl)
