-- Values of names that are apart, by their places.
use Rattle.std.proofs.Common.{◌≡◌, ◌<◌, ℕ, zero, suc, Bool, true, false, List, [], ◌∷◌, length, map, get_or, slice_set, inl, inr, refl, sym, ap₂, subst, arith}
use Rattle.std.specs.Prelude.{if◌then◌else◌}
use Rattle.std.specs.Bool.{Decides}
use Rattle.std.specs.Str.{bytes_eq}
use Rattle.std.proofs.lemmas.Slice.Eq.{bytes_eq-Decides}
use Rattle.ring.specs.Lists.{In, AreApart}

pub map_alike : {X Y : Type 0} (f g : X → Y) (xs : List X) → ((x : X) → In x xs → f x ≡ g x) → map f xs ≡ map g xs
map_alike f g [] h = refl
map_alike {Y = Y} f g (x ∷ xs) h = ap₂ (λ (y : Y) (ys : List Y). y ∷ ys) (h x (inl refl)) (map_alike f g xs (λ z i. h z (inr i)))

pub in_at : {N : Type 0} (xs : List N) (v : ℕ) (d : N) → v < length xs → In (get_or xs v d) xs
in_at [] v d h = absurd (omega (arith, h))
in_at (x ∷ xs) zero d h = inl refl
in_at (x ∷ xs) (suc v) d h = inr (in_at xs v d (omega (arith, h)))

pub eq_self : (n : List ℕ) → bytes_eq n n ≡ true
eq_self n = (bytes_eq-Decides n n).1 refl

pub eq_is : (n k : List ℕ) → bytes_eq n k ≡ true → n ≡ k
eq_is n k e = (bytes_eq-Decides n k).0 e

pub refuted : (b : Bool) (P : Type 0) → Decides b P → (P → ⊥) → b ≡ false
refuted true P d not = absurd (not (d.0 refl))
refuted false P d not = refl

pub unlike : (n k : List ℕ) → (n ≡ k → ⊥) → bytes_eq n k ≡ false
unlike n k not = refuted (bytes_eq n k) (n ≡ k) (bytes_eq-Decides n k) not

module _ {Y : Type 0} (f : List ℕ → Y) (h : Y → Y) where
  -- with one that is replaced
  abbrev pub replaced : List ℕ → List ℕ → Y
  replaced at n = if bytes_eq at n then h (f n) else f n

  pub set_named : (names : List (List ℕ)) (r : ℕ) (y : Y) → AreApart names → r < length names
      → slice_set (map f names) r (h (get_or (map f names) r y)) ≡ map (replaced (get_or names r [])) names
  set_named [] r y apart k = absurd (omega (arith, k))
  set_named (n ∷ ns) zero y apart k =
      let here : h (f n) ≡ replaced n n = rw (eq_self n) refl in
      let there : (m : List ℕ) → In m ns → f m ≡ replaced n m = λ m i. rw (unlike n m (λ e. apart.0 (subst (λ z. In z ns) (sym e) i))) refl in
      ap₂ (λ (z : Y) (zs : List Y). z ∷ zs) here (map_alike f (replaced n) ns there)
  set_named (n ∷ ns) (suc r) y apart k =
      let below : r < length ns = omega (arith, k) in
      let here : f n ≡ replaced (get_or ns r []) n = rw (unlike (get_or ns r []) n (λ e. apart.0 (subst (λ z. In z ns) e (in_at ns r [] below)))) refl in
      ap₂ (λ (z : Y) (zs : List Y). z ∷ zs) here (set_named ns r y apart.1 below)
