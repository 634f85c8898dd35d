-- What holds or does not.
use Rattle.std.proofs.Common.{◌≡◌, ◌⊎◌, inl, inr, ℕ, List, [], ◌∷◌, Bool, true, false, Option, Some, None, refl, ap}
use Rattle.std.specs.Bool.{Decides}
use Rattle.std.proofs.lemmas.Bool.Decides.{Decides-eqb}
use Rattle.std.proofs.lemmas.Slice.Eq.{bytes_eq-Decides}
use Rattle.std.specs.Prelude.{◌==◌}
use Rattle.std.specs.Str.{bytes_eq}
use Rattle.source_trees.specs.Contents.{SourceContent, a_file, a_missing_file, a_slice}
use Rattle.transforms.specs.Config.{Settings}

abbrev pub Decided : Type 0 → Type 0
Decided claim = claim ⊎ (claim → ⊥)

true_or_false : (b : Bool) → (b ≡ true) ⊎ (b ≡ true → ⊥)
true_or_false true = inl refl
true_or_false false = inr (λ e. cc)

pub by_test : {claim : Type 0} (b : Bool) → Decides b claim → Decided claim
by_test {claim} b d = go (true_or_false b)
  where
    go : (b ≡ true) ⊎ (b ≡ true → ⊥) → Decided claim
    go (inl e) = inl (d.0 e)
    go (inr e) = inr (λ c. e (d.1 c))

pub is_true : (b : Bool) → Decided (b ≡ true)
is_true b = true_or_false b

pub same_texts : (s t : List ℕ) → Decided (s ≡ t)
same_texts s t = by_test (bytes_eq s t) (bytes_eq-Decides s t)

pub same_numbers : (m n : ℕ) → Decided (m ≡ n)
same_numbers m n = by_test (m == n) (Decides-eqb m n)

pub same_tests : (a b : Bool) → Decided (a ≡ b)
same_tests true true = inl refl
same_tests true false = inr (λ e. cc)
same_tests false true = inr (λ e. cc)
same_tests false false = inl refl

module _ {X : Type 0} (same : (x y : X) → Decided (x ≡ y)) where
  pub same_options : (o p : Option X) → Decided (o ≡ p)
  same_options None None = inl refl
  same_options None (Some y) = inr (λ e. cc)
  same_options (Some x) None = inr (λ e. cc)
  same_options (Some x) (Some y) = go (same x y)
    where
      go : Decided (x ≡ y) → Decided (Some x ≡ Some y)
      go (inl e) = inl (ap Some e)
      go (inr n) = inr (λ e. n (cc))

  pub same_lists : (xs ys : List X) → Decided (xs ≡ ys)
  same_lists [] [] = inl refl
  same_lists [] (y ∷ ys) = inr (λ e. cc)
  same_lists (x ∷ xs) [] = inr (λ e. cc)
  same_lists (x ∷ xs) (y ∷ ys) = go (same x y) (same_lists xs ys)
    where
      go : Decided (x ≡ y) → Decided (xs ≡ ys) → Decided (x ∷ xs ≡ y ∷ ys)
      go (inl e) (inl f) = inl (λ i. e i ∷ f i)
      go (inl e) (inr n) = inr (λ f. n (cc))
      go (inr n) f = inr (λ e. n (cc))

pub same_both : {P Q : Type 0} → Decided P → Decided Q → Decided (P × Q)
same_both (inl p) (inl q) = inl (p, q)
same_both (inl p) (inr n) = inr (λ pq. n pq.1)
same_both (inr n) q = inr (λ pq. n pq.0)

pub either_of : {P Q : Type 0} → Decided P → Decided Q → Decided (P ⊎ Q)
either_of (inl p) q = inl (inl p)
either_of (inr n) (inl q) = inl (inr q)
either_of {P} {Q} (inr n) (inr m) = inr go
  where
    go : P ⊎ Q → ⊥
    go (inl p) = n p
    go (inr q) = m q

pub not_so : {P : Type 0} → Decided P → Decided (P → ⊥)
not_so (inl p) = inr (λ n. n p)
not_so (inr n) = inl n

pub by_way : {P Q : Type 0} → (P → Q) → (Q → P) → Decided P → Decided Q
by_way there back (inl p) = inl (there p)
by_way there back (inr n) = inr (λ q. n (back q))

pub same_settings : (a b : Settings) → Decided (a ≡ b)
same_settings a b =
    by_way (λ e i. record { prefix = e.0 i; rem_base = e.1.0 i; references = e.1.1.0 i; legacy = e.1.1.1 i })
    (λ e. (ap (λ s. s.prefix) e, (ap (λ s. s.rem_base) e, (ap (λ s. s.references) e, ap (λ s. s.legacy) e))))
    (same_both (same_texts a.prefix b.prefix) (same_both (same_numbers a.rem_base b.rem_base)
    (same_both (same_tests a.references b.references) (same_tests a.legacy b.legacy))))

pub same_contents : (a b : SourceContent) → Decided (a ≡ b)
same_contents (a_file f t) (a_file g u) =
    by_way (λ e i. a_file (e.0 i) (e.1 i)) (λ e. (cc, cc)) (same_both (same_texts f g) (same_texts t u))
same_contents (a_file f t) (a_missing_file g s e) = inr (λ e. cc)
same_contents (a_file f t) (a_slice g u s) = inr (λ e. cc)
same_contents (a_missing_file f s e) (a_file g u) = inr (λ e. cc)
same_contents (a_missing_file f s e) (a_missing_file g t d) =
    by_way (λ h i. a_missing_file (h.0 i) (h.1.0 i) (h.1.1 i)) (λ h. (cc, (cc, cc)))
    (same_both (same_texts f g) (same_both (same_numbers s t) (same_numbers e d)))
same_contents (a_missing_file f s e) (a_slice g u t) = inr (λ e. cc)
same_contents (a_slice f t s) (a_file g u) = inr (λ e. cc)
same_contents (a_slice f t s) (a_missing_file g d e) = inr (λ e. cc)
same_contents (a_slice f t s) (a_slice g u d) =
    by_way (λ h i. a_slice (h.0 i) (h.1.0 i) (h.1.1 i)) (λ h. (cc, (cc, cc)))
    (same_both (same_texts f g) (same_both (same_texts t u) (same_numbers s d)))
