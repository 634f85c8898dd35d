-- Slices between offsets that may be beyond the end.
use Rattle.std.proofs.Common.{◌≡◌, ◌⊎◌, inl, inr, ℕ, ◌<◌, ◌≤◌, ◌-◌, List, [], length, drop, take, sym, ap, ◌∙◌, arith}
use Rattle.std.proofs.lemmas.List.{take_all, length-drop}
use Rattle.std.specs.List.{slice_range}

module _ {X : Type 0} (xs : List X) where
  to_end : (a b : ℕ) → length xs ≤ b → slice_range xs a (length xs) ≡ slice_range xs a b
  to_end a b beyond =
      take_all (length xs - a) (drop a xs) (omega (arith, length-drop a xs))
      ∙ sym (take_all (b - a) (drop a xs) (omega (arith, length-drop a xs, beyond)))

  none_left : (n : ℕ) (ys : List X) → n ≡ 0 → take n ys ≡ []
  none_left n ys e = ap (λ k. take k ys) e

  from_end : (a b : ℕ) → b ≤ a → slice_range xs b b ≡ slice_range xs a b
  from_end a b beyond =
      none_left (b - b) (drop b xs) (omega arith) ∙ sym (none_left (b - a) (drop a xs) (omega (arith, beyond)))

  pub ends_within : (a b e : ℕ) → ((b < length xs) × (e ≡ b)) ⊎ ((length xs ≤ b) × (e ≡ length xs)) → slice_range xs a e ≡ slice_range xs a b
  ends_within a b e (inl (within, is)) = ap (slice_range xs a) is
  ends_within a b e (inr (beyond, is)) = ap (slice_range xs a) is ∙ to_end a b beyond

  pub starts_within : (a s e : ℕ) → ((a < e) × (s ≡ a)) ⊎ ((e ≤ a) × (s ≡ e)) → slice_range xs s e ≡ slice_range xs a e
  starts_within a s e (inl (within, is)) = ap (λ k. slice_range xs k e) is
  starts_within a s e (inr (beyond, is)) = ap (λ k. slice_range xs k e) is ∙ from_end a e beyond
