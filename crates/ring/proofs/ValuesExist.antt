-- A grounded node has a value.
use Rattle.std.proofs.Common.{List, [], ◌∷◌, inl, inr, refl}
use Rattle.ring.specs.Lists.{In}
use Rattle.ring.specs.Existence.{IsGrounded, grounded}
use Rattle.ring.specs.Values.{Comes, comes, AllCome, none, more}

module _ {N V : Type 0} (needs : N → List N) (step : N → List V → V) where
  abbrev HasValue : N → Type 0
  HasValue v = (x : V) × Comes needs step v x

  all_have_values : (ws : List N) → ((w : N) → In w ws → HasValue w) → (xs : List V) × AllCome needs step ws xs
  all_have_values [] each = ([], none)
  all_have_values (w ∷ ws) each =
      let first = each w (inl refl) in
      let rest = all_have_values ws (λ v i. each v (inr i)) in
      (first.0 ∷ rest.0, more first.1 rest.1)

  pub has_value : (v : N) → IsGrounded needs v → HasValue v
  has_value v (grounded f) =
      let all = all_have_values (needs v) (λ w i. has_value w (f w i)) in
      (step v all.0, comes all.1)
