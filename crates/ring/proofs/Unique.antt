-- A node has one value.
use Rattle.std.proofs.Common.{◌≡◌, ℕ, List, [], ◌∷◌, refl, sym, ap, ◌∙◌, min}
use Rattle.ring.specs.Values.{Comes, comes, AllCome, none, more, total_step, IsTotal}

mutual
  pub same_value : {N V : Type 0} (needs : N → List N) (step : N → List V → V) (v : N) {x y : V} → Comes needs step v x → Comes needs step v y → x ≡ y
  same_value needs step v (comes a) (comes b) = ap (step v) (same_values needs step (needs v) a b)

  pub same_values : {N V : Type 0} (needs : N → List N) (step : N → List V → V) (ws : List N) {xs ys : List V} → AllCome needs step ws xs → AllCome needs step ws ys → xs ≡ ys
  same_values needs step [] none none = refl
  same_values needs step (w ∷ ws) (more {x} {xs} a as') (more {x = y} b bs) = ap (λ z. z ∷ xs) (same_value needs step w a b) ∙ ap (λ zs. y ∷ zs) (same_values needs step ws as' bs)

pub same_total : (needs : ℕ → List ℕ) (own : List ℕ) (v total other : ℕ) → IsTotal needs own v total → IsTotal needs own v other → total ≡ other
same_total needs own v total other s t = s.2 ∙ (ap (λ (n : ℕ). min n 1000000) (same_value needs (total_step own) v s.1 t.1) ∙ sym t.2)
