-- Each of some changes with their lines carries its own line.
use Rattle.std.proofs.Common.{◌≡◌, ℕ, zero, suc, List, [], ◌∷◌, Some, refl, map, ap, subst}
use Rattle.std.specs.List.{slice_get}
use Rattle.std.specs.Prelude.{unwrap_or}
use Rattle.edit_script.specs.Delta.{ChangeData}
use Rattle.edit_script.specs.View.{Lined, with_line}

pub lined : (ds : List ChangeData) (i : ℕ) (x : Lined) → slice_get (map with_line ds) i ≡ Some x → x ≡ with_line x.0
lined [] zero x e = search
lined [] (suc i) x e = search
lined (d ∷ ds) zero x e = subst (λ z. z ≡ with_line z.0) (ap (λ o. unwrap_or o x) e) refl
lined (d ∷ ds) (suc i) x e = lined ds i x e
