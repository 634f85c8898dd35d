-- Whether a path is one of an output.
use Rattle.std.proofs.Common.{◌≡◌, inl, inr, ℕ, Bool, true, false, List, ◌++◌, codes, Decides, bytes_eq, refl, sym, ap, ◌∙◌}
use Rattle.std.proofs.lemmas.List.{append_cancel_right}
use Rattle.std.proofs.lemmas.Slice.Eq.{bytes_eq-Decides}
use Rattle.out_store.specs.Paths.{IsFileOf, IsOutputPath, is_name}
use Rattle.out_store.proofs.Places.{no_both}

pub decided_yes : {P : Type 0} → P → Decides true P
decided_yes p = (λ _. p, λ _. refl)

pub decided_no : {P : Type 0} → (P → ⊥) → Decides false P
decided_no none = (λ e. absurd (no_both false e refl), λ p. absurd (none p))

pub file_decided : (name file path : List ℕ) (r : Bool) → r ≡ is_name name → path ≡ name ++ file → Decides r (IsFileOf file path)
file_decided name file path r e is =
    (λ h. (name, sym e ∙ h, is), λ w. e ∙ (ap is_name (append_cancel_right name w.0 file (sym is ∙ w.2)) ∙ w.1))

pub first_decided : (path : List ℕ) → bytes_eq path (codes "REFUSED") ≡ true → Decides true (IsOutputPath path)
first_decided path e = decided_yes (inl ((bytes_eq-Decides path (codes "REFUSED")).0 e))

not_so : (r : Bool) (P : Type 0) → Decides r P → r ≡ false → P → ⊥
not_so r P d e p = no_both r (d.1 p) e

-- none of the others, so the last decides
module _ (path : List ℕ) (a b c d last : Bool) (none : bytes_eq path (codes "REFUSED") ≡ false)
    (first : Decides a (IsFileOf (codes "/Tokens.swift") path)) (not_first : a ≡ false)
    (second : Decides b (IsFileOf (codes "/tokens.css") path)) (not_second : b ≡ false)
    (third : Decides c (IsFileOf (codes "/tokens.json") path)) (not_third : c ≡ false)
    (fourth : Decides d (IsFileOf (codes "/tokens.xml") path)) (not_fourth : d ≡ false)
    (fifth : Decides last (IsFileOf (codes "/REFUSED") path)) where
  last_true : IsOutputPath path → last ≡ true
  last_true (inl e) = absurd (no_both (bytes_eq path (codes "REFUSED")) ((bytes_eq-Decides path (codes "REFUSED")).1 e) none)
  last_true (inr (inl w)) = absurd (not_so a (IsFileOf (codes "/Tokens.swift") path) first not_first w)
  last_true (inr (inr (inl w))) = absurd (not_so b (IsFileOf (codes "/tokens.css") path) second not_second w)
  last_true (inr (inr (inr (inl w)))) = absurd (not_so c (IsFileOf (codes "/tokens.json") path) third not_third w)
  last_true (inr (inr (inr (inr (inl w))))) = absurd (not_so d (IsFileOf (codes "/tokens.xml") path) fourth not_fourth w)
  last_true (inr (inr (inr (inr (inr w))))) = fifth.1 w

  pub last_decided : Decides last (IsOutputPath path)
  last_decided = (λ h. inr (inr (inr (inr (inr (fifth.0 h))))), last_true)
