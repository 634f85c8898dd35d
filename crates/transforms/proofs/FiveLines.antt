-- Texts and names, one after the other.
use Rattle.std.proofs.Common.{◌≡◌, ℕ, List, [], ◌∷◌, ◌++◌, refl, append_assoc, append-nil}

pub five_texts : (t u v w x y a b c d e : List ℕ) → t ≡ [] → u ≡ t ++ a → v ≡ u ++ b → w ≡ v ++ c → x ≡ w ++ d → y ≡ x ++ e → y ≡ a ++ (b ++ (c ++ (d ++ (e ++ []))))
five_texts t u v w x y a b c d e h i j k l m = rw (m, l, k, j, i, h, append-nil e) (simp append_assoc)

pub five_names : (t u v w x y : List (List ℕ)) (a b c d e : List ℕ) → t ≡ [] → u ≡ t ++ a ∷ [] → v ≡ u ++ b ∷ [] → w ≡ v ++ c ∷ [] → x ≡ w ++ d ∷ [] → y ≡ x ++ e ∷ []
    → y ≡ a ∷ b ∷ c ∷ d ∷ e ∷ []
five_names t u v w x y a b c d e h i j k l m = rw (m, l, k, j, i, h) refl
