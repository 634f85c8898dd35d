-- Runs of texts, one after the other.
use Rattle.std.proofs.Common.{◌≡◌, ℕ, List, ◌++◌, append_assoc}

pub four_texts : (t u v w x a b c d : List ℕ) → u ≡ t ++ a → v ≡ u ++ b → w ≡ v ++ c → x ≡ w ++ d → x ≡ t ++ (a ++ (b ++ (c ++ d)))
four_texts t u v w x a b c d h i j k = rw (k, j, i, h) (simp append_assoc)

-- four arguments in brackets
pub made_texts : (t t1 t2 t3 t4 t5 t6 t7 t8 equals maker opens a joins b c d closes : List ℕ) → t1 ≡ t ++ equals → t2 ≡ t1 ++ maker → t3 ≡ t2 ++ opens → t4 ≡ t3 ++ a
    → t5 ≡ t4 ++ (joins ++ b) → t6 ≡ t5 ++ (joins ++ c) → t7 ≡ t6 ++ (joins ++ d) → t8 ≡ t7 ++ closes
    → t8 ≡ t ++ (equals ++ (maker ++ (opens ++ ((a ++ (joins ++ (b ++ (joins ++ (c ++ (joins ++ d)))))) ++ closes))))
made_texts t t1 t2 t3 t4 t5 t6 t7 t8 equals maker opens a joins b c d closes h1 h2 h3 h4 h5 h6 h7 h8 = rw (h8, h7, h6, h5, h4, h3, h2, h1) (simp append_assoc)
