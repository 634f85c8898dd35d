-- Runs of appended texts.
use Rattle.std.proofs.Common.{◌≡◌, ℕ, List, ◌++◌, ap, ◌∙◌, append_assoc}

pub two : (o a b p q : List ℕ) → p ≡ o ++ a → q ≡ p ++ b → q ≡ o ++ (a ++ b)
two o a b p q e f = f ∙ ap (λ z. z ++ b) e ∙ append_assoc o a b

pub three : (o a b c p q r : List ℕ) → p ≡ o ++ a → q ≡ p ++ b → r ≡ q ++ c → r ≡ o ++ (a ++ (b ++ c))
three o a b c p q r e f g = two o a (b ++ c) p r e (two p b c q r f g)

pub four : (o a b c d p q r s : List ℕ) → p ≡ o ++ a → q ≡ p ++ b → r ≡ q ++ c → s ≡ r ++ d → s ≡ o ++ (a ++ (b ++ (c ++ d)))
four o a b c d p q r s e f g h = two o a (b ++ (c ++ d)) p s e (three p b c d q r s f g h)

pub five : (o a b c d x p q r s t : List ℕ) → p ≡ o ++ a → q ≡ p ++ b → r ≡ q ++ c → s ≡ r ++ d → t ≡ s ++ x → t ≡ o ++ (a ++ (b ++ (c ++ (d ++ x))))
five o a b c d x p q r s t e f g h i = two o a (b ++ (c ++ (d ++ x))) p t e (four p b c d x q r s t f g h i)

pub six : (o a b c d x y p q r s t u : List ℕ) → p ≡ o ++ a → q ≡ p ++ b → r ≡ q ++ c → s ≡ r ++ d → t ≡ s ++ x → u ≡ t ++ y → u ≡ o ++ (a ++ (b ++ (c ++ (d ++ (x ++ y)))))
six o a b c d x y p q r s t u e f g h i j = two o a (b ++ (c ++ (d ++ (x ++ y)))) p u e (five p b c d x y q r s t u f g h i j)

pub seven : (o a b c d x y z p q r s t u v : List ℕ) → p ≡ o ++ a → q ≡ p ++ b → r ≡ q ++ c → s ≡ r ++ d → t ≡ s ++ x → u ≡ t ++ y → v ≡ u ++ z → v ≡ o ++ (a ++ (b ++ (c ++ (d ++ (x ++ (y ++ z))))))
seven o a b c d x y z p q r s t u v e f g h i j k = two o a (b ++ (c ++ (d ++ (x ++ (y ++ z))))) p v e (six p b c d x y z q r s t u v f g h i j k)
