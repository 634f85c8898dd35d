-- The column of a place, and the lines of a refusal.
use Rattle.std.proofs.Common.{◌≡◌, ◌≢◌, ℕ, true, false, not, List, [], ◌++◌, ◌+◌, ◌-◌, ◌==◌, ◌≤◌, ◌<◌, length, drop, get_or, All, Some, refl, subst, ◌∙◌, ap, arith, append_assoc}
use Rattle.std.proofs.lemmas.Bool.{ne_eqb}
use Rattle.std.proofs.lemmas.List.{get_or-drop, length-drop}
use Rattle.std.proofs.lemmas.List.Sums.{suffix_len_is}
use Rattle.std.proofs.lemmas.Option.{get_or_from_slice_get}
use Rattle.std.specs.List.{slice_get, suffix_len}

past : (xs : List ℕ) (n k : ℕ) → All (λ x. x ≢ 10) (drop n xs) → n ≤ k → k < length xs → not (get_or xs k 0 == 10) ≡ true
past xs n k h le lt =
    let e : n + (k - n) ≡ k = omega arith in
    let inside : k - n < length (drop n xs) = omega (arith, length-drop n xs) in
    let at : get_or xs k 0 ≢ 10 = subst (λ j. get_or xs j 0 ≢ 10) e (subst (λ v. v ≢ 10) (get_or-drop n xs (k - n) 0) (h (k - n) 0 inside)) in
    rw (ne_eqb (get_or xs k 0) 10 at) refl

newline : (xs : List ℕ) (i : ℕ) → slice_get xs i ≡ Some 10 → not (get_or xs (i + 1 - 1) 0 == 10) ≡ false
newline xs i h = let e : i + 1 - 1 ≡ i = omega arith in rw (e, get_or_from_slice_get xs i 10 0 h) refl

-- after the last newline
pub column_some : (xs : List ℕ) (i : ℕ) → i < length xs → slice_get xs i ≡ Some 10 → All (λ x. x ≢ 10) (drop (i + 1) xs) → length xs - i ≡ suffix_len (λ b. not (b == 10)) xs + 1
column_some xs i lt h rest =
    let is : suffix_len (λ b. not (b == 10)) xs ≡ length xs - (i + 1) = suffix_len_is (λ b. not (b == 10)) xs (i + 1) 0 (omega arith) (λ k le inside. past xs (i + 1) k rest le inside) (λ _. newline xs i h) in
    omega (arith, is)

-- on the first line
pub column_none : (xs : List ℕ) → All (λ x. x ≢ 10) xs → length xs + 1 ≡ suffix_len (λ b. not (b == 10)) xs + 1
column_none xs all =
    let is : suffix_len (λ b. not (b == 10)) xs ≡ length xs - 0 = suffix_len_is (λ b. not (b == 10)) xs 0 0 (omega arith) (λ k le inside. past xs 0 k all le inside) (λ some. absurd (omega arith)) in
    omega (arith, is)

-- three pieces, one after another
pub three : (a b c d x y z : List ℕ) → a ≡ [] → b ≡ a ++ x → c ≡ b ++ y → d ≡ c ++ z → d ≡ x ++ y ++ z
three a b c d x y z e f g h = h ∙ ap (λ o. o ++ z) (g ∙ ap (λ o. o ++ y) (f ∙ ap (λ o. o ++ x) e))

pub lines : (a r b f l n m c d s g e z : List ℕ) → (a ++ r ++ b ++ f) ++ (l ++ n ++ m ++ c) ++ (d ++ s ++ g ++ e ++ z) ≡ a ++ r ++ b ++ f ++ l ++ n ++ m ++ c ++ d ++ s ++ g ++ e ++ z
lines a r b f l n m c d s g e z = simp append_assoc
