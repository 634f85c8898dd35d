-- A text around the first of some character.
use Rattle.std.proofs.Common.{◌≡◌, ◌≢◌, ℕ, suc, ◌<◌, List, [], ◌∷◌, ◌++◌, length, get_or, All, Option, Some, None, Bor, arith}
use Rattle.std.specs.Option.{MatchOption}
use Rattle.std.proofs.lemmas.List.Elements.{All-cons, All-nil}
use Rattle.std.proofs.lemmas.Str.Pattern.{IsSplitOnceResult, split_parts}

all_from : (c : ℕ) (xs : List ℕ) → ((i : ℕ) → i < length xs → get_or xs i 0 ≢ c) → All (λ b. b ≢ c) xs
all_from c [] h = All-nil (λ b. b ≢ c)
all_from c (x ∷ xs) h = All-cons (λ b. b ≢ c) x xs (h 0 (omega arith)) (all_from c xs (λ i less. h (suc i) (omega arith)))

pub parts : (c : ℕ) (bs : List ℕ) (r : Option (Bor (List ℕ) × Bor (List ℕ))) → IsSplitOnceResult c bs r → c < 128
    → MatchOption r (All (λ b. b ≢ c) bs) (λ x. (bs ≡ x.0.now ++ c ∷ x.1.now) × All (λ b. b ≢ c) x.0.now)
parts c bs None h small = all_from c bs (split_parts c bs None h small)
parts c bs (Some x) h small = (let p = split_parts c bs (Some x) h small in (p.0, all_from c x.0.now p.1))
