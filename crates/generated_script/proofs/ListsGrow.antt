-- What is made of numbers in order grows by what is made of the next one.
use Rattle.std.proofs.Common.{◌≡◌, ◌∙◌, ◌+◌, ℕ, zero, suc, List, [], ◌∷◌, ◌++◌, refl, sym, ap, arith}
use Rattle.std.proofs.lemmas.List.{flat_map_more}
use Rattle.std.proofs.lemmas.List.Concat.{flat_map-append}
use Rattle.std.specs.List.{flat_map, range_with_len}

range_more : (a n : ℕ) → range_with_len a n ++ (a + n) ∷ [] ≡ range_with_len a (suc n)
range_more a zero = let e : a + 0 ≡ a = omega arith in ap (λ x. x ∷ []) e
range_more a (suc n) =
    let e : a + suc n ≡ (a + 1) + n = omega arith in
    ap (λ x. a ∷ (range_with_len (a + 1) n ++ x ∷ [])) e ∙ ap (λ r. a ∷ r) (range_more (a + 1) n)

-- one number more
pub grown : {X : Type 0} (f : ℕ → List X) (before : List X) (a n m k : ℕ) → m ≡ a + n → k ≡ suc n → (before ++ flat_map f (range_with_len a n)) ++ f m ≡ before ++ flat_map f (range_with_len a k)
grown f before a n m k em ek =
    flat_map_more f before (range_with_len a n) m
    ∙ ap (λ r. before ++ flat_map f r) (ap (λ x. range_with_len a n ++ x ∷ []) em ∙ (range_more a n ∙ ap (λ x. range_with_len a x) (sym ek)))

-- what is made of what is made of each
pub flat_twice : {X Y A : Type 0} (g : Y → List A) (f : X → List Y) (xs : List X) → flat_map g (flat_map f xs) ≡ flat_map (λ x. flat_map g (f x)) xs
flat_twice g f [] = refl
flat_twice g f (x ∷ xs) =
    flat_map-append g (f x) (flat_map f xs) ∙ ap (λ r. flat_map g (f x) ++ r) (flat_twice g f xs)

-- one number more, of whose list each item is spelled
pub grown_twice : {Y A : Type 0} (g : Y → List A) (f : ℕ → List Y) (before : List A) (a n m k : ℕ) → m ≡ a + n → k ≡ suc n → (before ++ flat_map g (flat_map f (range_with_len a n))) ++ flat_map g (f m) ≡ before ++ flat_map g (flat_map f (range_with_len a k))
grown_twice g f before a n m k em ek =
    ap (λ r. (before ++ r) ++ flat_map g (f m)) (flat_twice g f (range_with_len a n))
    ∙ (grown (λ x. flat_map g (f x)) before a n m k em ek
    ∙ ap (λ r. before ++ r) (sym (flat_twice g f (range_with_len a k))))
