-- Texts without their leading `./`.
use Rattle.std.proofs.Common.{◌≡◌, ◌≢◌, ℕ, suc, ◌==◌, ◌&&◌, Bool, true, false, List, [], ◌∷◌, Option, Some, None, MatchOption, Bor, if◌then◌else◌, refl, sym, ap, ◌∙◌, arith}
use Rattle.std.proofs.lemmas.Bool.Decides.{nat_tests}
use Rattle.resolver_doc.specs.Document.{without_dots}
use Rattle.resolver_doc.specs.Laws.{IsWithoutDots, DotsAreTaken}

tail_is : {A : Type 0} {x y : A} {xs ys : List A} → x ∷ xs ≡ y ∷ ys → xs ≡ ys
tail_is e = cc

head_is : {A : Type 0} {x y : A} {xs ys : List A} → x ∷ xs ≡ y ∷ ys → x ≡ y
head_is e = cc

nothing : {x : ℕ} {xs : List ℕ} → [] ≡ x ∷ xs → ⊥
nothing e = cc

other : (b c : ℕ) → (b == c) ≡ false → b ≡ c → ⊥
other b c e f = grind (arith, nat_tests)

pub behind_same : (text rest : List ℕ) → text ≡ 46 ∷ (47 ∷ rest) → without_dots rest ≡ without_dots text
behind_same text rest e = sym (ap without_dots e)

is_byte : (b c : ℕ) → (b == c) ≡ true → b ≡ c
is_byte b c e = grind (arith, nat_tests)

pub none_leads : (text : List ℕ) → ((rest : List ℕ) → text ≢ 46 ∷ (47 ∷ rest)) → without_dots text ≡ text
none_leads [] h = refl
none_leads (b ∷ []) h = refl
none_leads (b ∷ c ∷ cs) h = at (b == 46) (c == 47) refl refl
  where
    at : (x y : Bool) → (b == 46) ≡ x → (c == 47) ≡ y → (if x && y then without_dots cs else b ∷ (c ∷ cs)) ≡ b ∷ (c ∷ cs)
    at true true p q = absurd (h cs (ap (λ (z : ℕ). z ∷ (c ∷ cs)) (is_byte b 46 p) ∙ ap (λ (z : ℕ). 46 ∷ (z ∷ cs)) (is_byte c 47 q)))
    at true false p q = refl
    at false y p q = refl

-- what stands after `.` and then `/`
pub behind_both : (text rest : List ℕ) (r : Option (Bor (List ℕ))) → text ≡ 46 ∷ rest
    → MatchOption r ((end : List ℕ) → rest ≢ 47 ∷ end) (λ x. rest ≡ 47 ∷ x.now)
    → MatchOption r ((end : List ℕ) → text ≢ 46 ∷ (47 ∷ end)) (λ x. text ≡ 46 ∷ (47 ∷ x.now))
behind_both text rest None e f = λ end g. f end (tail_is (sym e ∙ g))
behind_both text rest (Some x) e f = e ∙ ap (λ (xs : List ℕ). 46 ∷ xs) f

pub no_first : (text : List ℕ) (r : Option (Bor (List ℕ))) → r ≡ None → MatchOption r ((end : List ℕ) → text ≢ 46 ∷ end) (λ x. text ≡ 46 ∷ x.now)
    → (rest : List ℕ) → text ≢ 46 ∷ (47 ∷ rest)
no_first text None e f rest g = f (47 ∷ rest) g
no_first text (Some x) e f rest g = absurd (none e)
  where
    none : {A : Type 0} {y : A} → Some y ≡ None → ⊥
    none h = cc

taken_cases : (b c : ℕ) (cs : List ℕ) (x y : Bool) → (b == 46) ≡ x → (c == 47) ≡ y → IsWithoutDots cs (without_dots cs)
    → IsWithoutDots (b ∷ (c ∷ cs)) (if x && y then without_dots cs else b ∷ (c ∷ cs))
taken_cases b c cs true true p q later = record {
  times = suc later.times;
  whole = ap (λ (z : ℕ). z ∷ (c ∷ cs)) (is_byte b 46 p) ∙ (ap (λ (z : ℕ). 46 ∷ (z ∷ cs)) (is_byte c 47 q) ∙ ap (λ (zs : List ℕ). 46 ∷ (47 ∷ zs)) later.whole);
  first = later.first;
}
taken_cases b c cs true false p q later = record { times = 0; whole = refl; first = λ rest e. other c 47 q (head_is (tail_is e)) }
taken_cases b c cs false y p q later = record { times = 0; whole = refl; first = λ rest e. other b 46 p (head_is e) }

pub dots_are_taken : DotsAreTaken
dots_are_taken [] = record { times = 0; whole = refl; first = λ rest e. nothing e }
dots_are_taken (b ∷ []) = record { times = 0; whole = refl; first = λ rest e. nothing (tail_is e) }
dots_are_taken (b ∷ c ∷ cs) = taken_cases b c cs (b == 46) (c == 47) refl refl (dots_are_taken cs)
