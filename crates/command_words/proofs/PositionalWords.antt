-- Arguments that are positional, and lists of arguments that clap is given.
use Rattle.std.proofs.Common.{◌≡◌, ◌∙◌, ◌==◌, ◌≤◌, ℕ, suc, Bool, true, false, not, nat_le, length, ◌&&◌, List, [], ◌∷◌, map, String, Global, string_bytes, refl, ap, arith}
use Rattle.std.proofs.lemmas.Bool.{and_parts, false≢true, not-true}
use Rattle.std.specs.List.{list_all}
use Rattle.clap.specs.Walk.{Text}
use Rattle.command_words.specs.inner.ClapWords.{is_known, is_positional, is_ready}

pub all_positional : (ws : List (String Global)) → list_all is_positional (map string_bytes ws) ≡ list_all (λ w. is_positional (string_bytes w)) ws
all_positional [] = refl
all_positional (w ∷ ws) = ap (λ b. is_positional (string_bytes w) && b) (all_positional ws)

longer : (ws : List (String Global)) → length (map string_bytes ws) ≡ length ws
longer [] = refl
longer (w ∷ ws) = ap suc (longer ws)

-- what is tested of the first argument and the others
pub ready_cons : (all : List (String Global)) (w : String Global) (ws : List (String Global)) (k p : Bool) (n : Bool) → all ≡ w ∷ ws → is_known (string_bytes w) ≡ k → list_all (λ w. is_positional (string_bytes w)) ws ≡ p → nat_le (length ws) 3 ≡ n
    → is_ready (map string_bytes all) ≡ (k && (p && n))
ready_cons all w ws k p n e hk hp hn =
    ap (λ l. is_ready (map string_bytes l)) e ∙ λ i. hk i && ((all_positional ws ∙ hp) i && (ap (λ l. nat_le l 3) (longer ws) ∙ hn) i)

-- what holds of no, one, two and three positional arguments holds of all lists of at most three
pub positional_cases : (P : List Text → Type 0)
    → P []
    → ((x : ℕ) (xs : Text) → (x == 45) ≡ false → P ((x ∷ xs) ∷ []))
    → ((x y : ℕ) (xs ys : Text) → (x == 45) ≡ false → (y == 45) ≡ false → P ((x ∷ xs) ∷ (y ∷ ys) ∷ []))
    → ((x y z : ℕ) (xs ys zs : Text) → (x == 45) ≡ false → (y == 45) ≡ false → (z == 45) ≡ false → P ((x ∷ xs) ∷ (y ∷ ys) ∷ (z ∷ zs) ∷ []))
    → (ws : List Text) → list_all is_positional ws ≡ true → length ws ≤ 3 → P ws
positional_cases P none one two three [] p h = none
positional_cases P none one two three ([] ∷ ws) p h = absurd (false≢true p)
positional_cases P none one two three ((x ∷ xs) ∷ []) p h =
    let px = and_parts (not (x == 45)) true p in one x xs (not-true _ px.0)
positional_cases P none one two three ((x ∷ xs) ∷ ([] ∷ ws)) p h =
    let px = and_parts (not (x == 45)) false p in absurd (false≢true px.1)
positional_cases P none one two three ((x ∷ xs) ∷ ((y ∷ ys) ∷ [])) p h =
    let px = and_parts (not (x == 45)) (not (y == 45) && true) p in
    let py = and_parts (not (y == 45)) true px.1 in
    two x y xs ys (not-true _ px.0) (not-true _ py.0)
positional_cases P none one two three ((x ∷ xs) ∷ ((y ∷ ys) ∷ ([] ∷ ws))) p h =
    let px = and_parts (not (x == 45)) (not (y == 45) && false) p in
    let py = and_parts (not (y == 45)) false px.1 in absurd (false≢true py.1)
positional_cases P none one two three ((x ∷ xs) ∷ ((y ∷ ys) ∷ ((z ∷ zs) ∷ []))) p h =
    let px = and_parts (not (x == 45)) (not (y == 45) && (not (z == 45) && true)) p in
    let py = and_parts (not (y == 45)) (not (z == 45) && true) px.1 in
    let pz = and_parts (not (z == 45)) true py.1 in
    three x y z xs ys zs (not-true _ px.0) (not-true _ py.0) (not-true _ pz.0)
positional_cases P none one two three ((x ∷ xs) ∷ ((y ∷ ys) ∷ ((z ∷ zs) ∷ (w ∷ ws)))) p h = absurd (omega arith)
