-- What steps spell can be read in one way.
use Rattle.std.proofs.Common.{◌≡◌, ◌≢◌, ℕ, Bool, true, false, List, [], ◌∷◌, ◌++◌, inl, inr, refl, sym, ap, ◌∙◌, subst, append_assoc, map, All, codes, arith, ◌==◌, if◌then◌else◌}
use Rattle.std.proofs.lemmas.Bool.{cases_eq, eq-eqb}
use Rattle.std.proofs.lemmas.Bool.Decides.{nat_tests}
use Rattle.std.proofs.lemmas.List.Elements.{All-append, All-cons, All-nil, All-head, All-tail}
use Rattle.name_path.specs.Reference.{escaped_step}
use Rattle.name_path.specs.inner.Pieces.{EachLacks}

-- a byte of a step
abbrev esc : ℕ → List ℕ
esc b = if b == 126 then codes "~0" else if b == 47 then codes "~1" else b ∷ []

data Esc (b : ℕ) : Type 0 where
  tilde : b ≡ 126 → esc b ≡ 126 ∷ 48 ∷ [] → Esc b
  slash : b ≡ 47 → esc b ≡ 126 ∷ 49 ∷ [] → Esc b
  plain : (b ≡ 126 → ⊥) → (b ≡ 47 → ⊥) → esc b ≡ b ∷ [] → Esc b

neq : (a b : ℕ) → (a ≡ b → ⊥) → (a == b) ≡ false
neq a b ne = grind (arith, nat_tests)

pub distinct : (a b : ℕ) → a ≡ b → (a == b) ≡ false → ⊥
distinct a b e f = (let t : (a == b) ≡ true = eq-eqb a b e in let k : true ≡ false = sym t ∙ f in cc)

esc_of : (b : ℕ) → Esc b
esc_of b = elim (cases_eq b 126) [
  | inl p ↦ tilde p (subst (λ (x : ℕ). esc x ≡ 126 ∷ 48 ∷ []) (sym p) refl)
  | inr q ↦ elim (cases_eq b 47) [
    | inl p ↦ slash p (subst (λ (x : ℕ). esc x ≡ 126 ∷ 49 ∷ []) (sym p) refl)
    | inr r ↦ plain q r (ap (λ (t : Bool). if t then codes "~0" else if b == 47 then codes "~1" else b ∷ []) (neq b 126 q) ∙ ap (λ (t : Bool). if t then codes "~1" else b ∷ []) (neq b 47 r))
  ]
]

esc_head : (x y : ℕ) (u v : List ℕ) → Esc x → Esc y → esc x ++ u ≡ esc y ++ v → (x ≡ y) × (u ≡ v)
esc_head x y u v (tilde p e) (tilde q f) h =
    let k : 126 ∷ 48 ∷ u ≡ 126 ∷ 48 ∷ v = ap (λ (z : List ℕ). z ++ u) (sym e) ∙ (h ∙ ap (λ (z : List ℕ). z ++ v) f) in
    (p ∙ sym q, cc)
esc_head x y u v (tilde p e) (slash q f) h =
    let k : 126 ∷ 48 ∷ u ≡ 126 ∷ 49 ∷ v = ap (λ (z : List ℕ). z ++ u) (sym e) ∙ (h ∙ ap (λ (z : List ℕ). z ++ v) f) in
    absurd (distinct 48 49 (cc) refl)
esc_head x y u v (tilde p e) (plain q r f) h =
    let k : 126 ∷ 48 ∷ u ≡ y ∷ v = ap (λ (z : List ℕ). z ++ u) (sym e) ∙ (h ∙ ap (λ (z : List ℕ). z ++ v) f) in
    let n : y ≡ 126 = cc in absurd (q n)
esc_head x y u v (slash p e) (tilde q f) h =
    let k : 126 ∷ 49 ∷ u ≡ 126 ∷ 48 ∷ v = ap (λ (z : List ℕ). z ++ u) (sym e) ∙ (h ∙ ap (λ (z : List ℕ). z ++ v) f) in
    absurd (distinct 49 48 (cc) refl)
esc_head x y u v (slash p e) (slash q f) h =
    let k : 126 ∷ 49 ∷ u ≡ 126 ∷ 49 ∷ v = ap (λ (z : List ℕ). z ++ u) (sym e) ∙ (h ∙ ap (λ (z : List ℕ). z ++ v) f) in
    (p ∙ sym q, cc)
esc_head x y u v (slash p e) (plain q r f) h =
    let k : 126 ∷ 49 ∷ u ≡ y ∷ v = ap (λ (z : List ℕ). z ++ u) (sym e) ∙ (h ∙ ap (λ (z : List ℕ). z ++ v) f) in
    let n : y ≡ 126 = cc in absurd (q n)
esc_head x y u v (plain p o e) (tilde q f) h =
    let k : x ∷ u ≡ 126 ∷ 48 ∷ v = ap (λ (z : List ℕ). z ++ u) (sym e) ∙ (h ∙ ap (λ (z : List ℕ). z ++ v) f) in
    let n : x ≡ 126 = cc in absurd (p n)
esc_head x y u v (plain p o e) (slash q f) h =
    let k : x ∷ u ≡ 126 ∷ 49 ∷ v = ap (λ (z : List ℕ). z ++ u) (sym e) ∙ (h ∙ ap (λ (z : List ℕ). z ++ v) f) in
    let n : x ≡ 126 = cc in absurd (p n)
esc_head x y u v (plain p o e) (plain q r f) h =
    let k : x ∷ u ≡ y ∷ v = ap (λ (z : List ℕ). z ++ u) (sym e) ∙ (h ∙ ap (λ (z : List ℕ). z ++ v) f) in
    (cc, cc)

esc_some : (x : ℕ) (u : List ℕ) → Esc x → esc x ++ u ≡ [] → ⊥
esc_some x u (tilde p e) h = (let k : 126 ∷ 48 ∷ u ≡ [] = ap (λ (z : List ℕ). z ++ u) (sym e) ∙ h in cc)
esc_some x u (slash p e) h = (let k : 126 ∷ 49 ∷ u ≡ [] = ap (λ (z : List ℕ). z ++ u) (sym e) ∙ h in cc)
esc_some x u (plain p o e) h = (let k : x ∷ u ≡ [] = ap (λ (z : List ℕ). z ++ u) (sym e) ∙ h in cc)

-- What follows the spelling of the first bytes is the spelling of the others.
pub record Left (r : List ℕ) : Type 0 where
  pub rest : List ℕ
  pub spelled : r ≡ escaped_step rest

pub spelled_left : (xs other r : List ℕ) → escaped_step xs ++ r ≡ escaped_step other → Left r
spelled_left [] other r e = record { rest = other; spelled = e }
spelled_left (x ∷ xs) [] r e = absurd (esc_some x (escaped_step xs ++ r) (esc_of x) (sym (append_assoc (esc x) (escaped_step xs) r) ∙ e))
spelled_left (x ∷ xs) (y ∷ ys) r e =
    spelled_left xs ys r (esc_head x y (escaped_step xs ++ r) (escaped_step ys) (esc_of x) (esc_of y) (sym (append_assoc (esc x) (escaped_step xs) r) ∙ e)).1

pub one_step : (xs ys : List ℕ) → escaped_step xs ≡ escaped_step ys → xs ≡ ys
one_step [] [] e = refl
one_step [] (y ∷ ys) e = absurd (esc_some y (escaped_step ys) (esc_of y) (sym e))
one_step (x ∷ xs) [] e = absurd (esc_some x (escaped_step xs) (esc_of x) e)
one_step (x ∷ xs) (y ∷ ys) e =
    let h = esc_head x y (escaped_step xs) (escaped_step ys) (esc_of x) (esc_of y) e in
    ap (λ (z : ℕ). z ∷ xs) h.0 ∙ ap (λ (zs : List ℕ). y ∷ zs) (one_step xs ys h.1)

pub one_steps : (xs ys : List (List ℕ)) → map escaped_step xs ≡ map escaped_step ys → xs ≡ ys
one_steps [] [] e = refl
one_steps [] (y ∷ ys) e = absurd (cc)
one_steps (x ∷ xs) [] e = absurd (cc)
one_steps (x ∷ xs) (y ∷ ys) e =
    let h : escaped_step x ≡ escaped_step y = cc in
    let t : map escaped_step xs ≡ map escaped_step ys = cc in
    ap (λ (z : List ℕ). z ∷ xs) (one_step x y h) ∙ ap (λ (zs : List (List ℕ)). y ∷ zs) (one_steps xs ys t)

esc_lacks : (x : ℕ) → Esc x → All (λ b. b ≢ 47) (esc x)
esc_lacks x (tilde p e) = subst (All (λ b. b ≢ 47)) (sym e) (All-cons (λ b. b ≢ 47) 126 (48 ∷ []) (λ h. omega arith) (All-cons (λ b. b ≢ 47) 48 [] (λ h. omega arith) (All-nil (λ b. b ≢ 47))))
esc_lacks x (slash p e) = subst (All (λ b. b ≢ 47)) (sym e) (All-cons (λ b. b ≢ 47) 126 (49 ∷ []) (λ h. omega arith) (All-cons (λ b. b ≢ 47) 49 [] (λ h. omega arith) (All-nil (λ b. b ≢ 47))))
esc_lacks x (plain p o e) = subst (All (λ b. b ≢ 47)) (sym e) (All-cons (λ b. b ≢ 47) x [] o (All-nil (λ b. b ≢ 47)))

-- no spelling of a step has a '/'
escaped_lacks : (xs : List ℕ) → All (λ b. b ≢ 47) (escaped_step xs)
escaped_lacks [] = All-nil (λ b. b ≢ 47)
escaped_lacks (x ∷ xs) = All-append (λ b. b ≢ 47) (esc x) (escaped_step xs) (esc_lacks x (esc_of x)) (escaped_lacks xs)

pub all_escaped_lack : (xs : List (List ℕ)) → EachLacks 47 (map escaped_step xs)
all_escaped_lack [] = All-nil (λ text. All (λ b. b ≢ 47) text)
all_escaped_lack (x ∷ xs) = All-cons (λ text. All (λ b. b ≢ 47) text) (escaped_step x) (map escaped_step xs) (escaped_lacks x) (all_escaped_lack xs)

-- what has neither '~' nor '/' spells itself
pub spells_itself : (xs : List ℕ) → All (λ b. b ≢ 47) xs → All (λ b. b ≢ 126) xs → escaped_step xs ≡ xs
spells_itself [] h k = refl
spells_itself (x ∷ xs) h k = self (esc_of x) ∙ ap (λ (zs : List ℕ). x ∷ zs) (spells_itself xs (All-tail (λ b. b ≢ 47) x xs h) (All-tail (λ b. b ≢ 126) x xs k))
  where
    self : Esc x → escaped_step (x ∷ xs) ≡ x ∷ escaped_step xs
    self (tilde p e) = absurd (All-head (λ b. b ≢ 126) x xs k p)
    self (slash p e) = absurd (All-head (λ b. b ≢ 47) x xs h p)
    self (plain p o e) = ap (λ (z : List ℕ). z ++ escaped_step xs) e

pub escaped_append : (xs ys : List ℕ) → escaped_step (xs ++ ys) ≡ escaped_step xs ++ escaped_step ys
escaped_append [] ys = refl
escaped_append (x ∷ xs) ys = ap (λ (z : List ℕ). esc x ++ z) (escaped_append xs ys) ∙ sym (append_assoc (esc x) (escaped_step xs) (escaped_step ys))

-- No step spells a '~' that begins no escape.
pub no_spelling : (behind other : List ℕ) → 126 ∷ behind ≡ escaped_step other → ((rest : List ℕ) → (behind ≢ 48 ∷ rest) × (behind ≢ 49 ∷ rest)) → ⊥
no_spelling behind [] e none = (cc)
no_spelling behind (y ∷ ys) e none = from (esc_of y)
  where
    from : Esc y → ⊥
    from (tilde p f) = (let k : 126 ∷ behind ≡ 126 ∷ 48 ∷ escaped_step ys = e ∙ ap (λ (z : List ℕ). z ++ escaped_step ys) f in let t : behind ≡ 48 ∷ escaped_step ys = cc in (none (escaped_step ys)).0 t)
    from (slash p f) = (let k : 126 ∷ behind ≡ 126 ∷ 49 ∷ escaped_step ys = e ∙ ap (λ (z : List ℕ). z ++ escaped_step ys) f in let t : behind ≡ 49 ∷ escaped_step ys = cc in (none (escaped_step ys)).1 t)
    from (plain p o f) = (let k : 126 ∷ behind ≡ y ∷ escaped_step ys = e ∙ ap (λ (z : List ℕ). z ++ escaped_step ys) f in let n : y ≡ 126 = cc in p n)
