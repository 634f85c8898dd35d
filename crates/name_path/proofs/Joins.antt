-- Texts that are joined from pieces can be cut again in one way.
use Rattle.std.proofs.Common.{◌≡◌, ◌≢◌, ℕ, false, List, [], ◌∷◌, ◌++◌, inl, inr, refl, sym, ap, ◌∙◌, subst, map, All, arith, ◌==◌}
use Rattle.std.specs.List.{flat_map, join_with_byte, slice_split, onto_first}
use Rattle.std.proofs.lemmas.Bool.{cases_eq, eq-eqb}
use Rattle.std.proofs.lemmas.Bool.Decides.{nat_tests}
use Rattle.std.proofs.lemmas.List.Elements.{All-cons, All-nil, All-head, All-tail}
use Rattle.std.proofs.lemmas.List.Splits.{slice_split_none, slice_split_at, slice_split-cons_yes, slice_split-cons_no}
use Rattle.name_path.specs.Reference.{escaped_step, pointer_text, path_text, curly_text}
use Rattle.name_path.specs.inner.Pieces.{EachLacks, ArePlain}
use Rattle.name_path.proofs.Escaping.{distinct, one_steps, all_escaped_lack}

neq : (a b : ℕ) → (a ≡ b → ⊥) → (a == b) ≡ false
neq a b ne = grind (arith, nat_tests)

none : (c : ℕ) (xs : List ℕ) → All (λ b. b ≢ c) xs → All (λ b. (b == c) ≡ false) xs
none c xs h = λ k d less. neq _ c (h k d less)

pub split_join : (c : ℕ) (x : List ℕ) (xs : List (List ℕ)) → EachLacks c (x ∷ xs) → slice_split (λ b. b == c) (join_with_byte c (x ∷ xs)) ≡ x ∷ xs
split_join c x [] h = slice_split_none (λ b. b == c) x (none c x (All-head (λ text. All (λ b. b ≢ c) text) x [] h))
split_join c x (y ∷ ys) h =
    slice_split_at (λ b. b == c) x c (join_with_byte c (y ∷ ys)) (none c x (All-head (λ text. All (λ b. b ≢ c) text) x (y ∷ ys) h)) (eq-eqb c c refl)
    ∙ ap (λ (zs : List (List ℕ)). x ∷ zs) (split_join c y ys (All-tail (λ text. All (λ b. b ≢ c) text) x (y ∷ ys) h))

-- the pieces have no byte at which the text was cut
pub pieces_lack : (c : ℕ) (bs : List ℕ) → EachLacks c (slice_split (λ b. b == c) bs)
pieces_lack c [] = All-cons (λ text. All (λ b. b ≢ c) text) [] [] (All-nil (λ b. b ≢ c)) (All-nil (λ text. All (λ b. b ≢ c) text))
pieces_lack c (x ∷ xs) = elim (cases_eq x c) [
  | inl p ↦ subst (EachLacks c) (sym (slice_split-cons_yes (λ b. b == c) x xs (eq-eqb x c p))) (All-cons (λ text. All (λ b. b ≢ c) text) [] (slice_split (λ b. b == c) xs) (All-nil (λ b. b ≢ c)) (pieces_lack c xs))
  | inr q ↦ subst (EachLacks c) (sym (slice_split-cons_no (λ b. b == c) x xs (neq x c q))) (onto (slice_split (λ b. b == c) xs) q (pieces_lack c xs))
]
  where
    onto : (parts : List (List ℕ)) → (x ≡ c → ⊥) → EachLacks c parts → EachLacks c (onto_first x parts)
    onto [] q h = All-cons (λ text. All (λ b. b ≢ c) text) (x ∷ []) [] (All-cons (λ b. b ≢ c) x [] q (All-nil (λ b. b ≢ c))) (All-nil (λ text. All (λ b. b ≢ c) text))
    onto (part ∷ parts) q h = All-cons (λ text. All (λ b. b ≢ c) text) (x ∷ part) parts
        (All-cons (λ b. b ≢ c) x part q (All-head (λ text. All (λ b. b ≢ c) text) part parts h)) (All-tail (λ text. All (λ b. b ≢ c) text) part parts h)

pub tail_lacks : (c : ℕ) (x : List ℕ) (xs : List (List ℕ)) → EachLacks c (x ∷ xs) → EachLacks c xs
tail_lacks c x xs h = All-tail (λ text. All (λ b. b ≢ c) text) x xs h

onto_some : (x : ℕ) (parts : List (List ℕ)) → onto_first x parts ≡ [] → ⊥
onto_some x [] e = (cc)
onto_some x (part ∷ parts) e = (cc)

pub some_piece : (c : ℕ) (bs : List ℕ) → slice_split (λ b. b == c) bs ≡ [] → ⊥
some_piece c [] e = (cc)
some_piece c (x ∷ xs) e = elim (cases_eq x c) [
  | inl p ↦ (let k : [] ∷ slice_split (λ b. b == c) xs ≡ [] = sym (slice_split-cons_yes (λ b. b == c) x xs (eq-eqb x c p)) ∙ e in absurd (cc))
  | inr q ↦ onto_some x (slice_split (λ b. b == c) xs) (sym (slice_split-cons_no (λ b. b == c) x xs (neq x c q)) ∙ e)
]

append_nil : (xs : List ℕ) → xs ++ [] ≡ xs
append_nil [] = refl
append_nil (x ∷ xs) = ap (λ (zs : List ℕ). x ∷ zs) (append_nil xs)

-- the steps of a pointer are joined by '/'
pub steps_join : (s : List ℕ) (ss : List (List ℕ)) → flat_map (λ step. 47 ∷ escaped_step step) (s ∷ ss) ≡ 47 ∷ join_with_byte 47 (map escaped_step (s ∷ ss))
steps_join s [] = append_nil (47 ∷ escaped_step s)
steps_join s (t ∷ ts) = ap (λ (zs : List ℕ). (47 ∷ escaped_step s) ++ zs) (steps_join t ts)

-- names joined by '.'
pub names_join : (x : List ℕ) (xs : List (List ℕ)) → x ++ flat_map (λ name. 46 ∷ name) xs ≡ path_text (x ∷ xs)
names_join x [] = append_nil x
names_join x (y ∷ ys) = ap (λ (zs : List ℕ). x ++ 46 ∷ zs) (names_join y ys)

pub one_pointer : (xs ys : List (List ℕ)) → pointer_text xs ≡ pointer_text ys → xs ≡ ys
one_pointer [] [] e = refl
one_pointer [] (y ∷ ys) e = absurd (cc)
one_pointer (x ∷ xs) [] e = absurd (cc)
one_pointer (x ∷ xs) (y ∷ ys) e =
    let flat : flat_map (λ step. 47 ∷ escaped_step step) (x ∷ xs) ≡ flat_map (λ step. 47 ∷ escaped_step step) (y ∷ ys) = cc in
    let joined : 47 ∷ join_with_byte 47 (map escaped_step (x ∷ xs)) ≡ 47 ∷ join_with_byte 47 (map escaped_step (y ∷ ys)) = sym (steps_join x xs) ∙ (flat ∙ steps_join y ys) in
    let rest : join_with_byte 47 (map escaped_step (x ∷ xs)) ≡ join_with_byte 47 (map escaped_step (y ∷ ys)) = cc in
    one_steps (x ∷ xs) (y ∷ ys)
    (sym (split_join 47 (escaped_step x) (map escaped_step xs) (all_escaped_lack (x ∷ xs)))
    ∙ (ap (slice_split (λ b. b == 47)) rest ∙ split_join 47 (escaped_step y) (map escaped_step ys) (all_escaped_lack (y ∷ ys))))

pub one_front : (xs ys : List ℕ) (c : ℕ) → xs ++ c ∷ [] ≡ ys ++ c ∷ [] → xs ≡ ys
one_front [] [] c e = refl
one_front [] (y ∷ []) c e = absurd (cc)
one_front [] (y ∷ z ∷ ys) c e = absurd (cc)
one_front (x ∷ []) [] c e = absurd (cc)
one_front (x ∷ z ∷ xs) [] c e = absurd (cc)
one_front (x ∷ xs) (y ∷ ys) c e =
    let h : x ≡ y = cc in
    let t : xs ++ c ∷ [] ≡ ys ++ c ∷ [] = cc in
    ap (λ (z : ℕ). z ∷ xs) h ∙ ap (λ (zs : List ℕ). y ∷ zs) (one_front xs ys c t)

pub inside_one : (xs ys : List ℕ) → 123 ∷ (xs ++ 125 ∷ []) ≡ 123 ∷ (ys ++ 125 ∷ []) → xs ≡ ys
inside_one xs ys e = (let t : xs ++ 125 ∷ [] ≡ ys ++ 125 ∷ [] = cc in one_front xs ys 125 t)

-- plain texts are the pieces of what they are joined to
pub pieces_of : (path : List (List ℕ)) → ArePlain path → slice_split (λ b. b == 46) (path_text path) ≡ path
pieces_of [] p = absurd (p.0 refl)
pieces_of (x ∷ xs) p = split_join 46 x xs p.1

pub one_curly : (path other : List (List ℕ)) → ArePlain path → ArePlain other → curly_text path ≡ curly_text other → path ≡ other
one_curly path other p q e = sym (pieces_of path p) ∙ (ap (slice_split (λ b. b == 46)) (inside_one (path_text path) (path_text other) e) ∙ pieces_of other q)

pub apart_texts : (path other : List (List ℕ)) → pointer_text path ≡ curly_text other → ⊥
apart_texts path other e = distinct 35 123 (cc) refl
