-- The name of a permutation tells its choices.
use Rattle.std.proofs.Common.{◌≡◌, ℕ, List, [], ◌∷◌, ◌++◌, append_assoc, append-nil, refl, sym, ap, ap₂, ◌∙◌, inl, inr, codes}
use Rattle.permutations.specs.Name.{escaped_name, Choice, label, name_of, NamesTellChoices}
use Rattle.permutations.proofs.Escapes.{IsEnd, Split, name_split}

-- the labels after the first, each with '+' before it
abbrev pub behind : List Choice → List ℕ
behind [] = []
behind (c ∷ cs) = 43 ∷ (label c ++ behind cs)

behind_ends : (cs : List Choice) → IsEnd (behind cs)
behind_ends [] = tt
behind_ends (c ∷ cs) = inl refl

pub joined : (c : Choice) (cs : List Choice) → name_of (c ∷ cs) ≡ label c ++ behind cs
joined c [] = sym (append-nil (label c))
joined c (d ∷ ds) = ap (λ rest. label c ++ 43 ∷ rest) (joined d ds)

around : (e : Choice) (t : List ℕ) → escaped_name e.modifier ++ 61 ∷ (escaped_name e.context ++ t) ≡ label e ++ t
around e t = simp append_assoc

behind_sign : (r s : List ℕ) → 61 ∷ r ≡ 61 ∷ s → r ≡ s
behind_sign r s e = cc

label_split : (c d : Choice) (r s : List ℕ) → IsEnd r → IsEnd s → label c ++ r ≡ label d ++ s → Split c d r s
label_split c d r s er es is =
    let choice : List ℕ → List ℕ → Choice = λ m x. record { modifier = m; context = x } in
    let modifier = name_split c.modifier d.modifier (61 ∷ (escaped_name c.context ++ r)) (61 ∷ (escaped_name d.context ++ s)) (inr refl) (inr refl) (around c r ∙ (is ∙ sym (around d s))) in
    let context = name_split c.context d.context r s er es (behind_sign (escaped_name c.context ++ r) (escaped_name d.context ++ s) modifier.rest) in
    record { front = ap₂ choice modifier.front context.front; rest = context.rest }

choices_same : (cs ds : List Choice) → behind cs ≡ behind ds → cs ≡ ds
choices_same [] [] is = refl
choices_same [] (d ∷ ds) is = cc
choices_same (c ∷ cs) [] is = cc
choices_same (c ∷ cs) (d ∷ ds) is =
    let h : label c ++ behind cs ≡ label d ++ behind ds = cc in
    let first = label_split c d (behind cs) (behind ds) (behind_ends cs) (behind_ends ds) h in
    ap₂ (λ e es. e ∷ es) first.front (choices_same cs ds first.rest)

-- `default` has no sign
default_alone : (d : Choice) (ds : List Choice) → codes "default" ≡ label d ++ behind ds → ⊥
default_alone d ds is =
    let split = name_split (codes "default") d.modifier [] (61 ∷ (escaped_name d.context ++ behind ds)) tt (inr refl) (is ∙ sym (around d (behind ds))) in
    let rest : [] ≡ 61 ∷ (escaped_name d.context ++ behind ds) = split.rest in
    cc

pub names_tell_choices : NamesTellChoices
names_tell_choices [] [] is = refl
names_tell_choices [] (d ∷ ds) is = absurd (default_alone d ds (is ∙ joined d ds))
names_tell_choices (c ∷ cs) [] is = absurd (default_alone c cs (sym is ∙ joined c cs))
names_tell_choices (c ∷ cs) (d ∷ ds) is =
    let first = label_split c d (behind cs) (behind ds) (behind_ends cs) (behind_ends ds) (sym (joined c cs) ∙ (is ∙ joined d ds)) in
    ap₂ (λ e es. e ∷ es) first.front (choices_same cs ds first.rest)
