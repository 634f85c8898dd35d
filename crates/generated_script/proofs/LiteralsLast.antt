-- A literal is that of the last edit.
use Rattle.std.proofs.Common.{◌≡◌, ◌∙◌, ◌+◌, ◌-◌, ◌≤◌, ℕ, zero, suc, sym, ap, arith, cond}
use Rattle.std.proofs.lemmas.Bool.{eq-eqb, ne_eqb}
use Rattle.generated_script.specs.Tokens.{edited, literal}

-- an edit of the token gives it its literal
pub changed : (seed size edit i : ℕ) → 1 ≤ edit → edited seed size edit ≡ i → literal seed size edit i ≡ 100 + edit
unfolding literal
changed seed size zero i h e = absurd (omega arith)
changed seed size (suc j) i h e =
    ap (λ b. cond b (100 + suc j) (literal seed size j i)) (eq-eqb (edited seed size (suc j)) i e)

-- any other edit leaves it
pub left : (seed size edit i : ℕ) → 1 ≤ edit → (edited seed size edit ≡ i → ⊥) → literal seed size edit i ≡ literal seed size (edit - 1) i
unfolding literal
left seed size zero i h e = absurd (omega arith)
left seed size (suc j) i h e =
    let before : suc j - 1 ≡ j = omega arith in
    ap (λ b. cond b (100 + suc j) (literal seed size j i)) (ne_eqb (edited seed size (suc j)) i e)
    ∙ ap (λ n. literal seed size n i) (sym before)
