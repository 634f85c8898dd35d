-- No index is spelled `$ref`.
use Rattle.std.proofs.Common.{◌≡◌, ℕ, zero, suc, ◌+◌, ◌<◌, ◌/◌, ◌%◌, ◌==◌, List, [], ◌∷◌, Bool, true, false, cond, ap, refl, arith, codes}
use Rattle.std.specs.Prelude.{nat_lt}
use Rattle.std.specs.Fmt.{decimal, digits, digits_onto, digit_glyph}
use Rattle.std.specs.Str.{bytes_eq}
use Rattle.token_tree.proofs.Names.{same_text}
use Rattle.alias_ref.specs.Written.{of_value, of_ref, role_behind}

-- no text of digits begins with '$'
abbrev Above : List ℕ → Type 0
Above [] = Unit {0}
Above (b ∷ bs) = 36 < b

glyph_above : (b : Bool) (d : ℕ) → 36 < cond b (48 + d) (87 + d)
glyph_above true d = omega arith
glyph_above false d = omega arith

onto_above : (k n : ℕ) (acc : List ℕ) → Above acc → Above (digits_onto k 10 false n acc)
onto_above zero n acc h = h
onto_above (suc k) n acc h = go (n / 10 == 0) (onto_above k (n / 10) (digit_glyph false (n % 10) ∷ acc) (glyph_above (nat_lt (n % 10) 10) (n % 10)))
  where
    go : (b : Bool) → Above (digits_onto k 10 false (n / 10) (digit_glyph false (n % 10) ∷ acc)) → Above (cond b (digit_glyph false (n % 10) ∷ acc) (digits_onto k 10 false (n / 10) (digit_glyph false (n % 10) ∷ acc)))
    go true r = glyph_above (nat_lt (n % 10) 10) (n % 10)
    go false r = r

fails : (b : Bool) → (b ≡ true → ⊥) → b ≡ false
fails true h = absurd (h refl)
fails false h = refl

above_no_ref : (bs : List ℕ) → Above bs → bytes_eq bs (codes "$ref") ≡ false
above_no_ref [] h = refl
above_no_ref (b ∷ bs) h = fails (bytes_eq (b ∷ bs) (codes "$ref")) (λ e. let k = same_text (b ∷ bs) (codes "$ref") e in let first : b ≡ 36 = cc in omega (arith, h, first))

pub index_no_ref : (i : ℕ) → bytes_eq (decimal i) (codes "$ref") ≡ false
unfolding digits
index_no_ref i = above_no_ref (digits_onto 64 10 false i []) (onto_above 64 i [] tt)

pub index_role : (i : ℕ) → role_behind (decimal i) ≡ of_value
index_role i = ap (λ b. cond b of_ref of_value) (index_no_ref i)
