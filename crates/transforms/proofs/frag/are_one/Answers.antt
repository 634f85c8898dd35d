use Rattle.std.proofs.Common.{◌≡◌, ◌<◌, ◌≤◌, List, [], ◌∷◌, length, get_or, refl, sym, ap, ◌∙◌, arith}
use Rattle.std.proofs.lemmas.Slice.Eq.{bytes_eq-Decides}
use Rattle.transforms.proofs.frag.are_one.Goals as goal

-- the one item of a list
alone : {A : Type 0} (xs : List A) (x : A) → 1 ≤ length xs → length xs < 2 → xs ≡ get_or xs 0 x ∷ []
alone [] x some few = absurd (omega (arith, some))
alone (y ∷ []) x some few = refl
alone (y ∷ z ∷ zs) x some few = absurd (omega (arith, few))

pub returns-in-len1 : goal.returns-in-len1
returns-in-len1 c =
    let only : c.args.names.now ≡ c.only-item.result ∷ [] = alone c.args.names.now c.only-item.result c.in-len1.len_at_least c.in-len1.len_below ∙ ap (λ x. x ∷ []) (sym c.only-item.is) in
    let told = bytes_eq-Decides c.as_slice.result.now c.args.name.now in (
      (λ same. only ∙ ap (λ x. x ∷ []) (sym c.as_slice.ensures ∙ told.0 (sym c.eq.ensures ∙ same))),
      (λ one. c.eq.ensures ∙ told.1 (c.as_slice.ensures ∙ ap (λ xs. get_or xs 0 []) (sym only ∙ one))),
    )
