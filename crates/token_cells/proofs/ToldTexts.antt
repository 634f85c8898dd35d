-- What is printed of breaks, one after another: what is there so far, and what is still to come.
use Rattle.std.proofs.Common.{◌≡◌, ℕ, List, [], ◌++◌, map, refl, sym, ap, ◌∙◌}
use Rattle.std.proofs.lemmas.List.{append-nil, append_assoc, map-append}
use Rattle.refusals.specs.Refusal.{Report}

module _ (f : Report → List ℕ) where
  -- the next ones are added
  pub more_told : (texts next all : List (List ℕ)) (own rest : List Report) → next ≡ texts ++ map f own → texts ++ map f (own ++ rest) ≡ all → next ++ map f rest ≡ all
  more_told texts next all own rest is so_far =
      ap (λ ts. ts ++ map f rest) is ∙ (append_assoc texts (map f own) (map f rest) ∙ (ap (λ ts. texts ++ ts) (sym (map-append f own rest)) ∙ so_far))

  -- none is still to come
  pub all_told : (texts all : List (List ℕ)) (rest : List Report) → rest ≡ [] → texts ++ map f rest ≡ all → texts ≡ all
  all_told texts all rest none so_far = sym (append-nil texts) ∙ (ap (λ rs. texts ++ map f rs) (sym none) ∙ so_far)

  -- one after another
  pub both_told : (a b c : List (List ℕ)) (xs ys : List Report) → b ≡ a ++ map f xs → c ≡ b ++ map f ys → c ≡ a ++ map f (xs ++ ys)
  both_told a b c xs ys first second = sym (append-nil c) ∙ more_told b c (a ++ map f (xs ++ ys)) ys [] second
      (ap (λ rs. b ++ map f rs) (append-nil ys) ∙ more_told a b (a ++ map f (xs ++ ys)) xs ys first refl)
