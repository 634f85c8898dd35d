-- What words ask.
use Rattle.std.proofs.Common.{◌≡◌, ◌∙◌, ℕ, List, [], ◌∷◌, codes, ap₂, sym, subst}
use Rattle.name_path.specs.Reference.{SpellsPlace}
use Rattle.name_path.specs.declared.place.Place.{Place}
use Rattle.explain_cli.specs.Asked.{Asks, OneQuestion}
use Rattle.explain_cli.specs.declared.asking.Question.{Question}
use Rattle.explain_cli.specs.declared.asking.Question.TheVariants.{Show, Check}

abbrev Words : Type 0
Words = List (List ℕ)

-- the words behind the first, and of two
first_same : (a b : List ℕ) (xs ys : Words) → a ∷ xs ≡ b ∷ ys → a ≡ b
first_same a b xs ys e = cc

others_same : (a b : List ℕ) (xs ys : Words) → a ∷ xs ≡ b ∷ ys → xs ≡ ys
others_same a b xs ys e = cc

not_both : (xs ys : Words) → codes "show" ∷ xs ≡ codes "check" ∷ ys → ⊥
not_both xs ys e = other (first_same (codes "show") (codes "check") xs ys e)
  where
    other : codes "show" ≡ codes "check" → ⊥
    other f = cc

-- words that ask one thing behind `show`

pub behind_show : (words : Words) (q : Question) → Asks (codes "show" ∷ words) q
    → (perm : List ℕ) × (pointer : List ℕ) × (place : Place) × (words ≡ perm ∷ pointer ∷ []) × SpellsPlace pointer place
behind_show words (Show perm place) (pointer, same, spells) =
    (perm, pointer, place, others_same (codes "show") (codes "show") words (perm ∷ pointer ∷ []) same, spells)
behind_show words (Check path) (same, is) = absurd (not_both words (path ∷ []) same)

pub behind_check : (words : Words) (q : Question) → Asks (codes "check" ∷ words) q → (path : List ℕ) × (words ≡ path ∷ [])
behind_check words (Show perm place) (pointer, same, spells) = absurd (not_both (perm ∷ pointer ∷ []) words (sym same))
behind_check words (Check path) (same, is) = (path, others_same (codes "check") (codes "check") words (path ∷ []) same)

module _ (one : (text : List ℕ) (place other : Place) → SpellsPlace text place → SpellsPlace text other → place ≡ other) where
  shows : (words : Words) (perm name : List ℕ) (place other : Place) → Asks words (Show perm place) → Asks words (Show name other) → Show perm place ≡ Show name other
  shows words perm name place other (pointer, same, spells) (text, same_too, spells_too) =
      let all = others_same (codes "show") (codes "show") (perm ∷ pointer ∷ []) (name ∷ text ∷ []) (sym same ∙ same_too) in
      let names = first_same perm name (pointer ∷ []) (text ∷ []) all in
      let texts = first_same pointer text [] [] (others_same perm name (pointer ∷ []) (text ∷ []) all) in
      ap₂ Show names (one text place other (subst (λ t. SpellsPlace t place) texts spells) spells_too)

  pub one_question : OneQuestion
  one_question words (Show perm place) (Show name other) a b = shows words perm name place other a b
  one_question words (Show perm place) (Check path) (pointer, same, spells) (same_too, is) = absurd (not_both (perm ∷ pointer ∷ []) (path ∷ []) (sym same ∙ same_too))
  one_question words (Check path) (Show perm place) (same, is) (pointer, same_too, spells) = absurd (not_both (perm ∷ pointer ∷ []) (path ∷ []) (sym same_too ∙ same))
  one_question words (Check path) (Check other) (same, is) (same_too, is_too) =
      checks (first_same path other [] [] (others_same (codes "check") (codes "check") (path ∷ []) (other ∷ []) (sym same ∙ same_too)))
    where
      checks : path ≡ other → Check path ≡ Check other
      checks e = cc
