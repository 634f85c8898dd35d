-- Tokens of a plan stand in the resolver document, and its permutations have different names.
use Rattle.std.proofs.Common.{◌≡◌, ℕ, List, [], ◌∷◌, Some, None, codes, map, refl, sym, subst, inl, inr}
use Rattle.ring.specs.Lists.{In, AreApart}
use Rattle.json_span.specs.Answer.{Answer, IsAnswer, shows, flawed, stops}
use Rattle.json_span.specs.Tree.{Placed}
use Rattle.resolver_doc.specs.Document.{resolver_of}
use Rattle.resolver_doc.specs.Laws.{ContextsAreApart}
use Rattle.permutations.specs.Laws.{InlinesArePart, NamesAreApart as ListedApart}
use Rattle.permutations.specs.Permutation.{Permutation, permutations, file, inline}
use Rattle.file_plan.specs.Plan.{Planned, planned, default_plan, OfDocument, listed, broken, many, long, OfAnswer}
use Rattle.file_plan.specs.Laws.{InlinesStand, NamesAreApart, IsPartOfText}

-- a plan of a document is that of its permutations
listed_only : (root : Placed) (p : Planned) (perms : List Permutation) → OfDocument root p → p ≡ planned perms → permutations (resolver_of root) ≡ perms
listed_only root p perms (broken told ring is) e = cc
listed_only root p perms (many n u is) e = cc
listed_only root p perms (long n u is) e = cc
listed_only root p perms (listed u is) e = cc

no_inline : (p : Permutation) (n : Placed) → In p default_plan → In (inline n) p.sources → ⊥
no_inline p n (inl e) i = at (subst (λ (x : Permutation). In (inline n) x.sources) e i)
  where
    at : In (inline n) (file (codes "tokens.json") 0 0 ∷ []) → ⊥
    at (inl k) = cc
    at (inr none) = none
no_inline p n (inr none) i = none

module _ (parts : InlinesArePart) where
  of_answer : (text : List ℕ) (answer : Answer) (perms : List Permutation) → IsAnswer text answer → OfAnswer answer (planned perms)
      → (p : Permutation) → In p perms → (n : Placed) → In (inline n) p.sources → IsPartOfText (Some text) n
  of_answer text (shows root) perms is of p i n j = record {
    document = text;
    there = refl;
    root = root;
    shown = is.0;
    flawless = is.1;
    part = parts root p (subst (λ (ps : List Permutation). In p ps) (sym (listed_only root (planned perms) perms of refl)) i) n j;
  }
  of_answer text (flawed f) perms is of p i n j = cc
  of_answer text (stops at) perms is of p i n j = cc

  pub inlines_stand : InlinesStand
  inlines_stand None perms of p i n j = (let same : perms ≡ default_plan = cc in absurd (no_inline p n (subst (λ (ps : List Permutation). In p ps) same i) j))
  inlines_stand (Some text) perms of p i n j = of_answer text of.0 perms of.1 of.2 p i n j

module _ (apart : ContextsAreApart) (names : ListedApart) where
  names_of_answer : (text : List ℕ) (answer : Answer) (perms : List Permutation) → IsAnswer text answer → OfAnswer answer (planned perms) → AreApart (map (λ p. p.name) perms)
  names_of_answer text (shows root) perms is of =
      subst (λ (ps : List Permutation). AreApart (map (λ p. p.name) ps)) (listed_only root (planned perms) perms of refl) (names (resolver_of root) (apart root is.1))
  names_of_answer text (flawed f) perms is of = cc
  names_of_answer text (stops at) perms is of = cc

  pub names_are_apart : NamesAreApart
  names_are_apart None perms of = (let same : perms ≡ default_plan = cc in subst (λ (ps : List Permutation). AreApart (map (λ p. p.name) ps)) (sym same) (λ i. i, tt))
  names_are_apart (Some text) perms of = names_of_answer text of.0 perms of.1 of.2
