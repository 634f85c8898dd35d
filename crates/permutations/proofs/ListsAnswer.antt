-- Each plan is within the limits, or beyond one of them.
use Rattle.std.proofs.Common.{ℕ, ◌<◌, ◌≤◌, ◌⊎◌, inl, inr, length, refl}
use Rattle.std.proofs.lemmas.Bool.{cases_lt}
use Rattle.resolver_doc.specs.Document.{ResolverData}
use Rattle.permutations.specs.Answer.{told_number, IsWithin, IsTooMany, IsTooManySources, most_permutations, sources_limit}
use Rattle.permutations.specs.Laws.{EachListAnswers}
use Rattle.permutations.specs.Permutation.{permutations, most_sources}

judged : (plan : ResolverData)
    → (most_permutations < length (permutations plan)) ⊎ (length (permutations plan) ≤ most_permutations)
    → (sources_limit < most_sources plan) ⊎ (most_sources plan ≤ sources_limit)
    → IsWithin plan ⊎ (((n : ℕ) × IsTooMany plan n) ⊎ ((n : ℕ) × IsTooManySources plan n))
judged plan (inl many) sources = inr (inl (told_number (length (permutations plan)), record { many = many; number = refl }))
judged plan (inr few) (inl many) = inr (inr (told_number (most_sources plan), record { few = few; many = many; number = refl }))
judged plan (inr few) (inr short) = inl (record { few = few; short = short })

pub lists_answer : EachListAnswers
lists_answer plan =
    judged plan (cases_lt most_permutations (length (permutations plan))) (cases_lt sources_limit (most_sources plan))
