-- Any files have a plan.
use Rattle.std.proofs.Common.{ℕ, Some, None, inl, inr, ◌⊎◌, refl}
use Rattle.json_span.specs.Answer.{Answer, shows, flawed, stops}
use Rattle.json_span.specs.Laws.{EachHasAnswer}
use Rattle.json_span.specs.Tree.{Placed}
use Rattle.resolver_doc.specs.Answer.{IsUnbroken}
use Rattle.resolver_doc.specs.Document.{ResolverData, resolver_of}
use Rattle.resolver_doc.specs.Laws.{IsBroken, EachDocumentAnswers}
use Rattle.permutations.specs.Answer.{IsWithin, IsTooMany, IsTooManySources}
use Rattle.permutations.specs.Laws.{EachListAnswers}
use Rattle.permutations.specs.Permutation.{permutations}
use Rattle.file_plan.specs.Plan.{stopped, has_flaw, breaks, too_many, too_many_sources, Planned, planned, refused, default_plan, order_start, order_end, OfDocument, broken, many, long, listed, OfAnswer}
use Rattle.file_plan.specs.Laws.{EachPlan}

-- a plan within the limits, or beyond one of them
abbrev IsJudged : ResolverData → Type 0
IsJudged plan = IsWithin plan ⊎ (((n : ℕ) × IsTooMany plan n) ⊎ ((n : ℕ) × IsTooManySources plan n))

of_limits : (root : Placed) → IsUnbroken root → IsJudged (resolver_of root) → (p : Planned) × OfDocument root p
of_limits root sound (inl within) = (planned (permutations (resolver_of root)), listed sound within)
of_limits root sound (inr (inl (n, is))) = (refused (too_many (order_start root) (order_end root) n), many n sound is)
of_limits root sound (inr (inr (n, is))) =
    (refused (too_many_sources (order_start root) (order_end root) n), long n sound is)

module _ (answered : EachHasAnswer) (documents : EachDocumentAnswers) (lists : EachListAnswers) where
  of_document : (root : Placed) → IsUnbroken root ⊎ IsBroken root → (p : Planned) × OfDocument root p
  of_document root (inl sound) = of_limits root sound (lists (resolver_of root))
  of_document root (inr (told, ring, is)) = (refused (breaks told ring), broken told ring is)

  of_answer : (answer : Answer) → (p : Planned) × OfAnswer answer p
  of_answer (shows root) = of_document root (documents root)
  of_answer (flawed f) = (refused (has_flaw f), refl)
  of_answer (stops at) = (refused (stopped at), refl)

  pub each_plan : EachPlan
  each_plan None = (planned default_plan, refl)
  each_plan (Some text) =
      let (answer, is) = answered text in
      let (p, of) = of_answer answer in
      (p, (answer, is, of))
