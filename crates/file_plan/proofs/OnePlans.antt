-- Files have one plan.
use Rattle.std.proofs.Common.{◌≡◌, ◌≢◌, ℕ, List, Some, None, refl, sym, ap, ◌∙◌, subst, arith}
use Rattle.json_span.specs.Answer.{Answer, shows, flawed, stops}
use Rattle.json_span.specs.Laws.{OneAnswer}
use Rattle.json_span.specs.Tree.{Placed}
use Rattle.resolver_doc.specs.Answer.{IsUnbroken, IsPlanBreak}
use Rattle.resolver_doc.specs.Laws.{OneFault, UnbrokenIsNotRefused}
use Rattle.resolver_doc.specs.declared.rule.Break.{Break}
use Rattle.resolver_doc.specs.declared.rule.PlanRule.{PlanRule}
use Rattle.resolver_doc.specs.declared.fault.PlanFault.{PlanFault}
use Rattle.resolver_doc.specs.declared.fault.PlanFault.TheVariants.{Broken, NoMemory}
use Rattle.file_plan.specs.Plan.{breaks, too_many, too_many_sources, Planned, refused, order_start, order_end, OfDocument, broken, many, long, listed, OfAnswer}
use Rattle.file_plan.specs.Laws.{OnePlan}

told_same : (a b : PlanRule) (i j m n : ℕ) (r q : List (List ℕ)) → Broken a i m r ≡ Broken b j n q
    → breaks (record { rule = a; start = i; end = m }) r ≡ breaks (record { rule = b; start = j; end = n }) q
told_same a b i j m n r q e = cc

module _ (one : OneAnswer) (one_fault : OneFault) (sound : UnbrokenIsNotRefused) where
  abbrev fault_of : Break → List (List ℕ) → PlanFault
  fault_of told ring = Broken told.rule told.start told.end ring

  is_fault : (told : Break) (ring : List (List ℕ)) → fault_of told ring ≢ NoMemory
  is_fault told ring e = cc

  not_both : (root : Placed) (told : Break) (ring : List (List ℕ)) → IsUnbroken root → IsPlanBreak root told ring → ⊥
  not_both root told ring u b = sound root (fault_of told ring) u (is_fault told ring) b

  same_break : (root : Placed) (s t : Break) (r q : List (List ℕ)) → IsPlanBreak root s r → IsPlanBreak root t q → breaks s r ≡ breaks t q
  same_break root s t r q a b =
      told_same s.rule t.rule s.start t.start s.end t.end r q (one_fault root (fault_of s r) (fault_of t q) (is_fault s r) (is_fault t q) a b)

  one_document : (root : Placed) (a b : Planned) → OfDocument root a → OfDocument root b → a ≡ b
  one_document root a b (broken s r p) (broken t q k) = ap refused (same_break root s t r q p k)
  one_document root a b (broken s r p) (many n u w) = absurd (not_both root s r u p)
  one_document root a b (broken s r p) (long n u w) = absurd (not_both root s r u p)
  one_document root a b (broken s r p) (listed u w) = absurd (not_both root s r u p)
  one_document root a b (many n u w) (broken s r p) = absurd (not_both root s r u p)
  one_document root a b (many n u w) (many m v x) = ap (λ (k : ℕ). refused (too_many (order_start root) (order_end root) k)) (w.number ∙ sym x.number)
  one_document root a b (many n u w) (long m v x) = absurd (omega (arith, w.many, x.few))
  one_document root a b (many n u w) (listed v x) = absurd (omega (arith, w.many, x.few))
  one_document root a b (long n u w) (broken s r p) = absurd (not_both root s r u p)
  one_document root a b (long n u w) (many m v x) = absurd (omega (arith, w.few, x.many))
  one_document root a b (long n u w) (long m v x) = ap (λ (k : ℕ). refused (too_many_sources (order_start root) (order_end root) k)) (w.number ∙ sym x.number)
  one_document root a b (long n u w) (listed v x) = absurd (omega (arith, w.many, x.short))
  one_document root a b (listed u w) (broken s r p) = absurd (not_both root s r u p)
  one_document root a b (listed u w) (many m v x) = absurd (omega (arith, w.few, x.many))
  one_document root a b (listed u w) (long m v x) = absurd (omega (arith, w.short, x.many))
  one_document root a b (listed u w) (listed v x) = refl

  one_of_answer : (answer : Answer) (a b : Planned) → OfAnswer answer a → OfAnswer answer b → a ≡ b
  one_of_answer (shows root) a b p q = one_document root a b p q
  one_of_answer (flawed f) a b p q = p ∙ sym q
  one_of_answer (stops at) a b p q = p ∙ sym q

  pub one_plan : OnePlan
  one_plan None a b p q = p ∙ sym q
  one_plan (Some text) a b p q = one_of_answer p.0 a b p.2 (subst (λ (x : Answer). OfAnswer x b) (one text q.0 p.0 q.1 p.1) q.2)
