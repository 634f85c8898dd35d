-- A plan that is refused tells a rule that is broken, and a plan with permutations breaks none.
use Rattle.std.proofs.Common.{◌≡◌, ℕ, List, refl, sym, subst}
use Rattle.json_span.specs.Answer.{Answer, IsAnswer, shows, flawed, stops}
use Rattle.json_span.specs.Tree.{Placed}
use Rattle.resolver_doc.specs.Rules.{UnbrokenBreaksNone, NoneBrokenIsUnbroken, ToldIsFirstBroken}
use Rattle.permutations.specs.Permutation.{Permutation}
use Rattle.file_plan.specs.Plan.{PlanBreak, Planned, planned, refused, OfDocument, broken, many, long, listed, OfAnswer}
use Rattle.file_plan.specs.Laws.{IsTold, told_stop, told_flaw, told_rule, told_many, told_long, RefusalsTell, IsPlanned, PlannedBreakNone, NoneBrokenIsPlanned}

same_break : {a b : PlanBreak} → refused a ≡ refused b → a ≡ b
same_break e = cc

same_perms : {a b : List Permutation} → planned a ≡ planned b → a ≡ b
same_perms e = cc

module _ (none : UnbrokenBreaksNone) (unbroken : NoneBrokenIsUnbroken) (first : ToldIsFirstBroken) where
  of_document : (text : List ℕ) (root : Placed) (p : Planned) (b : PlanBreak) → IsAnswer text (shows root) → OfDocument root p → p ≡ refused b → IsTold text b
  of_document text root p b is (broken told ring x) e = subst (IsTold text) (same_break e) (told_rule is (first root told ring x))
  of_document text root p b is (many n u x) e = subst (IsTold text) (same_break e) (told_many is (none root u) x)
  of_document text root p b is (long n u x) e = subst (IsTold text) (same_break e) (told_long is (none root u) x)
  of_document text root p b is (listed u x) e = cc

  of_answer : (text : List ℕ) (answer : Answer) (b : PlanBreak) → IsAnswer text answer → OfAnswer answer (refused b) → IsTold text b
  of_answer text (shows root) b is of = of_document text root (refused b) b is of refl
  of_answer text (flawed f) b is of = subst (IsTold text) (sym (same_break of)) (told_flaw is)
  of_answer text (stops at) b is of = subst (IsTold text) (sym (same_break of)) (told_stop is)

  pub refusals_tell : RefusalsTell
  refusals_tell text b (answer, is, of) = of_answer text answer b is of

  planned_so : (text : List ℕ) (root : Placed) (p : Planned) (perms : List Permutation) → IsAnswer text (shows root) → OfDocument root p → p ≡ planned perms → IsPlanned text perms
  planned_so text root p perms is (broken told ring x) e = cc
  planned_so text root p perms is (many n u x) e = cc
  planned_so text root p perms is (long n u x) e = cc
  planned_so text root p perms is (listed u x) e = record { root = root; shown = is; none = none root u; within = x; planned_so = sym (same_perms e) }

  planned_by : (text : List ℕ) (answer : Answer) (perms : List Permutation) → IsAnswer text answer → OfAnswer answer (planned perms) → IsPlanned text perms
  planned_by text (shows root) perms is of = planned_so text root (planned perms) perms is of refl
  planned_by text (flawed f) perms is of = cc
  planned_by text (stops at) perms is of = cc

  pub planned_break_none : PlannedBreakNone
  planned_break_none text perms (answer, is, of) = planned_by text answer perms is of

  pub none_broken_is_planned : NoneBrokenIsPlanned
  none_broken_is_planned text perms p =
      (shows p.root, p.shown, subst (λ (ps : List Permutation). OfDocument p.root (planned ps)) (sym p.planned_so) (listed (unbroken p.root p.none) p.within))
