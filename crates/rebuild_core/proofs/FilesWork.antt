-- How much is done for files under a configuration, by what is read and what permutations come to.
use Rattle.std.proofs.Common.{◌≡◌, ℕ, ◌+◌, ◌≤◌, List, [], Option, Ok, sym, ap, subst, arith}
use Rattle.std.specs.FinMap as finite
use Rattle.permutations.specs.Permutation.{Permutation}
use Rattle.file_plan.specs.InUse.{resolver_path, files_in_use}
use Rattle.file_plan.specs.Plan.{Planned, PlanBreak, planned, refused, Plans}
use Rattle.file_plan.specs.View.{plan_view}
use Rattle.file_plan.specs.declared.source.PlanPerm.{PlanPerm}
use Rattle.transforms.specs.Config.{Settings}
use Rattle.tk_io.specs.FilesData.{FilesData}
use Rattle.build_plain.specs.Work.{Work, work, added, IsAtMost, RiseWithin}
use Rattle.rebuild_core.specs.Work.{IsUsed, ReadBeside, AreRead, PermsWorkFrom, PlanWorkFrom, WorkUnderFrom}
use Rattle.rebuild_core.specs.inner.Below.{OneLaws}
use Rattle.rebuild_core.specs.inner.Reading.{ReadsFirst, ReadOthers}
use Rattle.rebuild_core.proofs.NamedPlaces.{resolver_in_use}
use Rattle.rebuild_core.proofs.OneWork.{one_used}
use Rattle.rebuild_core.proofs.FilesRead.{joined, parted}

module _ (before : Option FilesData) (settings : Settings) (files used : FilesData) (is_used : IsUsed before used) where
  abbrev Text : Option (List ℕ)
  Text = finite.get files resolver_path

  all_read : (perms : List Permutation) (r m : ℕ) → ReadsFirst used Text r → ReadOthers used (files_in_use files perms) m → AreRead before (files_in_use files perms) (r + m)
  all_read perms r m first others = (used, is_used, joined used (files_in_use files perms) Text r m (resolver_in_use files perms) first others)

  pub planned_done : (perms : List Permutation) (r m : ℕ) (v w : Work) → Plans Text (planned perms) → ReadsFirst used Text r → ReadOthers used (files_in_use files perms) m
      → PermsWorkFrom before settings files perms v → w ≡ added (work (r + m) 0 0) v → WorkUnderFrom before files (Ok settings) w
  planned_done perms r m v w plans first others is e = (planned perms, plans, (r + m, v, all_read perms r m first others, is, e))

  pub refused_done : (broken : PlanBreak) (r m : ℕ) (w : Work) → Plans Text (refused broken) → ReadsFirst used Text r → ReadOthers used (files_in_use files []) m
      → w ≡ work (r + m) 0 0 → WorkUnderFrom before files (Ok settings) w
  refused_done broken r m w plans first others e = (refused broken, plans, (r + m, all_read [] r m first others, e))

  -- .. and no less

  module _ (one : OneLaws) where
    of_read : (perms : List Permutation) (n r : ℕ) → AreRead before (files_in_use files perms) n → ReadsFirst used Text r
        → (m : ℕ) × ReadOthers used (files_in_use files perms) m × (n ≡ r + m)
    of_read perms n r (old, was, sum) first =
        parted used (files_in_use files perms) Text n r (resolver_in_use files perms)
        (subst (λ (o : FilesData). ReadBeside o (files_in_use files perms) n) (one_used one before old used was is_used) sum) first

    -- where the resolver document alone is read
    first_of : (p : Planned) (w : Work) (r : ℕ) → PlanWorkFrom before settings files p w → ReadsFirst used Text r → r ≤ w.parses
    first_of (planned perms) w r (n, v, read, is, e) first =
        let (m, others, sum) = of_read perms n r read first in
        omega (arith, sum, ap (λ x. x.parses) e)
    first_of (refused broken) w r (n, read, e) first =
        let (m, others, sum) = of_read [] n r read first in
        omega (arith, sum, ap (λ x. x.parses) e)

    pub first_within : (start q m e r : ℕ) → ReadsFirst used Text r → q ≤ start + r → RiseWithin (WorkUnderFrom before files (Ok settings)) (work start m e) (work q m e)
    first_within start q m e r first most w (p, plans, is) = record {
      parses = omega (arith, most, first_of p w r is first);
      merges = omega arith;
      evals = omega arith;
    }

    pub planned_within : (perms : List Permutation) (start q a b c d r : ℕ) → Plans Text (planned perms) → ReadsFirst used Text r
        → ((m : ℕ) → ReadOthers used (files_in_use files perms) m → q ≤ start + r + m)
        → RiseWithin (PermsWorkFrom before settings files perms) (work 0 a c) (work 0 b d)
        → RiseWithin (WorkUnderFrom before files (Ok settings)) (work start a c) (work q b d)
    planned_within perms start q a b c d r plans first most rise w (p, plans_too, is) =
        go (subst (λ x. PlanWorkFrom before settings files x w) (one.plan Text p (planned perms) plans_too plans) is)
      where
        go : PlanWorkFrom before settings files (planned perms) w → IsAtMost (work q b d) (added (work start a c) w)
        go (n, v, read, of_v, e) =
            let (m, others, sum) = of_read perms n r read first in
            let within = rise v of_v in
            record {
              parses = omega (arith, most m others, sum, ap (λ x. x.parses) e);
              merges = omega (arith, within.merges, ap (λ x. x.merges) e);
              evals = omega (arith, within.evals, ap (λ x. x.evals) e);
            }

    pub refused_within : (broken : PlanBreak) (start q m e r : ℕ) → Plans Text (refused broken) → ReadsFirst used Text r
        → ((n : ℕ) → ReadOthers used (files_in_use files []) n → q ≤ start + r + n)
        → RiseWithin (WorkUnderFrom before files (Ok settings)) (work start m e) (work q m e)
    refused_within broken start q m e r plans first most w (p, plans_too, is) =
        go (subst (λ x. PlanWorkFrom before settings files x w) (one.plan Text p (refused broken) plans_too plans) is)
      where
        go : PlanWorkFrom before settings files (refused broken) w → IsAtMost (work q m e) (added (work start m e) w)
        go (n, read, same) =
            let (k, others, sum) = of_read [] n r read first in
            record {
              parses = omega (arith, most k others, sum, ap (λ x. x.parses) same);
              merges = omega arith;
              evals = omega arith;
            }

    pub plan_most : (plan list : List PlanPerm) → list ≡ plan → (start p q a b c d r : ℕ) → Plans Text (planned (plan_view plan)) → ReadsFirst used Text r → p ≡ start + r
        → ((m : ℕ) → ReadOthers used (files_in_use files (plan_view list)) m → q ≤ p + m)
        → RiseWithin (PermsWorkFrom before settings files (plan_view list)) (work 0 a c) (work 0 b d)
        → RiseWithin (WorkUnderFrom before files (Ok settings)) (work start a c) (work q b d)
    plan_most plan list same start p q a b c d r plans first begun most rise =
        planned_within (plan_view list) start q a b c d r (subst (λ (l : List PlanPerm). Plans Text (planned (plan_view l))) (sym same) plans) first
        (λ m others. omega (arith, most m others, begun)) rise
