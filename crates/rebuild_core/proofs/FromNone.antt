-- From none kept the work is that of a build.
use Rattle.std.proofs.Common.{◌≡◌, inl, inr, ℕ, ◌+◌, List, [], ◌∷◌, is_some, cond, Option, Some, None, Result, Ok, Err, ap, ap₂, sym, subst, ◌∙◌}
use Rattle.std.specs.Cmp.Lexicographic.{nat_list_cmp_total}
use Rattle.std.specs.FinMap as finite
use Rattle.token_tree.specs.Tree.{Group}
use Rattle.group_inherit.specs.Flattening.{TokenAt}
use Rattle.permutations.specs.Permutation.{Permutation}
use Rattle.file_plan.specs.InUse.{resolver_path, beside, resolver_in, files_in_use}
use Rattle.file_plan.specs.Plan.{Planned, planned, refused, text_count}
use Rattle.source_trees.specs.Contents.{SourceContent}
use Rattle.source_trees.specs.Sources.{BreakAt}
use Rattle.source_trees.specs.declared.merge.Merge.{Merge}
use Rattle.source_trees.specs.declared.merge.Merge.TheVariants as merge
use Rattle.transforms.specs.Config.{Settings}
use Rattle.transforms.specs.declared.config.ConfigFault.{ConfigFault}
use Rattle.tk_io.specs.FilesData.{FilesData}
use Rattle.tk_io.specs.Order.{text_cmp}
use Rattle.build_plain.specs.Laws.{OneWork}
use Rattle.build_plain.specs.Out.{settings_of}
use Rattle.build_plain.specs.Work.{Work, work, added, TreesWork, PermWork, PermsWork, PlanWork, WorkUnder, IsWork}
use Rattle.rebuild_core.specs.Laws.{FromNone}
use Rattle.rebuild_core.specs.Sums.{IsOneIf, IsOneUnless}
use Rattle.rebuild_core.specs.Work.{contents_of, MergesTo, KeptPerm, SourcesWork, PermWorkFrom, PermsWorkFrom, AreRead, PlanWorkFrom, WorkUnderFrom, IsWorkFrom}
use Rattle.rebuild_core.specs.inner.Below.{EachLaws}
use Rattle.rebuild_core.proofs.EachWork.{each_work}
use Rattle.rebuild_core.proofs.Summing.{held, unless_not_held, sum_all}

some_none : {X : Type 0} {x : X} → None ≡ Some x → ⊥
some_none e = cc

abbrev none_yet : FilesData
none_yet = finite.empty

-- the resolver document, where it is there
resolver_len : (o : Option (List ℕ)) → finite.len (beside finite.empty resolver_path o) ≡ text_count o
resolver_len None = finite.len-empty text_cmp (List ℕ)
resolver_len (Some text) =
    finite.len-insert nat_list_cmp_total finite.empty resolver_path text
    ∙ (ap (λ b. cond b (finite.len none_yet) (finite.len none_yet + 1)) (ap is_some (finite.get-empty text_cmp resolver_path)) ∙ ap (λ n. n + 1) (finite.len-empty text_cmp (List ℕ)))

module _ (settings : Settings) (files : FilesData) where
  -- all is read
  all_read : (used : FilesData) (n : ℕ) → AreRead None used n → n ≡ finite.len used
  all_read used n (old, none, sum) =
      sum_all (λ (file : List ℕ × List ℕ). IsOneUnless (finite.get old file.0 ≡ Some file.1)) (finite.entries used) n
      (λ file k. unless_not_held (finite.get old file.0 ≡ Some file.1) k
      (λ e. some_none (sym (ap (λ m. finite.get m file.0) none ∙ finite.get-empty text_cmp file.0) ∙ e))) sum
      ∙ sym (finite.len-entries used)

  all_merged : (sources : List SourceContent) (bs : List BreakAt) (trees : List Group) (m : Option Merge) (w : Work)
      → MergesTo bs trees m → SourcesWork None settings sources m w → TreesWork bs trees w
  all_merged sources [] trees None w i of = absurd i
  all_merged sources [] trees (Some (merge.Broken fault)) w i (n, once, e) =
      inl (fault, i.0, i.1, e ∙ ap (λ k. work 0 k 0) (unless_not_held ⊥ n (λ x. x) once))
  all_merged sources [] trees (Some (merge.Flat flat)) w i (m, n, once, sum, e) =
      inr (
        flat,
        i.0,
        i.1,
        e ∙ ap₂ (λ a b. work 0 a b) (unless_not_held ⊥ m (λ x. x) once)
            (sum_all (λ (token : TokenAt). IsOneIf (Unit {0})) (finite.entries flat) n (λ token k. held (Unit {0}) k tt) sum),
      )
  all_merged sources (b ∷ bs) trees None w i of = of
  all_merged sources (b ∷ bs) trees (Some m) w i of = absurd (some_none (sym i))

  all_perm : (p : Permutation) (w : Work) → PermWorkFrom None settings files p w → PermWork files p w
  all_perm p w (k, m, none, (bs, trees, found, i), of) =
      let sources = contents_of files p in
      (bs, trees, found, all_merged sources bs trees m w i (subst (λ (x : Option KeptPerm). SourcesWork x settings sources m w) none of))

  all_perms : (ps : List Permutation) (w : Work) → PermsWorkFrom None settings files ps w → PermsWork files ps w
  all_perms [] w e = e
  all_perms (p ∷ ps) w (v, vs, here, later, e) = (v, vs, all_perm p v here, all_perms ps vs later, e)

  all_plan : (p : Planned) (w : Work) → PlanWorkFrom None settings files p w → PlanWork files p w
  all_plan (planned perms) w (n, v, read, is, e) =
      (v, all_perms perms v is, e ∙ ap (λ k. added (work k 0 0) v) (all_read (files_in_use files perms) n read))
  all_plan (refused broken) w (n, read, e) =
      e ∙ ap (λ k. work k 0 0) (all_read (resolver_in files) n read ∙ resolver_len (finite.get files resolver_path))

all_under : (files : FilesData) (r : Result Settings ConfigFault) (w : Work) → WorkUnderFrom None files r w → WorkUnder files r w
all_under files (Ok settings) w (p, plans, is) = (p, plans, all_plan settings files p w is)
all_under files (Err broken) w e = e

all_done : (files : FilesData) (w : Work) → IsWorkFrom None files w → IsWork files w
all_done files w i = all_under files (settings_of files) w i

pub from_none : EachLaws → OneWork → FromNone
from_none each one files w = (
  all_done files w,
  λ is.
      let (v, of) = each_work each None files in
      subst (λ x. IsWorkFrom None files x) (one files v w (all_done files v of) is) of,
)
