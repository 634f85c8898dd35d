-- The trees so far are those of the files met, by so many texts read.
use Rattle.std.proofs.Common.{◌≡◌, ◌+◌, ◌≤◌, drop}
use Rattle.std.specs.Cmp.Lexicographic.{nat_list_cmp_total}
use Rattle.std.specs.FinMap as finite
use Rattle.std.specs.String.{string_bytes}
use Rattle.tk_io.proofs.TextMaps.{text_cmp-IsAntisymmetric}
use Rattle.tk_io.specs.View.{entries_view}
use Rattle.file_plan.specs.InUse.{resolver_path}
use Rattle.file_plan.specs.Trees.{IsRead}
use Rattle.rebuild_core.specs.inner.Reading.{ReadsOther}
use Rattle.rebuild_core.proofs.FilledMaps.{Filled}
use Rattle.rebuild_core.proofs.Summing.{SumDone, SumMost}
use Rattle.rebuild_core.proofs.reading.add_trees.Given as goal

abbrev pub invariant-loop-path : goal.invariant-loop-path
invariant-loop-path g l = record {
  trees : Filled nat_list_cmp_total text_cmp-IsAntisymmetric (λ q. IsRead (finite.get l.used q) (finite.get l.trees q)) (entries_view string_bytes (λ v. v) (drop l.path-index l.path-items));
  first : IsRead (finite.get l.used resolver_path) (finite.get l.trees resolver_path);
  done : SumDone (ReadsOther l.past.used) (entries_view string_bytes (λ v. v) l.path-items) (entries_view string_bytes (λ v. v) (drop l.path-index l.path-items)) l.read;
  counted : l.parses ≡ l.fn.parses + l.read;
  most : SumMost (ReadsOther l.past.used) (entries_view string_bytes (λ v. v) l.path-items) l.fn.parses (entries_view string_bytes (λ v. v) (drop l.path-index l.path-items)) l.parses;
  few : l.read ≤ l.path-index;
}
