-- The tokens so far are those of the tree.
use Rattle.std.proofs.Common.{◌≡◌, drop}
use Rattle.std.proofs.lemmas.Cmp.{lists_total}
use Rattle.std.specs.Cmp.Lexicographic.{nat_list_cmp_total}
use Rattle.std.specs.FinMap as finite
use Rattle.std.specs.FinMap.{nat_cmp-IsAntisymmetric, slice_cmp-IsAntisymmetric}
use Rattle.rebuild_core.proofs.FilledMaps.{Filled}
use Rattle.rebuild_core.proofs.copying.copy_flat.Given as goal

abbrev pub invariant-loop-token : goal.invariant-loop-token
invariant-loop-token l =
    Filled (lists_total nat_list_cmp_total) (slice_cmp-IsAntisymmetric (slice_cmp-IsAntisymmetric nat_cmp-IsAntisymmetric)) (λ q. finite.get l.copy q ≡ finite.get l.flat q) (drop l.token-index l.token-items)
