-- The token at the place means what the first one means.
use Rattle.std.proofs.Common.{◌≡◌, Some}
use Rattle.std.specs.FinMap as map
use Rattle.std.specs.List.{slice_get}
use Rattle.group_inherit.specs.Flattening.{TokenAt}
use Rattle.alias_ref.specs.Answer.{MeansAsAt}
use Rattle.alias_ref.specs.Laws.{Flat}
use Rattle.alias_ref.specs.inner.Chains.{AreAliases}
use Rattle.alias_ref.proofs.aliases.Aliases.end_of.Given as goal

abbrev pub decreases-loop-left : goal.decreases-loop-left
decreases-loop-left l = l.left

abbrev pub invariant-loop-left : goal.invariant-loop-left
invariant-loop-left l =
    (flat : Flat) (token : TokenAt) → AreAliases flat l.self.targets.items → slice_get (map.entries flat) l.i ≡ Some token → MeansAsAt flat token.0 l.at
