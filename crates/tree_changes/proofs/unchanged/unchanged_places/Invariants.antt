-- The places of the tokens so far, and those that are still to come are behind what was passed.
use Rattle.std.proofs.Common.{take}
use Rattle.std.specs.FinMap as finite
use Rattle.std.specs.List.{AllZip}
use Rattle.tree_changes.specs.Standing.{StandsAt}
use Rattle.tree_changes.proofs.Standing.{AreBehind}
use Rattle.tree_changes.proofs.unchanged.unchanged_places.Given as goal

abbrev pub invariant-loop-token : goal.invariant-loop-token
invariant-loop-token l =
    AllZip (StandsAt l.old l.new) (take l.token-index l.tokens) l.places.items
    × AreBehind l.tokens l.token-index (finite.entries l.old) l.at
