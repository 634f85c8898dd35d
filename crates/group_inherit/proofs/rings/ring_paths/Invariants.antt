use Rattle.std.proofs.Common.{◌≡◌, map, take}
use Rattle.group_inherit.specs.inner.View.{nodes_view}
use Rattle.group_inherit.specs.inner.Numbering.{numbered_path}
use Rattle.group_inherit.proofs.rings.ring_paths.Given as goal

-- the paths so far
abbrev pub invariant-loop-v : goal.invariant-loop-v
invariant-loop-v l = l.paths ≡ map (numbered_path (nodes_view l.nodes)) (take l.v-index l.ring)
