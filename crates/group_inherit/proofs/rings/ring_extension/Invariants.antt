use Rattle.std.proofs.Common.{◌≡◌, get_or, drop}
use Rattle.group_inherit.specs.inner.View.{nodes_view}
use Rattle.group_inherit.specs.inner.Numbering.{extension_in, extension_after}
use Rattle.group_inherit.proofs.rings.ring_extension.Given as goal

-- none so far
abbrev pub invariant-loop-i : goal.invariant-loop-i
invariant-loop-i l = extension_after (nodes_view l.nodes) (get_or l.ring 0 0) (drop l.i l.ring) ≡ extension_in (nodes_view l.nodes) l.ring
