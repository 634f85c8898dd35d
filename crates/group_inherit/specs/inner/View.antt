-- What numbered groups, and what the nearest groups say, are seen as.
use Rattle.std.specs.Prelude.{List, map}
use Rattle.std.specs.Option.{option_copied}
use Rattle.token_tree.specs.View.{group_view}
use Rattle.group_inherit.specs.Flattening.{Nearest as NearestData}
use Rattle.group_inherit.specs.declared.numbered.Node.{Node}
use Rattle.group_inherit.specs.declared.walking.Nearest.{Nearest}
use Rattle.group_inherit.specs.inner.Numbering.{GroupAt}

abbrev pub group_node_view : Node → GroupAt
group_node_view n = (n.path, group_view n.group.now)

abbrev pub nodes_view : List Node → List GroupAt
nodes_view nodes = map group_node_view nodes

abbrev pub nearest_view : Nearest → NearestData
nearest_view n = record { kind = n.kind; mark = option_copied n.mark }
