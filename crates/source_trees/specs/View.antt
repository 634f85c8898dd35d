-- What homes and breaks are seen as.
use Rattle.source_trees.specs.declared.source.Home.{Home}
use Rattle.source_trees.specs.declared.source.SourceBreak.{SourceBreak}
use Rattle.source_trees.specs.Sources.{HomeAt, BreakAt, break_at}

abbrev pub home_view : Home → HomeAt
home_view h = record { file = h.file.now; text = h.text.now }

abbrev pub break_view : SourceBreak → BreakAt
break_view b = break_at b.fault b.file.now b.start b.end
