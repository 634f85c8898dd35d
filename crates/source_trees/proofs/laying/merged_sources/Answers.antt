use Rattle.source_trees.specs.View.{home_view}
use Rattle.source_trees.proofs.laying.merged_sources.Goals as goal

pub merged_behind-requires-clause-front : goal.merged_behind-requires-clause-front
merged_behind-requires-clause-front c = c.none-front.ensures c.args.shapes.now (home_view c.args.home)
