use Rattle.std.proofs.Common.{Some, ap}
use Rattle.transforms.specs.Config.{Settings}
use Rattle.token_cells.specs.Evaluated.{EvaluatedTree, KnownTree}
use Rattle.token_cells.proofs.earlier.Earlier.keep.Goals as goal

abbrev kept : EvaluatedTree → Settings → KnownTree
kept tree settings = record { settings = settings; tree = tree }

pub returns-in-Ok-clause-ok : goal.returns-in-Ok-clause-ok
returns-in-Ok-clause-ok c = ap (λ settings. Some (kept c.args.tree settings)) c.in-Ok.ensures
