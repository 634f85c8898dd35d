use Rattle.store_cli.proofs.OutputPaths.{outputs_fit}
use Rattle.store_cli.proofs.laws.outputs_fit.Goals as goal

pub returns : goal.returns
returns c = outputs_fit c.permutation_names.ensures c.outputs_denote.ensures.no_other
