use Rattle.name_path.proofs.Parts.{parts}
use Rattle.name_path.proofs.pieces.around.Goals as goal

pub returns : goal.returns
returns c = parts c.args.at c.args.text.now c.split_once.result c.split_once.ensures.cases c.requires
