use Rattle.certificates.proofs.Cutting.{parts}
use Rattle.certificates.proofs.cut.cut.Goals as goal

pub returns : goal.returns
returns c = parts c.args.mark c.args.text.now c.split_once.result c.split_once.ensures.cases c.requires
