use Rattle.edit_script.proofs.Cuts.{cut_found}
use Rattle.edit_script.proofs.cut.cut_at_first.Goals as goal

pub returns : goal.returns
returns c = cut_found c.args.mark c.args.text.now c.split_once.result (c.split_once.ensures.byte c.requires (λ w o h. h))
