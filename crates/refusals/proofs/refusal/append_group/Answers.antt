use Rattle.std.proofs.Common.{refl}
use Rattle.refusals.proofs.Parts.{nothing_more}
use Rattle.refusals.proofs.refusal.append_group.Goals as goal

pub returns-in_err-print_group-clause-err : goal.returns-in_err-print_group-clause-err
returns-in_err-print_group-clause-err c = nothing_more c.from_residual.result c.args.out.now c.args.out.now refl
