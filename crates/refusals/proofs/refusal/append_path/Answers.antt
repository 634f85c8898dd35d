use Rattle.std.proofs.Common.{refl}
use Rattle.refusals.proofs.Parts.{nothing_more}
use Rattle.refusals.proofs.refusal.append_path.Goals as goal

pub returns-in_err-print_path-clause-err : goal.returns-in_err-print_path-clause-err
returns-in_err-print_path-clause-err c = nothing_more c.from_residual.result c.args.out.now c.args.out.now refl
