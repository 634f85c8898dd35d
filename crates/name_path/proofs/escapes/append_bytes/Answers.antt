use Rattle.std.proofs.Common.{take, ◌∙◌}
use Rattle.tk_io.proofs.Extending.{extends_on_err}
use Rattle.name_path.specs.Reference.{escaped_step}
use Rattle.name_path.proofs.escapes.append_bytes.Goals as goal

pub returns-in_err-append_byte-clause-err : goal.returns-in_err-append_byte-clause-err
returns-in_err-append_byte-clause-err c =
    extends_on_err c.from_residual.result c.args.out.now c.append_byte.new.out (escaped_step (take c.loop-byte.byte-index c.args.step.now)) (c.in_err-append_byte.ensures.err ∙ c.loop-byte.invariant)
