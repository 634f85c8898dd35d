use Rattle.std.proofs.Common.{take, ◌∙◌}
use Rattle.std.specs.List.{flat_map}
use Rattle.tk_io.proofs.Extending.{extends_on_err}
use Rattle.transforms.specs.Quoted.{escaped_character}
use Rattle.transforms.proofs.quoted.append_escaped.Goals as goal

pub returns-in_err-append_escape-clause-err : goal.returns-in_err-append_escape-clause-err
returns-in_err-append_escape-clause-err c =
    extends_on_err c.from_residual.result c.args.out.now c.append_escape.new.out (flat_map escaped_character (take c.loop-c.c-index c.args.text.now)) (c.in_err-append_escape.ensures.err ∙ c.loop-c.invariant)
