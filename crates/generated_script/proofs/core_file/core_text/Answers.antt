use Rattle.std.proofs.Common.{◌∙◌, ◌+◌, ◌++◌, codes, ap, arith}
use Rattle.generated_script.specs.Tokens.{generated_token}
use Rattle.generated_script.proofs.ListsGrow.{grown}
use Rattle.generated_script.proofs.core_file.core_text.Goals as goal

pub loop-i-preserved : goal.loop-i-preserved
loop-i-preserved c =
    let i = c.loop-i.i in
    let f = generated_token c.args.seed c.args.size c.args.edits in
    c.in_ok-add_token.ensures
    ∙ (ap (λ t. t ++ f i) c.loop-i.invariant
    ∙ grown f (codes "{\"t\":{\"$type\":\"dimension\"") 0 i i (i + 1) (omega arith) (omega arith))
