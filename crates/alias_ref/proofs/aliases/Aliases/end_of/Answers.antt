use Rattle.std.proofs.Common.{◌∙◌, sym}
use Rattle.alias_ref.proofs.SharedMeanings.{means_itself, means_further}
use Rattle.alias_ref.proofs.aliases.Aliases.end_of.Goals as goal

pub loop-left-init : goal.loop-left-init
loop-left-init c = λ flat token right at. means_itself flat c.args.i token at

pub loop-left-preserved : goal.loop-left-preserved
loop-left-preserved c = λ flat token right at.
    means_further flat c.args.self.now.targets.items token.0 c.loop-left.at c.in-Some.target right (c.loop-left.invariant flat token right at) (sym c.target.ensures ∙ c.in-Some.is)
