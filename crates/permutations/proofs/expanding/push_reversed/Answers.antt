use Rattle.std.proofs.Common.{◌++◌, ap, ◌∙◌}
use Rattle.std.proofs.lemmas.Iterator.Adapters.{YieldsList-from_rev_slice}
use Rattle.std.proofs.lemmas.Iterator.Consumers.{YieldsList-end}
use Rattle.permutations.specs.inner.Parts.{parts_view}
use Rattle.permutations.proofs.Stacks.{views_reversed}
use Rattle.permutations.proofs.expanding.push_reversed.Goals as goal

pub returns : goal.returns
returns c =
    let end = YieldsList-end (YieldsList-from_rev_slice c.args.parts.now cc) c.loop-part.yielded _ c.loop-part.yielded_by _ _ c.in-None.is c.next.ensures.steps in
    c.loop-part.invariant ∙ ap (λ more. parts_view c.args.stack.now.items ++ more) (views_reversed c.loop-part.yielded (λ p. p.now) c.args.parts.now end.0)
