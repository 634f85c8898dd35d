use Rattle.std.proofs.Common.{rules, sym, ◌∙◌}
use Rattle.resolver_doc.proofs.Dots.{behind_same, none_leads}
use Rattle.resolver_doc.proofs.sources.without_dots.Goals as goal

pub loop-behind-preserved : goal.loop-behind-preserved
loop-behind-preserved c =
    (search rules, behind_same c.loop-behind.rest.now c.in-Some.behind.now c.in-Some.ensures ∙ c.loop-behind.invariant.1)

pub returns : goal.returns
returns c = sym (none_leads c.loop-behind.rest.now c.in_default.ensures) ∙ c.loop-behind.invariant.1
