use Rattle.std.proofs.Common.{◌++◌, ◌∙◌, ap, map}
use Rattle.file_plan.specs.InUse.{resolver_path}
use Rattle.refusals.specs.Refusal.{ring_set}
use Rattle.refusals.specs.declared.rule.Rule.TheVariants as rule
use Rattle.refusals.proofs.Reports.{told, set_lines}
use Rattle.refusals.proofs.planning.broken_text.Goals as goal

pub returns : goal.returns
returns c =
    told c.args.files.now (rule.Plan c.args.rule) resolver_path c.args.start c.args.end c.in_ok-out.out c.append_ring_sets.new.out (map ring_set c.args.ring.now) c.in_ok-out.ensures
    (c.in_ok-append_ring_sets.ensures.ok ∙ ap (λ x. c.in_ok-out.out ++ x) (set_lines c.args.ring.now))
