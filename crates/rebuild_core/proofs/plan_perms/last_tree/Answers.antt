use Rattle.std.proofs.Common.{◌-◌, length, sym, ap, subst, ◌∙◌}
use Rattle.std.specs.Option.{option_copied}
use Rattle.build_plain.specs.Outcomes.{HoldsCells}
use Rattle.rebuild_core.proofs.PermsDone.{last_holds}
use Rattle.rebuild_core.proofs.plan_perms.last_tree.Goals as goal

pub returns-in-Some : goal.returns-in-Some
returns-in-Some c = λ settings files perms came.
    let outcomes = c.args.outcomes.now in
    c.tree_in.ensures.cells settings (subst (HoldsCells settings) (sym c.outcome.ensures)
    (last_holds settings files perms outcomes (length outcomes - 1) c.in-Some.shared.now came (sym c.last.ensures.value ∙ ap option_copied c.in-Some.is)))
