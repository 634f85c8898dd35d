use Rattle.std.proofs.Common.{refl, sym, ap, subst, ◌∙◌}
use Rattle.token_tree.specs.View.{group_view}
use Rattle.build_plain.specs.Outcomes.{IsTreeOutcome, merge_in}
use Rattle.rebuild_core.proofs.merging.tree_done.Goals as goal

pub returns-clause-outcome : goal.returns-clause-outcome
returns-clause-outcome g c = subst (IsTreeOutcome c.args.cfg.now (group_view c.args.tree.now)) (sym c.in_ok-shared.ensures) c.in_ok-made.ensures.outcome

pub returns-clause-count : goal.returns-clause-count
returns-clause-count g c =
    let (made, is, evals) = c.in_ok-made.ensures.count in
    record { merged = refl; made = made; is = ap merge_in c.in_ok-shared.ensures ∙ is; evals = evals }
