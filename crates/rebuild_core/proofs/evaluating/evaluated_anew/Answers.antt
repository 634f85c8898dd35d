use Rattle.std.proofs.Common.{◌+◌, List, length, sym, ap, ◌∙◌}
use Rattle.group_inherit.specs.Flattening.{TokenAt}
use Rattle.rebuild_core.proofs.evaluating.evaluated_anew.Goals as goal

pub returns-in_ok-tree-in-Some-clause-count : goal.returns-in_ok-tree-in-Some-clause-count
returns-in_ok-tree-in-Some-clause-count g c = ap (λ (ts : List TokenAt). length ts) c.as_slice-tokens.ensures.entries

pub returns-in_ok-tree-in-Some-clause-steps : goal.returns-in_ok-tree-in-Some-clause-steps
returns-in_ok-tree-in-Some-clause-steps g c =
    c.in_ok-tree-in-Some.ensures.steps ∙ ap (λ n. c.args.evals.now + n) (sym (ap (λ (ts : List TokenAt). length ts) c.as_slice-tokens.ensures.entries))

pub returns-in_ok-tree-in-None-clause-count : goal.returns-in_ok-tree-in-None-clause-count
returns-in_ok-tree-in-None-clause-count g c = ap (λ (ts : List TokenAt). length ts) c.as_slice-tokens.ensures.entries

pub returns-in_ok-tree-in-None-clause-steps : goal.returns-in_ok-tree-in-None-clause-steps
returns-in_ok-tree-in-None-clause-steps g c =
    c.in_ok-tree-in-None.ensures.steps ∙ ap (λ n. c.args.evals.now + n) (sym (ap (λ (ts : List TokenAt). length ts) c.as_slice-tokens.ensures.entries))
