use Rattle.std.proofs.Common.{◌+◌, ℕ, List, get_or, take, refl, sym, ap, subst, ◌∙◌}
use Rattle.tree_changes.specs.inner.Links.{AreUnsettled}
use Rattle.tree_changes.proofs.Linking.{one_open_edge, one_settled_edge}
use Rattle.tree_changes.proofs.links.unsettled.Goals as goal
use Rattle.tree_changes.proofs.links.unsettled.Goals.{then-not-is_said+in_ok-push, else-not-is_said}

pub loop-place-preserved : goal.loop-place-preserved
loop-place-preserved c =
    let settled = c.args.settled.now in
    let targets = c.args.targets.now in
    let k = c.loop-place.place-index in
    let edges = c.loop-place.edges.items in
    let place = get_or targets k 0 in
    elim c.if-not-is_said.branch [
      | then-not-is_said+in_ok-push w ↦ one_open_edge settled targets edges k place c.loop-place-test.true refl c.loop-place.invariant c.if-not-is_said.edges.items
          (ap (λ v. v.items) w.edges-is ∙ w.in_ok-push.ensures.items)
      | else-not-is_said w ↦ subst (λ (es : List ℕ). AreUnsettled settled (take (k + 1) targets) es) (sym (ap (λ v. v.items) w.edges-is))
          (one_settled_edge settled targets edges k place c.loop-place-test.true refl c.loop-place.invariant (c.is_said.ensures w.if-not-is_said.false))
    ]
