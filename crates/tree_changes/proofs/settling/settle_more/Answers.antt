use Rattle.std.proofs.Common.{Bool, true, List, length, sym, ap, subst, ◌∙◌, length-set}
use Rattle.tree_changes.specs.inner.Settling.{AreSettled}
use Rattle.tree_changes.proofs.Calm.{one_settled}
use Rattle.tree_changes.proofs.settling.settle_more.Goals as goal
use Rattle.tree_changes.proofs.settling.settle_more.Goals.{then-not-index+then-is_settled, else-not-index, else-not-index-via-then-not-index+else-is_settled, else-not-index-via-else-not-index}

pub is_settled-requires-clause-settled : goal.is_settled-requires-clause-settled
is_settled-requires-clause-settled c =
    subst (λ (bs : List Bool). AreSettled c.args.side.now.old.now c.args.side.now.new.now bs) (sym c.as_slice.ensures.value) c.loop-i.invariant.1

pub loop-i-preserved : goal.loop-i-preserved
loop-i-preserved c =
    let old = c.args.side.now.old.now in
    let new = c.args.side.now.new.now in
    let settled = c.loop-i.settled.items in
    let i = c.loop-i.i in
    elim c.if-not-index.branch [
      | then-not-index+then-is_settled w ↦ (
        ap (λ v. length v.items) w.settled-is ∙ (length-set settled i true ∙ c.loop-i.invariant.0),
        subst (λ (bs : List Bool). AreSettled old new bs) (sym (ap (λ v. v.items) w.settled-is))
            (one_settled old new i settled c.loop-i.invariant.1 (λ token at. w.is_settled.ensures token at w.if-is_settled.true)),
      )
      | else-not-index w ↦ (
        ap (λ v. length v.items) w.settled-is ∙ c.loop-i.invariant.0,
        subst (λ (bs : List Bool). AreSettled old new bs) (sym (ap (λ v. v.items) w.settled-is)) c.loop-i.invariant.1,
      )
    ]
