use Rattle.std.proofs.Common.{◌+◌, ℕ, List, Option, Some, None, length, sym, ap, subst, ◌∙◌, arith, length-set}
use Rattle.std.proofs.lemmas.List.{length-replicate}
use Rattle.tree_changes.proofs.Calm.{AreMovedBelow, all_moved, none_moved, one_left, one_moved}
use Rattle.tree_changes.proofs.settling.moved_places.Goals as goal
use Rattle.tree_changes.proofs.settling.moved_places.Goals.{in-Some, in-None}

pub loop-i-preserved : goal.loop-i-preserved
loop-i-preserved c =
    let i = c.loop-i.i in
    let places = c.args.places.now in
    let moved = c.loop-i.moved.items in
    elim c.match-place.branch [
      | in-Some w ↦ (
        ap (λ v. length v.items) w.moved-is ∙ (length-set moved w.in-Some.at (Some i) ∙ c.loop-i.invariant.0),
        subst (λ (ms : List (Option ℕ)). AreMovedBelow (i + 1) places ms) (sym (ap (λ v. v.items) w.moved-is))
            (one_moved i w.in-Some.at places moved c.loop-i-test.true w.in-Some.is c.loop-i.invariant.1),
      )
      | in-None w ↦ (
        ap (λ v. length v.items) w.moved-is ∙ c.loop-i.invariant.0,
        subst (λ (ms : List (Option ℕ)). AreMovedBelow (i + 1) places ms) (sym (ap (λ v. v.items) w.moved-is))
            (one_left i places moved w.in-None.is c.loop-i.invariant.1),
      )
    ]

pub loop-i-init : goal.loop-i-init
loop-i-init c = (
  ap (λ (ms : List (Option ℕ)). length ms) c.in_ok-moved.ensures ∙ length-replicate c.args.tokens None,
  none_moved c.args.places.now c.in_ok-moved.moved.items c.args.tokens c.in_ok-moved.ensures,
)

pub returns-clause-moved : goal.returns-clause-moved
returns-clause-moved c = all_moved c.loop-i.i c.args.places.now c.loop-i.moved.items (omega (arith, c.loop-i-test.false)) c.loop-i.invariant.1
