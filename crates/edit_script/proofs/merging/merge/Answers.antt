use Rattle.std.proofs.Common.{◌++◌, length, drop, map, ap, sym, ◌∙◌, arith}
use Rattle.std.proofs.lemmas.List.{map-append}
use Rattle.std.specs.Option.{option_map}
use Rattle.edit_script.specs.inner.Merge.{outputs_view, lent_view, found_changes}
use Rattle.edit_script.specs.View.{with_line}
use Rattle.edit_script.proofs.Rising.{at_head, step_bound, nearer, leads_on, leads_all}
use Rattle.edit_script.proofs.merging.merge.Goals as goal

pub overflow_add-i : goal.overflow_add-i
overflow_add-i c =
    let step = c.in-Some.ensures (drop c.loop-found.i (outputs_view c.args.old.now)) (drop c.loop-found.j (outputs_view c.args.new.now)) (at_head (outputs_view c.args.old.now) c.loop-found.i c.output_at.result c.output_at.ensures) (at_head (outputs_view c.args.new.now) c.loop-found.j c.output_at-in-loop-found.result c.output_at-in-loop-found.ensures) in
    let bound = step_bound (outputs_view c.args.old.now) c.loop-found.i c.in-Some.olds c.loop-found.invariant.0 step.old_bound in
    omega (arith, bound, c.requires.old.1)

pub overflow_add-j : goal.overflow_add-j
overflow_add-j c =
    let step = c.in-Some.ensures (drop c.loop-found.i (outputs_view c.args.old.now)) (drop c.loop-found.j (outputs_view c.args.new.now)) (at_head (outputs_view c.args.old.now) c.loop-found.i c.output_at.result c.output_at.ensures) (at_head (outputs_view c.args.new.now) c.loop-found.j c.output_at-in-loop-found.result c.output_at-in-loop-found.ensures) in
    let bound = step_bound (outputs_view c.args.new.now) c.loop-found.j c.in-Some.news c.loop-found.invariant.1 step.new_bound in
    omega (arith, bound, c.requires.new.1)

pub loop-found-smaller : goal.loop-found-smaller
loop-found-smaller c =
    let step = c.in-Some.ensures (drop c.loop-found.i (outputs_view c.args.old.now)) (drop c.loop-found.j (outputs_view c.args.new.now)) (at_head (outputs_view c.args.old.now) c.loop-found.i c.output_at.result c.output_at.ensures) (at_head (outputs_view c.args.new.now) c.loop-found.j c.output_at-in-loop-found.result c.output_at-in-loop-found.ensures) in
    nearer c.loop-found.i c.in-Some.olds c.loop-found.j c.in-Some.news (length (outputs_view c.args.old.now)) (length (outputs_view c.args.new.now)) step.some
    (step_bound (outputs_view c.args.old.now) c.loop-found.i c.in-Some.olds c.loop-found.invariant.0 step.old_bound)
    (step_bound (outputs_view c.args.new.now) c.loop-found.j c.in-Some.news c.loop-found.invariant.1 step.new_bound)

pub loop-found-preserved : goal.loop-found-preserved
loop-found-preserved c =
    let step = c.in-Some.ensures (drop c.loop-found.i (outputs_view c.args.old.now)) (drop c.loop-found.j (outputs_view c.args.new.now)) (at_head (outputs_view c.args.old.now) c.loop-found.i c.output_at.result c.output_at.ensures) (at_head (outputs_view c.args.new.now) c.loop-found.j c.output_at-in-loop-found.result c.output_at-in-loop-found.ensures) in
    let done = c.loop-found.invariant.2.0 in
    let more = found_changes c.in-Some.found in (
      step_bound (outputs_view c.args.old.now) c.loop-found.i c.in-Some.olds c.loop-found.invariant.0 step.old_bound,
      step_bound (outputs_view c.args.new.now) c.loop-found.j c.in-Some.news c.loop-found.invariant.1 step.new_bound,
      (
        done ++ more,
        c.in_ok-add.ensures ∙ (ap (λ l. l ++ map with_line more) c.loop-found.invariant.2.1 ∙ sym (map-append with_line done more)),
        leads_on (outputs_view c.args.old.now) (outputs_view c.args.new.now) done more c.loop-found.i c.loop-found.j c.in-Some.olds c.in-Some.news c.requires.old.0 c.requires.new.0 c.loop-found.invariant.2.2 step,
      ),
    )

pub returns : goal.returns
returns c =
    let done = c.loop-found.invariant.2.0 in (
      done,
      leads_all (outputs_view c.args.old.now) (outputs_view c.args.new.now) done c.loop-found.i c.loop-found.j (sym c.output_at.ensures ∙ ap (option_map lent_view) c.in_default.ensures.0) (sym c.output_at-in-loop-found.ensures ∙ ap (option_map lent_view) c.in_default.ensures.1) c.loop-found.invariant.2.2,
      c.loop-found.invariant.2.1,
    )
