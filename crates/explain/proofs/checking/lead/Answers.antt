use Rattle.std.proofs.Common.{sym, subst, arith}
use Rattle.alias_ref.specs.Written.{written_in}
use Rattle.explain.specs.Validity.{GoesBy, arrived}
use Rattle.explain.specs.inner.Holding.{IsFound, StepsTo}
use Rattle.explain.proofs.HopsHold.{no_step, step_back, step_front}
use Rattle.explain.proofs.PlacesWritten.{drop_at, drop_all}
use Rattle.explain.proofs.checking.lead.Goals as goal

pub returns-in_default-clause-target : goal.returns-in_default-clause-target
returns-in_default-clause-target c = λ hops k q g.
    let T = written_in c.args.flat.now in
    let p = c.loop-step.place in
    let ss = c.as_slice-steps.result.now in
    let i = c.loop-step.step-index in
    let s = c.step-item.result in
    let so = c.loop-step.invariant.1 hops k in
    let none = subst (IsFound (λ r. StepsTo T hops p s r)) c.in_default.is (c.in_ok-next.ensures.place hops so.0) in
    no_step T hops so.0.starts none (subst (λ xs. GoesBy T hops p xs q) (drop_at ss i s (omega arith) c.step-item.is) (so.2 q g.steps))

pub loop-step-preserved : goal.loop-step-preserved
loop-step-preserved c = (
  c.loop-step.invariant.0,
  λ hops k.
      let T = written_in c.args.flat.now in
      let p = c.loop-step.place in
      let ss = c.as_slice-steps.result.now in
      let i = c.loop-step.step-index in
      let s = c.step-item.result in
      let so = c.loop-step.invariant.1 hops k in
      let t = subst (IsFound (λ r. StepsTo T hops p s r)) c.in-Some.is (c.in_ok-next.ensures.place hops so.0) in
      let now = drop_at ss i s (omega arith) c.step-item.is in (
        c.in_ok-next.ensures.knows hops so.0,
        (λ q g. so.1 q (subst (λ xs. GoesBy T hops p xs q) (sym now) (step_back T hops so.0.starts t g))),
        λ q g. step_front T hops so.0.starts t (subst (λ xs. GoesBy T hops p xs q) now (so.2 q g)),
      ),
)

pub returns-clause-target : goal.returns-clause-target
returns-clause-target c = λ hops k.
    let T = written_in c.args.flat.now in
    let p = c.loop-step.place in
    let ss = c.as_slice-steps.result.now in
    let so = c.loop-step.invariant.1 hops k in
    record {
      token = c.loop-step.invariant.0;
      steps = so.1 p (subst (λ xs. GoesBy T hops p xs p) (sym (drop_all ss c.loop-step.step-index (λ j. omega (arith, j, c.loop-step-test.false)))) arrived);
    }
