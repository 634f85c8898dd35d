use Rattle.std.proofs.Common.{◌≡◌, ◌-◌, ◌+◌, arith, sym, ◌∙◌, min, ◌^◌, ap}
use Rattle.dec_fix.proofs.Scaling.{ten_step, scaled_up, scaled_none}
use Rattle.dec_fix.proofs.significand.scaled.Goals as goal
use Rattle.dec_fix.proofs.significand.scaled.Goals.{then-loop-left-test+else-n-lt-LIMIT, else-loop-left-test}

pub loop-left-preserved : goal.loop-left-preserved
loop-left-preserved c = record {
  small = omega arith;
  same = let e : c.loop-left.left - 1 + 1 ≡ c.loop-left.left = omega arith in
      rw (ten_step, e) c.loop-left.invariant.same;
}

pub returns : goal.returns
returns c = elim c.loop-left-test.branch [
  | then-loop-left-test+else-n-lt-LIMIT w ↦ c.min.ensures ∙ (omega (arith, scaled_up c.loop-left.n c.loop-left.left)) ∙ c.loop-left.invariant.same
  | else-loop-left-test w ↦ c.min.ensures ∙ ap (λ x. min x (10 ^ 30)) (sym (scaled_none c.loop-left.n c.loop-left.left (omega arith))) ∙ c.loop-left.invariant.same
]
