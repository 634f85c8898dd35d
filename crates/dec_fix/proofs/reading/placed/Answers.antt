use Rattle.std.proofs.Common.{◌≡◌, ◌<◌, ◌%◌, ◌-◌, ◌*◌, ◌^◌, arith, sym, ◌∙◌, ap, inl, inr}
use Rattle.dec_fix.specs.Reading.{within_bounds}
use Rattle.dec_fix.proofs.Placed.{placed_far, placed_zero, placed_up, placed_down, within_min}
use Rattle.dec_fix.proofs.reading.placed.Goals as goal

pub returns-then-kept-ge-LIMIT : goal.returns-then-kept-ge-LIMIT
returns-then-kept-ge-LIMIT c = λ size e last. sym (placed_far c.args.negative size c.args.up c.args.down (omega arith) last)

pub returns-then-kept-eq0 : goal.returns-then-kept-eq0
returns-then-kept-eq0 c = λ size e last. let z : size ≡ 0 = omega arith in
    rw (z, placed_zero c.args.up c.args.down) c.within.ensures

pub returns-then-down-up : goal.returns-then-down-up
returns-then-down-up c = λ size e last. let same : size ≡ c.args.kept = omega arith in
    rw (same, placed_up c.args.kept c.args.up c.args.down (omega arith))
    (c.within-then-down-up.ensures ∙ ap (λ n. within_bounds c.args.negative (n, 0)) c.scaled-size.ensures ∙ within_min c.args.negative (c.args.kept * 10 ^ (c.args.up - c.args.down)) 0)

pub returns-else-down-up : goal.returns-else-down-up
returns-else-down-up c = λ size e last. let same : size ≡ c.args.kept = omega arith in
    let some : 0 < c.args.kept % 10 = elim last [ inl z ↦ absurd (omega arith) | inr h ↦ rw (← same) h ] in
    rw (same, placed_down c.args.kept c.args.up c.args.down some (omega arith)) c.within-else-down-up.ensures
