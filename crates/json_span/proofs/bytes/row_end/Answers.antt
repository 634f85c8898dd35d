use Rattle.std.proofs.Common.{◌+◌, ◌<◌, length, drop, get_or, sym, subst, arith, Ok, Err, ◌≤◌}
use Rattle.std.proofs.lemmas.List.{drop_more, drop_all}
use Rattle.json_span.specs.inner.Scan.{Scans, row_of}
use Rattle.json_span.specs.declared.bytes.Class.TheVariants.{One}
use Rattle.json_span.proofs.Classes as row
use Rattle.json_span.proofs.bytes.row_end.Goals as goal

pub returns-then-not-has : goal.returns-then-not-has
returns-then-not-has c =
    let i = c.loop-class.class-index in
    let lt : i < length c.args.classes.now = omega arith in
    c.loop-class.invariant.1 (Err c.loop-class.end)
    (row.row_halt c.args.text.now (get_or c.args.classes.now i (One 0)) (drop (i + 1) c.args.classes.now) (drop i c.args.classes.now) c.loop-class.end
    (drop_more c.args.classes.now i (One 0) lt) c.loop-class.invariant.0 (sym c.if-not-has.ensures.test))

pub loop-class-preserved : goal.loop-class-preserved
loop-class-preserved c =
    let i = c.loop-class.class-index in
    let lt : i < length c.args.classes.now = omega arith in
    let at : c.loop-class.end < length c.args.text.now = c.if-not-has.ensures.bound in (
      omega (arith, at),
      λ r x. c.loop-class.invariant.1 r
          (row.row_step c.args.text.now (get_or c.args.classes.now i (One 0)) (drop (i + 1) c.args.classes.now) (drop i c.args.classes.now) c.loop-class.end r
          (drop_more c.args.classes.now i (One 0) lt) at (sym c.if-not-has.ensures.test) x),
    )

pub returns : goal.returns
returns c =
    let i = c.loop-class.class-index in
    let le : length c.args.classes.now ≤ i = omega arith in
    c.loop-class.invariant.1 (Ok c.loop-class.end)
    (subst (λ z. Scans (row_of z) c.args.text.now c.loop-class.end (Ok c.loop-class.end)) (sym (drop_all i c.args.classes.now le)) (row.row_end c.args.text.now c.loop-class.end c.loop-class.invariant.0))
