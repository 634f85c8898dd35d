use Rattle.std.proofs.Common.{◌<◌, ◌+◌, ◌-◌, ◌/◌, length, ap, sym, ◌∙◌, arith}
use Rattle.std.proofs.lemmas.List.{get_or_default}
use Rattle.tk_io.specs.Order.{names_cmp}
use Rattle.tk_io.proofs.SortedEntries.{below_too, above_too}
use Rattle.name_path.proofs.PathMaps.{names_total}
use Rattle.name_path.proofs.path_map.place_by_halves.Goals as goal

pub loop-low-preserved-in-Less : goal.loop-low-preserved-in-Less
loop-low-preserved-in-Less g c =
    let (order, bound, below, above) = c.loop-low.invariant in
    let middle = c.loop-low.low + (c.loop-low.high - c.loop-low.low) / 2 in
    let inside : middle < length c.args.entries.now = omega (arith, bound, c.loop-low-test.true) in
    let here = sym c.cmp.ensures ∙ c.in-Less.is in (
      omega (arith, c.loop-low-test.true),
      bound,
      λ k d low high. below_too names_total (λ e. e.0) (λ e. e.1) c.args.path.now c.args.entries.now middle c.index-entries-middle.result c.requires inside here k d (omega (arith, high)),
      above,
    )

pub loop-low-preserved : goal.loop-low-preserved
loop-low-preserved g c =
    let (order, bound, below, above) = c.loop-low.invariant in
    let middle = c.loop-low.low + (c.loop-low.high - c.loop-low.low) / 2 in
    let inside : middle < length c.args.entries.now = omega (arith, bound, c.loop-low-test.true) in
    let here = sym c.cmp.ensures ∙ c.in-Greater.is in (
      omega (arith, order),
      omega (arith, inside),
      below,
      λ k d low high. above_too names_total (λ e. e.0) (λ e. e.1) c.args.path.now c.args.entries.now middle c.index-entries-middle.result c.requires inside here k d low high,
    )

pub returns-in-Equal : goal.returns-in-Equal
returns-in-Equal g c =
    let (order, bound, below, above) = c.loop-low.invariant in
    let middle = c.loop-low.low + (c.loop-low.high - c.loop-low.low) / 2 in
    let inside : middle < length c.args.entries.now = omega (arith, bound, c.loop-low-test.true) in
    (inside, λ d. ap (λ e. names_cmp e.0 c.args.path.now) (get_or_default c.args.entries.now middle d c.index-entries-middle.result inside) ∙ (sym c.cmp.ensures ∙ c.in-Equal.is))

pub returns : goal.returns
returns g c =
    let (order, bound, below, above) = c.loop-low.invariant in
    (omega (arith, order, bound), (below, λ k d low high. above k d (omega (arith, low, c.loop-low-test.false)) high))
