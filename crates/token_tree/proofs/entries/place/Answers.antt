use Rattle.std.proofs.Common.{◌+◌, ◌-◌, ◌/◌, ◌<◌, arith, sym, ◌∙◌}
use Rattle.token_tree.proofs.NameLists.{none_before, none_behind, stands_there}
use Rattle.token_tree.proofs.entries.place.Goals as goal

pub loop-low-preserved-in-Less : goal.loop-low-preserved-in-Less
loop-low-preserved-in-Less c =
    let i = c.loop-low.low + (c.loop-low.high - c.loop-low.low) / 2 in
    let below : i < c.loop-low.high = omega (arith, c.loop-low-test.true) in
    record {
      low = omega (arith, below);
      high = c.loop-low.invariant.high;
      before = none_before c.args.list.now c.args.name.now i c.index-list-middle.result c.requires (omega (arith, below, c.loop-low.invariant.high)) (sym c.cmp.ensures ∙ c.in-Less.is);
      behind = c.loop-low.invariant.behind;
    }

pub returns-in-Equal-clause-found : goal.returns-in-Equal-clause-found
returns-in-Equal-clause-found c =
    let i = c.loop-low.low + (c.loop-low.high - c.loop-low.low) / 2 in
    let below : i < c.loop-low.high = omega (arith, c.loop-low-test.true) in
    stands_there c.args.list.now c.args.name.now i c.index-list-middle.result (omega (arith, below, c.loop-low.invariant.high)) (sym c.cmp.ensures ∙ c.in-Equal.is)

pub loop-low-preserved : goal.loop-low-preserved
loop-low-preserved c =
    let i = c.loop-low.low + (c.loop-low.high - c.loop-low.low) / 2 in
    let below : i < c.loop-low.high = omega (arith, c.loop-low-test.true) in
    record {
      low = omega arith;
      high = omega (arith, below, c.loop-low.invariant.high);
      before = c.loop-low.invariant.before;
      behind = none_behind c.args.list.now c.args.name.now i c.index-list-middle.result c.requires (sym c.cmp.ensures ∙ c.in-Greater.is);
    }
