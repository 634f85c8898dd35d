use Rattle.std.proofs.Common.{◌≡◌, ◌+◌, ◌-◌, ◌/◌, ◌<◌, Less, get_or, arith, sym, ap, ◌∙◌}
use Rattle.tk_io.specs.Order.{names_cmp}
use Rattle.group_inherit.specs.Flattening.{TokenAt}
use Rattle.tree_changes.proofs.Standing.{found_place, ahead_from, missed, passes_next}
use Rattle.tree_changes.proofs.places.by_halves.Goals as goal

pub loop-low-init : goal.loop-low-init
loop-low-init c = record {
  in_order = omega arith;
  within = omega arith;
  passed = λ k d from below. absurd (omega (arith, below));
  ahead = λ k d from below. absurd (omega (arith, from, below));
}

pub loop-low-preserved-in-Less : goal.loop-low-preserved-in-Less
loop-low-preserved-in-Less c =
    let i = c.loop-low.low + (c.loop-low.high - c.loop-low.low) / 2 in
    let x : TokenAt = c.index-tokens-middle.result in
    let below : i < c.loop-low.high = omega (arith, c.loop-low-test.true) in
    let less : names_cmp c.args.path.now (get_or c.args.tokens.now i x).0 ≡ Less =
    sym c.cmp.ensures ∙ c.in-Less.is in
    record {
      in_order = omega arith;
      within = omega (arith, below, c.loop-low.invariant.within);
      passed = c.loop-low.invariant.passed;
      ahead = ahead_from c.args.tokens.now c.args.path.now i x c.requires (omega (arith, below, c.loop-low.invariant.within)) less;
    }

pub loop-low-preserved : goal.loop-low-preserved
loop-low-preserved c =
    let i = c.loop-low.low + (c.loop-low.high - c.loop-low.low) / 2 in
    let x : TokenAt = c.index-tokens-middle.result in
    let below : i < c.loop-low.high = omega (arith, c.loop-low-test.true) in
    record {
      in_order = omega (arith, below);
      within = c.loop-low.invariant.within;
      passed = passes_next c.args.tokens.now c.args.path.now i x c.requires (omega (arith, below, c.loop-low.invariant.within)) c.index-tokens-middle.is
          (ap (λ (e : TokenAt). names_cmp c.args.path.now e.0) c.index-tokens-middle.is ∙ (sym c.cmp.ensures ∙ c.in-Greater.is));
      ahead = c.loop-low.invariant.ahead;
    }

pub returns-in-Equal : goal.returns-in-Equal
returns-in-Equal c =
    let i = c.loop-low.low + (c.loop-low.high - c.loop-low.low) / 2 in
    let x : TokenAt = c.index-tokens-middle.result in
    let below : i < c.loop-low.high = omega (arith, c.loop-low-test.true) in
    found_place c.args.tokens.now c.args.path.now i x c.requires (omega (arith, below, c.loop-low.invariant.within)) c.index-tokens-middle.is
    (ap (λ (e : TokenAt). names_cmp c.args.path.now e.0) c.index-tokens-middle.is ∙ (sym c.cmp.ensures ∙ c.in-Equal.is))

pub returns : goal.returns
returns c =
    missed c.args.tokens.now c.args.path.now c.loop-low.low c.loop-low.invariant.passed
    (λ k d from below. c.loop-low.invariant.ahead k d (omega (arith, from, c.loop-low-test.false)) below)
