use Rattle.std.proofs.Common.{◌≡◌, ℕ, ◌+◌, ◌-◌, ◌/◌, ◌<◌, List, length, get_or, Equal, arith, ap, sym, ◌∙◌, subst, drop}
use Rattle.std.specs.Cmp.Lexicographic.{lists_total, nat_list_cmp_total}
use Rattle.tk_io.specs.Order.{names_cmp}
use Rattle.group_inherit.specs.Flattening.{Flattened}
use Rattle.group_inherit.specs.inner.Halves.{IsBeforeAll}
use Rattle.group_inherit.proofs.Halves.{same_item, passes_one, stops, passed_before}
use Rattle.group_inherit.proofs.flat_tree.place_of.Goals as goal

abbrev Token : Type 0
Token = List (List ℕ) × Flattened

pub loop-low-preserved-in-Less : goal.loop-low-preserved-in-Less
loop-low-preserved-in-Less c =
    let i = c.loop-low.low + (c.loop-low.high - c.loop-low.low) / 2 in
    let below : i < c.loop-low.high = omega (arith, c.loop-low-test.true) in
    record {
      in_order = omega arith;
      within = omega (arith, below, c.loop-low.invariant.within);
      passed = c.loop-low.invariant.passed;
      ahead = stops (lists_total nat_list_cmp_total) c.args.path.now c.args.tokens.now i c.index-tokens-middle.result c.requires (omega (arith, below, c.loop-low.invariant.within)) c.index-tokens-middle.is (ap (λ (e : Token). names_cmp c.args.path.now e.0) c.index-tokens-middle.is ∙ (sym c.cmp.ensures ∙ c.in-Less.is));
    }

pub loop-low-preserved : goal.loop-low-preserved
loop-low-preserved c =
    let i = c.loop-low.low + (c.loop-low.high - c.loop-low.low) / 2 in
    let below : i < c.loop-low.high = omega (arith, c.loop-low-test.true) in
    record {
      in_order = omega (arith, below);
      within = c.loop-low.invariant.within;
      passed = passes_one (lists_total nat_list_cmp_total) c.args.path.now c.args.tokens.now i c.index-tokens-middle.result c.requires (omega (arith, below, c.loop-low.invariant.within)) c.index-tokens-middle.is (ap (λ (e : Token). names_cmp c.args.path.now e.0) c.index-tokens-middle.is ∙ (sym c.cmp.ensures ∙ c.in-Greater.is));
      ahead = c.loop-low.invariant.ahead;
    }

pub returns-in-Equal-clause-place : goal.returns-in-Equal-clause-place
returns-in-Equal-clause-place c =
    let i = c.loop-low.low + (c.loop-low.high - c.loop-low.low) / 2 in
    let below : i < c.loop-low.high = omega (arith, c.loop-low-test.true) in
    let x : Token = c.index-tokens-middle.result in
    let tokens : List Token = c.args.tokens.now in
    let inside : i < length tokens = omega (arith, below, c.loop-low.invariant.within) in
    let tie : names_cmp c.args.path.now (get_or tokens i x).0 ≡ Equal = sym c.cmp.ensures ∙ c.in-Equal.is in
    record {
      within = omega (arith, below, c.loop-low.invariant.within);
      passed = passed_before (lists_total nat_list_cmp_total) c.args.path.now c.args.tokens.now i c.index-tokens-middle.result c.requires (omega (arith, below, c.loop-low.invariant.within)) c.index-tokens-middle.is (ap (λ (e : Token). names_cmp c.args.path.now e.0) c.index-tokens-middle.is ∙ tie);
      same = λ d. ap (λ (e : Token). names_cmp c.args.path.now e.0) (same_item tokens i d x inside) ∙ tie;
    }

pub returns-clause-gap : goal.returns-clause-gap
returns-clause-gap c =
    let met : c.loop-low.high ≡ c.loop-low.low = omega (arith, c.loop-low-test.false, c.loop-low.invariant.in_order) in
    record {
      within = omega (arith, met, c.loop-low.invariant.within);
      passed = c.loop-low.invariant.passed;
      ahead = subst (λ (n : ℕ). IsBeforeAll names_cmp c.args.path.now (drop n c.args.tokens.now)) met c.loop-low.invariant.ahead;
    }
