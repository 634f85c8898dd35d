use Rattle.std.proofs.Common.{arith, sym, ◌∙◌}
use Rattle.tree_changes.proofs.Standing.{found_place, no_place, passed_before, passed_itself, past_all, passes_next}
use Rattle.tree_changes.proofs.unchanged.place_from.Goals as goal

pub loop-token-init : goal.loop-token-init
loop-token-init c = c.requires.passed

pub loop-token-smaller : goal.loop-token-smaller
loop-token-smaller c = omega (arith, c.in-Some.ensures.lookup.3.0)

pub loop-token-preserved : goal.loop-token-preserved
loop-token-preserved c =
    let t = c.in-Some.token.now in
    passes_next c.args.tokens.now c.args.path.now c.loop-token.at t c.requires.sorted c.in-Some.ensures.lookup.3.0
    (c.in-Some.ensures.lookup.3.1 t) (sym c.cmp.ensures ∙ c.in-Greater.is)

pub returns-in-Equal : goal.returns-in-Equal
returns-in-Equal c =
    let t = c.in-Some.token.now in
    record {
      passed = passed_itself c.args.tokens.now c.args.path.now c.loop-token.at t c.loop-token.invariant c.in-Some.ensures.lookup.3.0 (c.in-Some.ensures.lookup.3.1 t)
          (sym c.cmp.ensures ∙ c.in-Equal.is);
      found = found_place c.args.tokens.now c.args.path.now c.loop-token.at t c.requires.sorted c.in-Some.ensures.lookup.3.0
          (c.in-Some.ensures.lookup.3.1 t) (sym c.cmp.ensures ∙ c.in-Equal.is);
    }

pub returns-in-Less : goal.returns-in-Less
returns-in-Less c =
    let t = c.in-Some.token.now in
    record {
      passed = passed_before c.args.tokens.now c.args.path.now c.loop-token.at c.loop-token.invariant;
      found = no_place c.args.tokens.now c.args.path.now c.loop-token.at t c.requires.sorted c.loop-token.invariant
          c.in-Some.ensures.lookup.3.0 (c.in-Some.ensures.lookup.3.1 t) (sym c.cmp.ensures ∙ c.in-Less.is);
    }

pub returns : goal.returns
returns c = record {
  passed = passed_before c.args.tokens.now c.args.path.now c.loop-token.at c.loop-token.invariant;
  found = past_all c.args.tokens.now c.args.path.now c.loop-token.at c.loop-token.invariant c.in_default.ensures.lookup.3;
}
