use Rattle.std.proofs.Common.{◌<◌, ◌+◌, ◌-◌, ◌/◌, Some, length, List, arith, sym, ap, ◌∙◌}
use Rattle.tk_io.specs.Order.{names_cmp}
use Rattle.group_inherit.specs.Flattening.{TokenAt}
use Rattle.alias_ref.proofs.RememberedTokens.{item_at, same_path}
use Rattle.alias_ref.proofs.memory.place_of.Goals as goal

pub returns-in-Equal : goal.returns-in-Equal
returns-in-Equal c =
    let i = c.loop-low.low + (c.loop-low.high - c.loop-low.low) / 2 in
    let x : TokenAt = c.index-tokens-middle.result in
    let tokens : List TokenAt = c.args.tokens.now in
    let inside : i < length tokens = omega (arith, c.loop-low-test.true, c.loop-low.invariant.1) in
    let same = same_path c.args.path.now x.0 (ap (λ (e : TokenAt). names_cmp c.args.path.now e.0) c.index-tokens-middle.is ∙ (sym c.cmp.ensures ∙ c.in-Equal.is)) in
    (x.1, item_at tokens i x inside c.index-tokens-middle.is ∙ ap (λ p. Some (p, x.1)) (sym same))
