use Rattle.std.proofs.Common.{◌∙◌}
use Rattle.explain_cli.proofs.WeighedTokens.{weighed_broken, weighed_whole}
use Rattle.explain_cli.proofs.judging.weighed_under.Goals as goal

pub returns-then-is_some : goal.returns-then-is_some
returns-then-is_some c =
    let made = c.in_ok-tree in
    weighed_broken c.args.files.now c.args.cfg.now c.args.flat made.tree.cells c.tokens.result.now c.cells.result.now c.in_ok-verdict_text.field-0 c.is_some.result
    made.ensures.ok (c.tokens.ensures ∙ made.ensures.tokens) c.cells.ensures c.in_ok-verdict_text.ensures c.is_some.ensures c.if-is_some.true

pub returns : goal.returns
returns c =
    let made = c.in_ok-tree in
    weighed_whole c.args.files.now c.args.cfg.now c.args.flat made.tree.cells c.into_parts-flat.result.0 c.tokens.result.now c.cells.result.now c.in_ok-verdict_text.field-0 c.is_some.result
    made.ensures.ok (c.into_parts-flat.ensures.tokens ∙ made.ensures.tokens) (c.tokens.ensures ∙ made.ensures.tokens) c.cells.ensures c.in_ok-verdict_text.ensures c.is_some.ensures c.if-is_some.false
