use Rattle.std.proofs.Common.{◌∙◌, arith}
use Rattle.css_out.proofs.ItemsAddUp.{goes_on}
use Rattle.css_out.proofs.token.Token.behind_commas.Goals as goal

pub loop-i-preserved : goal.loop-i-preserved
loop-i-preserved g c =
    rw (c.in_ok-spell_item.ensures, c.in_ok-comma.ensures)
    (goes_on (g.T.Item.item_parts c.args.self.now.cfg.now.prefix c.args.self.now.links.now c.args.is_only) c.args.items.now c.loop-i.i c.index-items-i.result c.loop-i.line (omega (arith, c.loop-i-test.true)) c.index-items-i.is
    ∙ c.loop-i.invariant)
