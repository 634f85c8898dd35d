use Rattle.css_out.specs.Fragment.{is_only}
use Rattle.css_out.proofs.ItemsAddUp.{first_then}
use Rattle.css_out.proofs.token.Token.listed.Goals as goal

pub returns : goal.returns
returns g c =
    let items = c.args.items.now in
    rw (c.in_ok-behind_commas.ensures, c.in_ok-spell_item.ensures)
    (first_then (g.T.Item.item_parts c.args.self.now.cfg.now.prefix c.args.self.now.links.now (is_only items)) items c.in-Some.first.now c.args.line.now c.in-Some.ensures.item.3.0 c.in-Some.ensures.item.1)
