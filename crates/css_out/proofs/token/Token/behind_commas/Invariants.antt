-- What the items still to come add to the line now, all items after the first add to it at the start.
use Rattle.std.proofs.Common.{◌≡◌, drop}
use Rattle.css_out.specs.Fragment.{behind_commas}
use Rattle.css_out.specs.Parts.{shown}
use Rattle.css_out.specs.inner.Added.{with_pieces}
use Rattle.css_out.proofs.token.Token.behind_commas.Given as goal

abbrev pub invariant-loop-i : goal.invariant-loop-i
invariant-loop-i g l =
    with_pieces l.line (shown (behind_commas (g.T.Item.item_parts l.self.cfg.now.prefix l.self.links.now l.is_only) l.i (drop l.i l.items)))
    ≡ with_pieces l.fn.line (shown (behind_commas (g.T.Item.item_parts l.self.cfg.now.prefix l.self.links.now l.is_only) 1 (drop 1 l.items)))
