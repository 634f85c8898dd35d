use Rattle.std.proofs.Common.{◌≡◌, ◌++◌, ◌∙◌, codes, option_map}
use Rattle.css_out.specs.Parts.{shown}
use Rattle.css_out.specs.Fragment.{value_parts}
use Rattle.css_out.specs.inner.Added.{with_pieces, started}
use Rattle.css_out.proofs.LinesDone.{alone_done}
use Rattle.css_out.proofs.token.Token.one_line.Goals as goal

pub returns : goal.returns
returns c =
    let name = c.args.name.now in
    let l = c.over-line.result in
    let parts = value_parts c.args.self.now.cfg.now.prefix c.args.self.now.links.now (option_map (λ p. p.now) c.args.whole) c.args.typed.now in
    let start : c.start.new.self ≡ started l name = c.in_ok-start.ensures in
    let value : c.value.new.line ≡ with_pieces (started l name) (shown parts) = cc (c.in_ok-value.ensures, start) in
    let end : c.end.new.self.text ≡ (with_pieces (started l name) (shown parts)).text ++ codes ";\n" = cc (c.in_ok-end.ensures, value) in
    record { names = c.one.ensures; body = end ∙ alone_done l name (shown parts) c.over-line.ensures.text }
