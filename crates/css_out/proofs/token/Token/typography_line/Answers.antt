use Rattle.std.proofs.Common.{◌≡◌, ◌++◌, ◌∙◌, codes}
use Rattle.css_out.specs.Parts.{shown_part}
use Rattle.css_out.specs.Fragment.{typography_part}
use Rattle.css_out.specs.inner.Added.{with_pieces, started}
use Rattle.css_out.proofs.LinesDone.{part_done}
use Rattle.css_out.proofs.token.Token.typography_line.Goals as goal

pub returns-clause-text : goal.returns-clause-text
returns-clause-text g c =
    let m = c.args.member.now in
    let name = c.args.name.now ++ m.ending.now in
    let part = typography_part c.args.self.now.cfg.now.prefix c.args.self.now.links.now c.args.whole.now m.name.now m.kind m.ending.now (g.T.Spell.marks c.args.value.now) in
    let start : c.start.new.self ≡ started c.args.lines.now.line name = cc (c.in_ok-start.ensures, c.as_slice.ensures, c.in_ok-name.ensures) in
    let whole : c.typography_part.new.line ≡ with_pieces (started c.args.lines.now.line name) (shown_part part) = cc (c.in_ok-typography_part.ensures, start) in
    let end : c.end.new.self.text ≡ (with_pieces (started c.args.lines.now.line name) (shown_part part)).text ++ codes ";\n" = cc (c.in_ok-end.ensures, whole) in
    end ∙ part_done c.args.lines.now.line name part
