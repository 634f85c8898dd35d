use Rattle.std.proofs.Common.{sym, codes}
use Rattle.name_path.specs.declared.kind.Kind.TheVariants as kind
use Rattle.css_out.specs.PlatformValue.{size_marks, stroke_marks, color_marks}
use Rattle.css_out.specs.Fragment.{member_part}
use Rattle.css_out.proofs.PiecesAddUp.{three_parts}
use Rattle.css_out.proofs.token.Token.border.Goals as goal

pub returns : goal.returns
returns c =
    let prefix = c.args.self.now.cfg.now.prefix in let links = c.args.self.now.links.now in let b = c.args.border.now in
    rw (c.in_ok-member-3.ensures, c.in_ok-member-2.ensures, c.in_ok-member.ensures)
    (sym (three_parts c.args.line.now (member_part prefix links (codes "width") kind.Dimension (size_marks b.width))
    (member_part prefix links (codes "style") kind.StrokeStyle (stroke_marks b.style)) (member_part prefix links (codes "color") kind.Color (color_marks b.color))))
