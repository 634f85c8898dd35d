use Rattle.std.proofs.Common.{sym, codes}
use Rattle.name_path.specs.declared.kind.Kind.TheVariants as kind
use Rattle.css_out.specs.PlatformValue.{time_marks, curve_marks}
use Rattle.css_out.specs.Fragment.{member_part}
use Rattle.css_out.proofs.PiecesAddUp.{three_parts}
use Rattle.css_out.proofs.token.Token.transition.Goals as goal

pub returns : goal.returns
returns c =
    let prefix = c.args.self.now.cfg.now.prefix in let links = c.args.self.now.links.now in let t = c.args.transition.now in
    rw (c.in_ok-member-3.ensures, c.in_ok-member-2.ensures, c.in_ok-member.ensures)
    (sym (three_parts c.args.line.now (member_part prefix links (codes "duration") kind.Duration (time_marks t.duration))
    (member_part prefix links (codes "timingFunction") kind.CubicBezier (curve_marks t.timing)) (member_part prefix links (codes "delay") kind.Duration (time_marks t.delay))))
