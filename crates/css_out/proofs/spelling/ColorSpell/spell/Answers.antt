use Rattle.css_out.specs.PlatformValue.{function_name, space_marks, component_marks, alpha_marks}
use Rattle.css_out.proofs.PiecesAddUp.{call_marked}
use Rattle.css_out.proofs.spelling.ColorSpell.spell.Goals as goal

pub returns : goal.returns
returns c = rw (c.in_ok-closes.ensures, c.in_ok-spell_alpha.ensures, c.in_ok-spell_components.ensures, c.in_ok-spell_space.ensures, c.in_ok-opens.ensures, c.function_name.ensures)
    (call_marked c.args.line.now (function_name c.args.self.now.space) (space_marks c.args.self.now.space) (component_marks c.args.self.now) (alpha_marks c.args.self.now.alpha))
