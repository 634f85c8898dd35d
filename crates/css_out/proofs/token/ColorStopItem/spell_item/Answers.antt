use Rattle.std.proofs.Common.{◌∷◌, [], false, codes}
use Rattle.name_path.specs.declared.kind.Kind.TheVariants as kind
use Rattle.css_out.specs.Piece.{mark}
use Rattle.css_out.specs.Parts.{shown_part}
use Rattle.css_out.specs.PlatformValue.{color_marks, position_mark}
use Rattle.css_out.specs.Fragment.{item_part}
use Rattle.css_out.proofs.PiecesAddUp.{added_append}
use Rattle.css_out.proofs.token.ColorStopItem.spell_item.Goals as goal

pub returns : goal.returns
returns c =
    let t = c.args.token.now in let stop = c.args.self.now in
    let both = added_append c.args.line.now (shown_part (item_part t.cfg.now.prefix t.links.now false c.args.i (codes "color") kind.Color (color_marks stop.color))) (mark (position_mark stop.position) ∷ []) in
    cc (c.in_ok-percent.ensures, c.in_ok-item.ensures)
