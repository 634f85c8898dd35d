use Rattle.std.proofs.Common.{sym, codes}
use Rattle.name_path.specs.declared.kind.Kind.TheVariants as kind
use Rattle.css_out.specs.Parts.{plain}
use Rattle.css_out.specs.PlatformValue.{size_marks, color_marks, inset_marks}
use Rattle.css_out.specs.Fragment.{item_part}
use Rattle.css_out.proofs.PiecesAddUp.{added_marks, six_parts}
use Rattle.css_out.proofs.token.ShadowItemItem.spell_item.Goals as goal

pub returns : goal.returns
returns c =
    let prefix = c.args.token.now.cfg.now.prefix in let links = c.args.token.now.links.now in let item = c.args.self.now in
    rw (
      c.in_ok-item-5.ensures,
      c.in_ok-item-4.ensures,
      c.in_ok-item-3.ensures,
      c.in_ok-item-2.ensures,
      c.in_ok-item.ensures,
      c.in_ok-spell_inset.ensures,
      ← added_marks c.args.line.now (inset_marks item.inset),
      c.format.ensures.text,
    )
    (sym (six_parts c.args.line.now (plain (inset_marks item.inset))
    (item_part prefix links c.args.is_only c.args.i (codes "offsetX") kind.Dimension (size_marks item.offset_x))
    (item_part prefix links c.args.is_only c.args.i (codes "offsetY") kind.Dimension (size_marks item.offset_y))
    (item_part prefix links c.args.is_only c.args.i (codes "blur") kind.Dimension (size_marks item.blur))
    (item_part prefix links c.args.is_only c.args.i (codes "spread") kind.Dimension (size_marks item.spread))
    (item_part prefix links c.args.is_only c.args.i (codes "color") kind.Color (color_marks item.color))))
