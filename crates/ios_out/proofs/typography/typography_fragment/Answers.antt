use Rattle.std.proofs.Common.{◌++◌, ap, ◌∙◌}
use Rattle.ios_out.specs.Constant.{number}
use Rattle.transforms.specs.FiveNames.{size_end, spacing_end}
use Rattle.transforms.specs.declared.platform.Platform.TheVariants.{Swift}
use Rattle.ios_out.specs.PlatformValue.{length_type}
use Rattle.ios_out.specs.Spelling.{line_text}
use Rattle.transforms.proofs.FiveLines.{five_texts, five_names}
use Rattle.ios_out.proofs.typography.typography_fragment.Goals as goal

pub returns : goal.returns
returns c =
    let name = c.args.name.now in
    record {
      names = c.several.ensures ∙ five_names _ _ _ _ _ _ _ _ _ _ _ c.new-names.ensures c.in_ok-add.ensures.names c.in_ok-add_number.ensures.names c.in_ok-add_number-2.ensures.names
          c.in_ok-add_number-3.ensures.names c.in_ok-add_number-4.ensures.names;
      body = five_texts _ _ _ _ _ _ _ _ _ _ _ c.truncate.ensures c.in_ok-add.ensures.body
          (c.in_ok-add_number.ensures.body ∙ ap (λ x. c.add.new.draft ++ line_text (name ++ size_end Swift, number length_type x)) c.points-size.ensures) c.in_ok-add_number-2.ensures.body
          (c.in_ok-add_number-3.ensures.body ∙ ap (λ x. c.add_number-2.new.draft ++ line_text (name ++ spacing_end Swift, number length_type x)) c.points-spacing.ensures) c.in_ok-add_number-4.ensures.body;
    }
