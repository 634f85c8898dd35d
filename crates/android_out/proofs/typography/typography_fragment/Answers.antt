use Rattle.std.proofs.Common.{◌++◌, ap, ◌∙◌}
use Rattle.android_out.specs.Spelling.{line_text}
use Rattle.transforms.specs.FiveNames.{size_end, spacing_end}
use Rattle.transforms.specs.declared.platform.Platform.TheVariants.{Android}
use Rattle.transforms.proofs.FiveLines.{five_texts, five_names}
use Rattle.android_out.proofs.typography.typography_fragment.Goals as goal

pub returns : goal.returns
returns c =
    let name = c.args.name.now in
    record {
      names = c.several.ensures ∙ five_names _ _ _ _ _ _ _ _ _ _ _ c.new-names.ensures c.in_ok-add.ensures.names c.in_ok-add-2.ensures.names c.in_ok-add-3.ensures.names c.in_ok-add-4.ensures.names c.in_ok-add-5.ensures.names;
      body = five_texts _ _ _ _ _ _ _ _ _ _ _ c.truncate.ensures c.in_ok-add.ensures.body
          (c.in_ok-add-2.ensures.body ∙ ap (λ x. c.add.new.draft ++ line_text (name ++ size_end Android, x)) c.size_content-size.ensures) c.in_ok-add-3.ensures.body
          (c.in_ok-add-4.ensures.body ∙ ap (λ x. c.add-3.new.draft ++ line_text (name ++ spacing_end Android, x)) c.size_content-spacing.ensures) c.in_ok-add-5.ensures.body;
    }
