use Rattle.std.proofs.Common.{◌∙◌, ◌∷◌, [], Some, ap, sym, length}
use Rattle.refusals.specs.Refusal.{file_text, of_key, detail_line, report, report_text}
use Rattle.build_plain.specs.Out.{config_path}
use Rattle.refusals.specs.declared.rule.Rule.TheVariants as rule
use Rattle.refusals.proofs.Reports.{told, one_more}
use Rattle.build_plain.proofs.config.config_text.Goals as goal

pub returns-in_ok-append_key-in-Key : goal.returns-in_ok-append_key-in-Key
returns-in_ok-append_key-in-Key c =
    let files = c.args.files.now in
    let end = length (file_text files config_path) in
    let b = c.in_ok-text-in-Key.text in
    let key = c.as_slice.result.now in
    let text = told files rule.ConfigKey config_path 0 end b c.append_key.new.out (of_key key ∷ []) c.in_ok-text-in-Key.ensures (one_more b c.append_key.new.out (detail_line (of_key key)) c.in_ok-append_key-in-Key.ensures.ok)
    ∙ ap (λ k. report_text files (report rule.ConfigKey config_path 0 end (of_key k ∷ []))) c.as_slice.ensures in
    rw c.in-Key.is (ap Some (sym text))
