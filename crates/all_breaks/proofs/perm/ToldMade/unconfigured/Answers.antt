use Rattle.std.proofs.Common.{◌∷◌, [], ◌∙◌, Err, ap, length}
use Rattle.std.proofs.lemmas.Result.{IfOk-weaker}
use Rattle.refusals.specs.Refusal.{file_text}
use Rattle.build_plain.specs.Out.{config_path}
use Rattle.build_plain.proofs.Works.{any_ok}
use Rattle.all_breaks.specs.All.{ToldUnder}
use Rattle.all_breaks.specs.Told.{told_break}
use Rattle.all_breaks.proofs.Planned.{config_told, has_fault}
use Rattle.all_breaks.proofs.perm.ToldMade.unconfigured.Goals as goal

pub returns-clause-ok : goal.returns-clause-ok
returns-clause-ok c =
    let files = c.args.files.now in
    let fault = c.args.fault.now in
    IfOk-weaker c.bare.result _ (ToldUnder files (Err fault))
    (λ told is. is ∙ (ap (λ b. told_break b [] ∷ []) c.as_slice.ensures ∙ config_told files (length (file_text files config_path)) fault c.in_ok-text.text c.in_ok-text.ensures)) c.bare.ensures

pub returns-clause-broken : goal.returns-clause-broken
returns-clause-broken c =
    let files = c.args.files.now in
    any_ok c.bare.result (has_fault files (length (file_text files config_path)) c.args.fault.now c.in_ok-text.text c.in_ok-text.ensures)
