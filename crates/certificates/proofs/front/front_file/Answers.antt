use Rattle.std.proofs.Common.{ap, sym, subst, ◌∙◌}
use Rattle.edit_script.specs.Script.{is_path}
use Rattle.certificates.specs.inner.Fronts.{Lacks}
use Rattle.certificates.proofs.Cutting.{cut_once, has}
use Rattle.certificates.proofs.Finding.{behind_one, clash}
use Rattle.certificates.proofs.Lines.{file_lacks}
use Rattle.certificates.proofs.front.front_file.Goals as goal

pub returns-in_err-file-clause-found : goal.returns-in_err-file-clause-found
returns-in_err-file-clause-found c file rest path e = absurd (has 32 file rest (subst (Lacks 32) e c.in_err-file.ensures))

pub returns-then-not-is_path-clause-found : goal.returns-then-not-is_path-clause-found
returns-then-not-is_path-clause-found c file rest path e =
    let (same, _) = cut_once 32 c.in_ok-file.file.now file c.in_ok-file.rest.now rest c.in_ok-file.ensures.1 (file_lacks file path) (sym c.in_ok-file.ensures.0 ∙ e) in
    clash (is_path c.in_ok-file.file.now) (ap is_path same ∙ path) (cc)

pub returns-clause-found : goal.returns-clause-found
returns-clause-found c file rest path e = cut_once 32 c.in_ok-file.file.now file c.in_ok-file.rest.now rest c.in_ok-file.ensures.1 (file_lacks file path) (sym c.in_ok-file.ensures.0 ∙ e)

pub returns-clause-left : goal.returns-clause-left
returns-clause-left c = behind_one c.args.text.now c.in_ok-file.file.now c.in_ok-file.rest.now 32 c.in_ok-file.ensures.0
