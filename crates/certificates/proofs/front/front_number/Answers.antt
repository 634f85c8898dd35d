use Rattle.std.proofs.Common.{sym, subst, ◌∙◌}
use Rattle.std.specs.Fmt.{decimal}
use Rattle.certificates.specs.inner.Fronts.{Lacks}
use Rattle.certificates.proofs.Cutting.{cut_once, has}
use Rattle.certificates.proofs.Finding.{behind_one}
use Rattle.certificates.proofs.Lines.{number_lacks}
use Rattle.certificates.proofs.front.front_number.Goals as goal

pub returns-in_err-digits-clause-found : goal.returns-in_err-digits-clause-found
returns-in_err-digits-clause-found c n rest small e = absurd (has c.args.mark (decimal n) rest (subst (Lacks c.args.mark) e c.in_err-digits.ensures))

pub returns-in_err-number-clause-found : goal.returns-in_err-number-clause-found
returns-in_err-number-clause-found c n rest small e =
    let (same, _) = cut_once c.args.mark c.in_ok-digits.digits.now (decimal n) c.in_ok-digits.rest.now rest c.in_ok-digits.ensures.1 (number_lacks c.args.mark n c.requires.1 small) (sym c.in_ok-digits.ensures.0 ∙ e) in
    absurd (c.in_err-number.ensures.found n small same)

pub returns-clause-found : goal.returns-clause-found
returns-clause-found c n rest small e =
    let (same, follows) = cut_once c.args.mark c.in_ok-digits.digits.now (decimal n) c.in_ok-digits.rest.now rest c.in_ok-digits.ensures.1 (number_lacks c.args.mark n c.requires.1 small) (sym c.in_ok-digits.ensures.0 ∙ e) in
    (c.in_ok-number.ensures.found n small same, follows)

pub returns-clause-left : goal.returns-clause-left
returns-clause-left c = behind_one c.args.text.now c.in_ok-digits.digits.now c.in_ok-digits.rest.now c.args.mark c.in_ok-digits.ensures.0
