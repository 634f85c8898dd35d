use Rattle.std.proofs.Common.{rules, ◌≡◌, None}
use Rattle.edit_script.proofs.Spelled.{digits_cut, none_case}
use Rattle.edit_script.proofs.number.cut_number.Goals as goal

pub returns-in_err-read_number : goal.returns-in_err-read_number
returns-in_err-read_number c =
    let gone : c.from_residual-in_err-read_number.result ≡ None = search rules in
    none_case c.from_residual-in_err-read_number.result _ _ gone (λ n rest small is.
    let (digits, more) = digits_cut c.args.text.now c.in_ok-digits.digits.now c.in_ok-digits.rest.now n rest c.in_ok-digits.ensures small is in
    c.in_err-read_number.ensures n small digits)
