use Rattle.std.proofs.Common.{rules, ◌≡◌, None}
use Rattle.edit_script.proofs.Readings.{neither_header}
use Rattle.edit_script.proofs.Spelled.{none_case}
use Rattle.edit_script.proofs.script.cut_header.Goals as goal

pub returns-in_err-rest : goal.returns-in_err-rest
returns-in_err-rest c =
    let gone : c.from_residual.result ≡ None = search rules in
    none_case c.from_residual.result _ _ gone (neither_header c.args.text.now c.in_default.ensures.cases c.in_err-rest.ensures.cases)
