use Rattle.std.proofs.Common.{◌≡◌, true, sym, rules}
use Rattle.dec_fix.specs.Reading.{is_number_text}
use Rattle.type_rules.proofs.LegacyTexts.{none_stripped, number_stripped}
use Rattle.type_rules.proofs.legacy.number_before.Goals as goal

pub returns-in_err-number : goal.returns-in_err-number
returns-in_err-number c = let none = none_stripped c.args.unit.now c.args.text.now c.in_err-number.ensures.cases in search rules

pub returns : goal.returns
returns c =
    let is : is_number_text c.in_ok-number.number.now ≡ true = search rules in
    sym (number_stripped c.args.unit.now c.args.text.now c.in_ok-number.number.now c.in_ok-number.ensures.cases is)
