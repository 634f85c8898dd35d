use Rattle.std.proofs.Common.{sym, ◌∙◌}
use Rattle.std.proofs.lemmas.Option.{same_Some}
use Rattle.dec_fix.proofs.Exactness.{text_decimal-spelled}
use Rattle.dec_fix.proofs.laws.one_number.Goals as goal

pub returns : goal.returns
returns c text d e short short_too spells spells_too = same_Some d e (sym (text_decimal-spelled text d short spells) ∙ text_decimal-spelled text e short_too spells_too)
