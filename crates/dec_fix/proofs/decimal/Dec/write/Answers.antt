use Rattle.dec_fix.proofs.Exact.{spelling_spells}
use Rattle.dec_fix.proofs.Again.{number_again}
use Rattle.dec_fix.proofs.Exactness.{text_decimal-spelled}
use Rattle.dec_fix.specs.Writing.{spelling}
use Rattle.dec_fix.proofs.decimal.Dec.write.Goals as goal

pub returns-clause-spells : goal.returns-clause-spells
returns-clause-spells c = spelling_spells c.args.self.now c.put.ensures.is

pub returns-clause-read_again : goal.returns-clause-read_again
returns-clause-read_again c = λ rest e. number_again c.args.self.now rest c.put.ensures.is e

pub returns-clause-decimal : goal.returns-clause-decimal
returns-clause-decimal c = text_decimal-spelled (spelling c.args.self.now) c.args.self.now c.put.ensures.is.short (returns-clause-spells c)
