use Rattle.dec_fix.proofs.Exact.{point_spells}
use Rattle.dec_fix.proofs.Pointed.{point_again}
use Rattle.dec_fix.proofs.Exactness.{text_decimal-spelled}
use Rattle.dec_fix.specs.Writing.{point_spelling}
use Rattle.dec_fix.proofs.decimal.Dec.write_point.Goals as goal

pub returns-clause-spells : goal.returns-clause-spells
returns-clause-spells c = point_spells c.args.self.now c.put-2.ensures.is

pub returns-clause-read_again : goal.returns-clause-read_again
returns-clause-read_again c = λ rest e. point_again c.args.self.now rest c.put-2.ensures.is e

pub returns-clause-decimal : goal.returns-clause-decimal
returns-clause-decimal c = text_decimal-spelled (point_spelling c.args.self.now) c.args.self.now c.put-2.ensures.is.short (returns-clause-spells c)
