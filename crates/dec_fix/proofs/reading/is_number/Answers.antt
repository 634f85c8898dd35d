use Rattle.std.proofs.Common.{rules}
use Rattle.dec_fix.proofs.NumberTexts.{split_is_text, no_text}
use Rattle.dec_fix.proofs.reading.is_number.Goals as goal

pub returns-clause-is : goal.returns-clause-is
returns-clause-is c = search rules

pub returns-clause-number : goal.returns-clause-number
returns-clause-number c = let is = returns-clause-is c in search (rules, split_is_text c.args.text.now)

pub returns-clause-other : goal.returns-clause-other
returns-clause-other c = let is = returns-clause-is c in search (rules, no_text c.args.text.now)
