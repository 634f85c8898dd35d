use Rattle.std.proofs.Common.{sym, rules}
use Rattle.dec_fix.proofs.Exactness.{ok_spells, ok_exact, err_none, number_of-none, number_of-split}
use Rattle.dec_fix.proofs.decimal.Dec.read.Goals as goal

pub returns-in-Some-clause-is : goal.returns-in-Some-clause-is
returns-in-Some-clause-is c = let split = number_of-split c.args.text.now in search rules

pub returns-in-None-clause-is : goal.returns-in-None-clause-is
returns-in-None-clause-is c = let split = number_of-split c.args.text.now in search rules

pub returns-in-Some-clause-equal : goal.returns-in-Some-clause-equal
returns-in-Some-clause-equal c = ok_spells c.args.text.now c.from_parts.result (returns-in-Some-clause-is c)

pub returns-in-Some-clause-bounds : goal.returns-in-Some-clause-bounds
returns-in-Some-clause-bounds c = ok_exact c.args.text.now c.from_parts.result (returns-in-Some-clause-is c)

pub returns-in-Some-clause-refused : goal.returns-in-Some-clause-refused
returns-in-Some-clause-refused c = err_none c.args.text.now c.from_parts.result (returns-in-Some-clause-is c)

pub returns-in-None-clause-refused : goal.returns-in-None-clause-refused
returns-in-None-clause-refused c =
    number_of-none c.args.text.now (sym (returns-in-None-clause-is c))
