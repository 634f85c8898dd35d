use Rattle.std.proofs.Common.{◌∷◌}
use Rattle.certificates.proofs.Cutting.{front_of, in_front}
use Rattle.certificates.proofs.string.before_backslash.Goals as goal

pub returns-in_default-clause-none : goal.returns-in_default-clause-none
returns-in_default-clause-none c inside rest e lacks = front_of 92 c.args.text.now inside (34 ∷ rest) c.in_default.ensures e

pub returns-in-Some-cut-clause-none : goal.returns-in-Some-cut-clause-none
returns-in-Some-cut-clause-none c inside rest e lacks =
    in_front c.args.text.now c.in-Some.plain.now c.in-Some.behind.now c.in-Some-cut.field-0.0.now c.in-Some-cut.field-0.1.now inside rest
    c.in-Some.ensures.0 c.in-Some.ensures.1 c.in-Some-cut.ensures.0 c.in-Some-cut.ensures.1 e lacks
