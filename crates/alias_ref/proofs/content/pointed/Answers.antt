use Rattle.std.proofs.Common.{rules, sym, ap, Err}
use Rattle.alias_ref.specs.Written.{reference_written}
use Rattle.alias_ref.proofs.ReferencesNamed.{pointer_found, no_pointer}
use Rattle.alias_ref.proofs.content.pointed.Goals as goal

pub returns-in-Ok-clause-written : goal.returns-in-Ok-clause-written
returns-in-Ok-clause-written c = let e = pointer_found c.args.text.now c.in-Ok.place c.in-Ok.ensures.place in search (rules, e)

pub returns-in-Err-BadRef-clause-written : goal.returns-in-Err-BadRef-clause-written
returns-in-Err-BadRef-clause-written c = sym (ap reference_written (no_pointer c.args.text.now (λ place s. c.in-Err-BadRef.ensures.bad (ap Err c.in-Err-BadRef.field-0-is) place s)))
