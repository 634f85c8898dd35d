use Rattle.std.proofs.Common.{ap, Err, Some}
use Rattle.alias_ref.specs.References.{place_named}
use Rattle.alias_ref.specs.Written.{reference_written}
use Rattle.explain.proofs.HopsHold.{none_if}
use Rattle.explain.proofs.saying.pointed.Goals as goal

pub returns-in-Err-BadRef : goal.returns-in-Err-BadRef
returns-in-Err-BadRef c =
    let bad = c.in-Err-BadRef.ensures.bad (ap Err c.in-Err-BadRef.field-0-is) in
    ap (λ o. Some (reference_written o)) (none_if (place_named c.args.text.now) (λ place is. bad place ((c.references_named.ensures.pointers c.args.text.now place).0 is)))
