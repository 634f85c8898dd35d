use Rattle.std.proofs.Common.{◌≡◌, [], ap, Err, get_or}
use Rattle.name_path.specs.declared.reading.RefStop.TheVariants.{BadRef}
use Rattle.std.proofs.lemmas.Result.{err_from_is_err_and}
use Rattle.name_path.proofs.Steps.{lacks_at, spelled_at, step_added}
use Rattle.name_path.proofs.reading.decoded.Goals as goal

pub step_of-requires : goal.step_of-requires
step_of-requires c = lacks_at 47 c.args.segments.now c.loop-segment.segment-index c.segment-item.result c.loop-segment-test.true c.segment-item.is c.requires

pub returns-in_err-step_of-clause-bad : goal.returns-in_err-step_of-clause-bad
returns-in_err-step_of-clause-bad c = λ h steps e.
    let returned = err_from_is_err_and c.from_residual.result c.from_residual.ensures.1 in
    let refused : c.in_err-step_of.field-0.0 ≡ BadRef = cc (h, returned.1, returned.2) in
    c.in_err-step_of.ensures.bad (ap Err refused) (get_or steps c.loop-segment.segment-index [])
    (spelled_at c.args.segments.now steps c.loop-segment.segment-index c.segment-item.result c.loop-segment-test.true c.segment-item.is e)

pub loop-segment-preserved : goal.loop-segment-preserved
loop-segment-preserved c =
    step_added c.args.segments.now c.loop-segment.segment-index c.segment-item.result c.loop-segment.steps c.push.new.self c.in_ok-step_of.field-0
    c.loop-segment-test.true c.segment-item.is c.loop-segment.invariant c.in_ok-push.ensures.ok c.in_ok-step_of.ensures.step
