use Rattle.std.proofs.Common.{◌-◌, ◌<◌, length, rules}
use Rattle.std.proofs.lemmas.Option.{slice_get-get_or}
use Rattle.json_span.proofs.Naming as naming
use Rattle.json_span.proofs.RisingNames.{next_rises}
use Rattle.json_span.proofs.names.are_rising.Goals as goal

pub rises-requires-clause-first : goal.rises-requires-clause-first
rises-requires-clause-first c =
    let (es, are) = c.requires in
    let lt : c.loop-i.i - 1 < length c.args.names.now = search rules in
    let (e, h, is) = naming.are_at c.args.text.now c.args.names.now es (c.loop-i.i - 1) _ are (slice_get-get_or c.args.names.now (c.loop-i.i - 1) naming.no_name lt) in
    (e, is)

pub rises-requires-clause-second : goal.rises-requires-clause-second
rises-requires-clause-second c =
    let (es, are) = c.requires in
    let lt : c.loop-i.i < length c.args.names.now = search rules in
    let (e, h, is) = naming.are_at c.args.text.now c.args.names.now es c.loop-i.i _ are (slice_get-get_or c.args.names.now c.loop-i.i naming.no_name lt) in
    (e, is)

pub loop-i-preserved : goal.loop-i-preserved
loop-i-preserved c = λ es are.
    let low : c.loop-i.i - 1 < length c.args.names.now = search rules in
    let lt : c.loop-i.i < length c.args.names.now = search rules in
    let (e, before, is_e) = naming.are_at c.args.text.now c.args.names.now es (c.loop-i.i - 1) _ are (slice_get-get_or c.args.names.now (c.loop-i.i - 1) naming.no_name low) in
    let (f, here, is_f) = naming.are_at c.args.text.now c.args.names.now es c.loop-i.i _ are (slice_get-get_or c.args.names.now c.loop-i.i naming.no_name lt) in
    next_rises es c.loop-i.i e f (search rules) before here (c.rises.ensures c.if-not-rises.false e f is_e is_f) (c.loop-i.invariant es are)

pub returns : goal.returns
returns c = λ t es are. naming.no_flaw c.args.text.now c.args.names.now es c.loop-i.i are (search rules) (c.loop-i.invariant es are).apart
