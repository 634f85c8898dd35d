use Rattle.std.proofs.Common.{◌≡◌, ◌<◌, ◌-◌, length, sym, subst, arith}
use Rattle.std.proofs.lemmas.Bool.Decides.{nat_tests}
use Rattle.edit_script.specs.Script.{IsScriptEnd}
use Rattle.edit_script.proofs.Readings.{no_header, no_reading, stops}
use Rattle.edit_script.proofs.script.read_script.Goals as goal

pub returns-in_default-clause-none : goal.returns-in_default-clause-none
returns-in_default-clause-none c at is = (no_header c.args.text.now c.in_default.ensures).0

pub returns-in_default-clause-stop : goal.returns-in_default-clause-stop
returns-in_default-clause-stop c at is =
    let here : 0 ≡ at = cc in
    subst (IsScriptEnd c.args.text.now) here (no_header c.args.text.now c.in_default.ensures).1

pub returns-in_default-next_event-clause-none : goal.returns-in_default-next_event-clause-none
returns-in_default-next_event-clause-none c at is =
    let some : 0 < length c.loop-rest.rest.now = grind (arith, nat_tests) in
    no_reading c.in-Some.version c.args.text.now c.loop-rest.rest.now c.loop-rest.events c.loop-rest.invariant.1 c.in_default-next_event.ensures some

pub returns-in_default-next_event-clause-stop : goal.returns-in_default-next_event-clause-stop
returns-in_default-next_event-clause-stop c at is =
    let here : length c.args.text.now - length c.loop-rest.rest.now ≡ at = cc in
    stops c.in-Some.version c.args.text.now c.loop-rest.rest.now c.loop-rest.events at c.loop-rest.invariant.1 c.in_default-next_event.ensures (sym here)
