use Rattle.edit_script.proofs.Spelled.{event_found}
use Rattle.edit_script.proofs.script.next_event.Goals as goal

pub returns : goal.returns
returns c = event_found c.args.version c.args.text.now c.in_ok-line.line.now c.in_ok-line.behind.now c.event_of_line.result c.in_ok-line.ensures c.event_of_line.ensures
