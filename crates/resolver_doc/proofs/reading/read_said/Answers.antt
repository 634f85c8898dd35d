use Rattle.std.proofs.Common.{sym}
use Rattle.json_span.specs.View.{ref_view}
use Rattle.resolver_doc.specs.inner.Known.{known_sets, known_modifiers}
use Rattle.resolver_doc.proofs.PlanFaults.{naming_taken}
use Rattle.resolver_doc.proofs.reading.read_said.Goals as goal

pub returns-clause-first : goal.returns-clause-first
returns-clause-first c =
    let known = c.in_ok-known.known in
    sym (naming_taken (ref_view c.args.root) (known_sets known) (known_modifiers known) c.sets.new.first c.check_modifiers.new.first c.order.new.first c.repeats.new.first
    c.in_ok-known.ensures.sets c.in_ok-known.ensures.modifiers c.in_ok-sets.ensures.breaks c.in_ok-check_modifiers.ensures c.in_ok-order.ensures.breaks c.in_ok-repeats.ensures)
