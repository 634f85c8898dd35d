use Rattle.std.proofs.Common.{◌≡◌, ◌+◌, length}
use Rattle.json_span.specs.View.{fields_view}
use Rattle.json_span.proofs.fields.Fields.len.Given as goal

-- those so far and those to come
abbrev pub invariant-loop : goal.invariant-loop
invariant-loop l = (goal.iterator-loop).can_next l.iterator' × (goal.iterator-loop).is_finite l.iterator' × (l.count + length (fields_view l.iterator') ≡ length (fields_view l.self))
