-- The members so far have no break.
use Rattle.std.proofs.Common.{◌≡◌}
use Rattle.std.specs.List.{flat_map}
use Rattle.json_span.specs.View.{fields_view}
use Rattle.token_tree.specs.Shape.{token_member_breaks, token_breaks}
use Rattle.token_tree.proofs.token.check_token.Given as goal

abbrev pub invariant-loop-field : goal.invariant-loop-field
invariant-loop-field l = flat_map (token_member_breaks l.valued) (fields_view l.field-iterator) ≡ token_breaks (fields_view l.fields)
