-- What has the name is still to come.
use Rattle.std.proofs.Common.{◌≡◌, drop}
use Rattle.json_span.specs.PlainView.{plain_fields_view}
use Rattle.type_rules.specs.Forms.{named}
use Rattle.type_rules.proofs.forms.named.Given as goal

abbrev pub invariant-loop-member : goal.invariant-loop-member
invariant-loop-member l = named l.name (drop l.member-index (plain_fields_view l.members)) ≡ named l.name (plain_fields_view l.members)
