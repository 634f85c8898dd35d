use Rattle.std.proofs.Common.{ap, sym, ◌∙◌}
use Rattle.std.specs.Str.{bytes_eq}
use Rattle.json_span.specs.PlainView.{plain_fields_view, plain_field_view}
use Rattle.type_rules.specs.Forms.{named}
use Rattle.type_rules.proofs.Places.{first_left, none_left, named_here, named_later}
use Rattle.type_rules.proofs.forms.named.Goals as goal

pub returns-then-eq : goal.returns-then-eq
returns-then-eq c =
    let es = plain_fields_view c.args.members.now in
    let i = c.loop-member.member-index in
    let x = c.member-item.result in
    sym (named_here c.args.name.now es i (plain_field_view x) (first_left plain_field_view c.as_slice-member-items.result.now es i c.as_slice-member-items.ensures x c.loop-member-test.true c.member-item.is)
    (ap (λ t. bytes_eq t c.args.name.now) (sym c.as_str.ensures) ∙ (sym c.eq.ensures ∙ c.if-eq.true)))
    ∙ c.loop-member.invariant

pub loop-member-preserved : goal.loop-member-preserved
loop-member-preserved c =
    let es = plain_fields_view c.args.members.now in
    let i = c.loop-member.member-index in
    let x = c.member-item.result in
    sym (named_later c.args.name.now es i (plain_field_view x) (first_left plain_field_view c.as_slice-member-items.result.now es i c.as_slice-member-items.ensures x c.loop-member-test.true c.member-item.is)
    (ap (λ t. bytes_eq t c.args.name.now) (sym c.as_str.ensures) ∙ (sym c.eq.ensures ∙ c.if-eq.false)))
    ∙ c.loop-member.invariant

pub returns : goal.returns
returns c =
    sym (ap (named c.args.name.now) (none_left plain_field_view c.as_slice-member-items.result.now (plain_fields_view c.args.members.now) c.loop-member.member-index c.as_slice-member-items.ensures c.loop-member-test.false))
    ∙ c.loop-member.invariant
