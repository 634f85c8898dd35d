use Rattle.std.proofs.Common.{rules, ◌≡◌, ◌∷◌, length, sym, ap, ◌∙◌}
use Rattle.json_span.specs.Tree.{entries_in}
use Rattle.json_span.specs.View.{field_view, fields_view}
use Rattle.json_span.proofs.CursorsGoOn.{member_ahead, members_after, no_member_ahead}
use Rattle.json_span.proofs.fields.FieldsIterator.next.Goals as goal

pub returns-then-self-clause-steps : goal.returns-then-self-clause-steps
returns-then-self-clause-steps c =
    let none = no_member_ahead c.args.self.now (search rules) in
    (none, none)

pub new-field-requires : goal.new-field-requires
new-field-requires c =
    let first = member_ahead c.args.self.now (search rules) in
    (first.entry, first.lies)

pub span_at-next-requires : goal.span_at-next-requires
span_at-next-requires c =
    let first = member_ahead c.args.self.now (search rules) in
    let e = first.entry in
    ((e.start, (e.end, e.value)), first.lies.1)

pub new-requires : goal.new-requires
new-requires c =
    let i = c.args.self.now in
    let first = member_ahead i (search rules) in
    let e = first.entry in
    let same = c.span_at-next.ensures e.start e.end e.value first.lies.1 in
    (first.others, members_after i c.span_at-next.result.next first (ap (λ s. s.next) same))

pub returns-clause-steps : goal.returns-clause-steps
returns-clause-steps c =
    let i = c.args.self.now in
    let first = member_ahead i (search rules) in
    let e = first.entry in
    let same = c.span_at-next.ensures e.start e.end e.value first.lies.1 in
    let left = c.new.ensures first.others (members_after i _ first (ap (λ s. s.next) same)) in
    ap entries_in first.whole ∙ sym (λ k. c.new-field.ensures e first.lies k ∷ left k)

pub returns-clause-goes : goal.returns-clause-goes
returns-clause-goes c =
    let i = c.args.self.now in
    let first = member_ahead i (search rules) in
    let e = first.entry in
    let same = c.span_at-next.ensures e.start e.end e.value first.lies.1 in
    let left = c.new.ensures first.others (members_after i _ first (ap (λ s. s.next) same)) in
    let step : fields_view i ≡ field_view c.new-field.result ∷ fields_view c.new.result =
    ap entries_in first.whole ∙ sym (λ k. c.new-field.ensures e first.lies k ∷ left k) in
    let shorter = ap length step in
    search rules
