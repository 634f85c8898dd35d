use Rattle.std.proofs.Common.{◌+◌, get_or}
use Rattle.json_span.proofs.EscapeFacts.{digits_in}
use Rattle.json_span.proofs.escape.unit_at.Goals as goal

pub returns-clause-value : goal.returns-clause-value
returns-clause-value c = λ n e.
    let t = c.args.text.now in
    let at = c.args.at in
    let d = digits_in (get_or t at 0) (get_or t (at + 1) 0) (get_or t (at + 2) 0) (get_or t (at + 3) 0) n e in
    rw (c.hex_value-first.ensures.value d.first_hex, c.hex_value-second.ensures.value d.second_hex, c.hex_value-third.ensures.value d.third_hex, c.hex_value-fourth.ensures.value d.fourth_hex) d.number
