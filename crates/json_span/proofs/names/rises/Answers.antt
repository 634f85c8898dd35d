use Rattle.std.proofs.Common.{sym, ap, ap₂, ◌∙◌, length}
use Rattle.std.specs.Ordering.{is_lt}
use Rattle.tk_io.specs.Order.{text_cmp}
use Rattle.json_span.proofs.RisingNames.{of_one_length}
use Rattle.json_span.proofs.names.rises.Goals as goal

pub returns-then-bytes-others : goal.returns-then-bytes-others
returns-then-bytes-others c = λ r e f is_e is_f.
    let first = c.in-Some-Some.ensures e is_e in
    let second = c.in-Some-Some.ensures' f is_f in
    of_one_length e.name f.name (ap length (sym first) ∙ (c.if-bytes-others.true ∙ ap length second)) (ap₂ (λ x y. is_lt (text_cmp x y)) (sym first) (sym second) ∙ (ap is_lt (sym c.cmp.ensures) ∙ (sym c.is_lt.ensures ∙ r)))
