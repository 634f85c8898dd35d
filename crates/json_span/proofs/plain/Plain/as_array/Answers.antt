use Rattle.std.proofs.Common.{Some, sym, ap, ◌∙◌}
use Rattle.json_span.specs.Plain.{plain_array_in}
use Rattle.json_span.specs.PlainView.{plain_view, plain_items_view}
use Rattle.json_span.proofs.PlainViews.{array_view, plains_in-of}
use Rattle.json_span.proofs.plain.Plain.as_array.Goals as goal

pub returns-in-Arr : goal.returns-in-Arr
returns-in-Arr c = sym (ap plain_array_in (ap plain_view c.in-Arr.is ∙ array_view c.in-Arr.items) ∙ ap Some (plains_in-of (plain_items_view c.in-Arr.items)))
