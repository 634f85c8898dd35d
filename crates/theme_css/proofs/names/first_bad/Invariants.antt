-- No item so far has a bad name.
use Rattle.std.proofs.Common.{◌≡◌, drop}
use Rattle.std.specs.List.{flat_map}
use Rattle.resolver_doc.specs.View.{order_view}
use Rattle.theme_css.specs.Themes.{bad_names_in}
use Rattle.theme_css.proofs.names.first_bad.Given as goal

abbrev pub invariant-loop-item : goal.invariant-loop-item
invariant-loop-item l = flat_map bad_names_in (order_view (drop l.item-index l.order)) ≡ flat_map bad_names_in (order_view l.order)
