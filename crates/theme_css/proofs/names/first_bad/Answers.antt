use Rattle.std.specs.List.{flat_map}
use Rattle.resolver_doc.specs.View.{order_view}
use Rattle.theme_css.specs.Themes.{bad_names_in}
use Rattle.theme_css.proofs.FirstNames.{found_name, next_item}
use Rattle.theme_css.proofs.names.first_bad.Goals as goal

pub returns-in-Some : goal.returns-in-Some
returns-in-Some c =
    found_name c.args.order.now c.loop-item.item-index c.item-item.result (flat_map bad_names_in (order_view c.args.order.now)) c.in-Some.name.now c.loop-item-test.true c.item-item.is c.in-Some.ensures c.loop-item.invariant

pub loop-item-preserved : goal.loop-item-preserved
loop-item-preserved c =
    next_item c.args.order.now c.loop-item.item-index c.item-item.result (flat_map bad_names_in (order_view c.args.order.now)) c.loop-item-test.true c.item-item.is c.in_default.ensures c.loop-item.invariant
