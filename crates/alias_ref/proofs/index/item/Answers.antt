use Rattle.std.proofs.Common.{rules, ◌<◌, ◌^◌, sym, ap, ◌∙◌, option_map, arith}
use Rattle.json_span.specs.View.{ref_view, items_view}
use Rattle.alias_ref.proofs.IndexedItems.{no_item, item_is}
use Rattle.alias_ref.proofs.index.item.Goals as goal

pub returns-in_err-i : goal.returns-in_err-i
returns-in_err-i c = ap (option_map ref_view) c.from_residual.ensures ∙ sym (no_item c.args.step.now 0 (items_view c.args.items) (omega (arith, c.requires)) c.in_err-i.ensures.none)

pub returns : goal.returns
returns c = let small : c.in_ok-i.i < 2 ^ 64 = search (rules, arith) in c.nth.ensures ∙ sym (item_is c.args.step.now c.in_ok-i.i (items_view c.args.items) c.in_ok-i.ensures.some small c.requires)
