use Rattle.std.proofs.Common.{◌≡◌, ℕ, List, ap, sym, refl, ◌∙◌, option_map, None, Some, slice_get}
use Rattle.std.specs.FinMap as map_of
use Rattle.std.specs.Option.{option_copied}
use Rattle.token_tree.specs.View.{extends_view}
use Rattle.group_inherit.specs.Extension.{Lost}
use Rattle.group_inherit.specs.inner.View.{group_node_view}
use Rattle.group_inherit.proofs.Placing.{row_without, row_with, row_lost}
use Rattle.group_inherit.proofs.targets.row_of.Goals as goal

pub returns-in_default-clause-ok : goal.returns-in_default-clause-ok
returns-in_default-clause-ok c = (row_without c.args.places.now (group_node_view c.args.node.now) c.in_ok-children.children.items c.in_ok-children.ensures (record { children = c.in_ok-children.children; target = None }) refl refl (ap (option_map extends_view) c.in_default.is)).0

pub returns-in_default-get-clause-lost : goal.returns-in_default-get-clause-lost
returns-in_default-get-clause-lost c =
    let x = extends_view c.in-Some.extends in
    let none : map_of.get c.args.places.now x.target ≡ None = sym c.get.ensures ∙ ap option_copied c.in_default-get.is in
    let lost = row_lost c.args.places.now (group_node_view c.args.node.now) x (ap (option_map extends_view) c.in-Some.is) none in
    let here : List (List ℕ) → Lost = λ p. record { path = p; extension = x } in
    (x, ap (λ ls. slice_get ls 0) lost ∙ ap (λ p. Some (here p)) (sym c.in_ok-copy.ensures), c.span_of.ensures)

pub returns-clause-ok : goal.returns-clause-ok
returns-clause-ok c =
    let x = extends_view c.in-Some.extends in
    (row_with c.args.places.now (group_node_view c.args.node.now) c.in_ok-children.children.items c.in_ok-children.ensures (record { children = c.in_ok-children.children; target = Some c.in-Some-get.target.now }) x c.in-Some-get.target.now refl refl
    (ap (option_map extends_view) c.in-Some.is) (sym c.get.ensures ∙ ap option_copied c.in-Some-get.is)).0
