use Rattle.std.proofs.Common.{◌∙◌}
use Rattle.std.proofs.lemmas.List.{length-map}
use Rattle.std.proofs.lemmas.Result.{err_from_is_err_and}
use Rattle.group_inherit.specs.inner.View.{group_node_view, nodes_view}
use Rattle.group_inherit.proofs.Trees.{rows_long}
use Rattle.group_inherit.proofs.Verdict.{are_known, lost_break, no_lost, rows_are, places_of}
use Rattle.group_inherit.proofs.checked.checked_rows.Goals as goal

pub rows-requires : goal.rows-requires
rows-requires c =
    let p = places_of c.args.nodes.now c.in_ok-numbers.numbers c.in_ok-numbers.ensures in
    are_known (nodes_view c.args.nodes.now) c.requires c.in_ok-numbers.numbers p

pub returns-in_err-table-clause-broken : goal.returns-in_err-table-clause-broken
returns-in_err-table-clause-broken c =
    let p = places_of c.args.nodes.now c.in_ok-numbers.numbers c.in_ok-numbers.ensures in
    let q = err_from_is_err_and c.from_residual-in_err-table.result c.from_residual-in_err-table.ensures.1 in
    rw (q.1, q.2) (lost_break (nodes_view c.args.nodes.now) c.requires c.in_ok-numbers.numbers p c.in_err-table.field-0.0 c.in_err-table.ensures.lost)

pub returns-clause-long : goal.returns-clause-long
returns-clause-long c =
    rows_long c.in_ok-numbers.numbers (nodes_view c.args.nodes.now) c.in_ok-table.table.items c.in_ok-table.ensures.ok
    ∙ length-map c.args.nodes.now group_node_view

pub returns-clause-rows : goal.returns-clause-rows
returns-clause-rows c =
    let p = places_of c.args.nodes.now c.in_ok-numbers.numbers c.in_ok-numbers.ensures in
    rows_are (nodes_view c.args.nodes.now) c.requires c.in_ok-numbers.numbers p c.in_ok-table.table.items c.in_ok-table.ensures.ok

pub returns-clause-targets : goal.returns-clause-targets
returns-clause-targets c =
    let p = places_of c.args.nodes.now c.in_ok-numbers.numbers c.in_ok-numbers.ensures in
    no_lost (nodes_view c.args.nodes.now) c.requires c.in_ok-numbers.numbers p c.in_ok-table.ensures.sound
