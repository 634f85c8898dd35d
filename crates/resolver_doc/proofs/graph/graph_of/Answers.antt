use Rattle.std.proofs.Common.{◌≡◌, ◌+◌, ℕ, List, map, length, sym, ap, ◌∙◌}
use Rattle.std.proofs.lemmas.List.{length-map}
use Rattle.std.specs.List.{range_with_len}
use Rattle.std.specs.declared.alloc.Global.{Global}
use Rattle.std.specs.declared.vec.Vec.{Vec}
use Rattle.resolver_doc.specs.Rings.{set_rows}
use Rattle.resolver_doc.specs.View.{set_view, sets_view}
use Rattle.resolver_doc.specs.declared.written.SetDef.{SetDef}
use Rattle.resolver_doc.proofs.SetRings.{table_push, table_needs, table_graph, table_long}
use Rattle.resolver_doc.proofs.graph.graph_of.Goals as goal

many : (sets : List SetDef) → length (sets_view sets) ≡ length sets
many sets = length-map sets set_view

table : (c : goal.In_ok-push) → map (λ row. row.items) c.push.new.self.items ≡ set_rows (sets_view c.args.sets.now)
table c =
    ap (λ (rows : List (Vec ℕ Global)). map (λ row. row.items) rows) c.in_ok-push.ensures.items
    ∙ table_push c.in_ok-graph.graph.items c.in_ok-numbers_below.field-0 (sets_view c.args.sets.now) c.in_ok-graph.ensures
    (c.in_ok-numbers_below.ensures ∙ ap (range_with_len 0) (sym (many c.args.sets.now)))

pub returns-clause-rows : goal.returns-clause-rows
returns-clause-rows c = table_needs c.push.new.self.items (sets_view c.args.sets.now) (table c)

pub returns-clause-graph : goal.returns-clause-graph
returns-clause-graph c = table_graph c.push.new.self.items (sets_view c.args.sets.now) (table c) c.requires

pub returns-clause-long : goal.returns-clause-long
returns-clause-long c = table_long c.push.new.self.items (sets_view c.args.sets.now) (table c) ∙ ap (λ n. n + 1) (many c.args.sets.now)
