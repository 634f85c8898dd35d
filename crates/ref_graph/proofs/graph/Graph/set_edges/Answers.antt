use Rattle.std.proofs.Common.{◌≡◌, ℕ, ◌<◌, List, length, set, All, sym, ap, ◌∙◌, subst, arith}
use Rattle.std.proofs.lemmas.List.{length-map}
use Rattle.std.proofs.lemmas.List.{map-set}
use Rattle.std.specs.declared.vec.Vec.{Vec}
use Rattle.std.specs.declared.alloc.Global.{Global}
use Rattle.ref_graph.specs.Edges.{rows_of, IsReversed}
use Rattle.ref_graph.specs.Walk.{targets_of}
use Rattle.ref_graph.proofs.Rows.{row_read, reversed}
use Rattle.ref_graph.proofs.graph.Graph.set_edges.Goals as goal

pub replace_source-requires-clause-old_within : goal.replace_source-requires-clause-old_within
replace_source-requires-clause-old_within c =
    let rows = c.self.inside.targets.items in
    let in_rows : c.args.node < length rows = omega (arith, ap length c.self.view_is, length-map rows (λ (r : Vec ℕ Global). r.items), c.requires.node) in
    let read : targets_of (rows_of rows) c.args.node ≡ c.as_slice-old.result.now = row_read rows c.args.node c.index.result.now in_rows c.index.ensures ∙ sym c.as_slice-old.ensures.value in
    subst (λ (n : ℕ). All (λ w. w < n) c.as_slice-old.result.now) (sym c.self.invariant.long) (subst (All (λ w. w < length (rows_of rows))) read (c.self.invariant.within c.args.node))

pub invariant_of-self-2 : goal.invariant_of-self-2
invariant_of-self-2 c =
    let rows = c.self.inside.targets.items in
    let node_within = subst (λ (es : List (List ℕ)). c.args.node < length es) (sym c.self.view_is) c.requires.node in
    let to_within = subst (λ (es : List (List ℕ)). All (λ w. w < length es) c.args.to.now) (sym c.self.view_is) c.requires.within in
    let row : c.in_ok-row.row.items ≡ c.args.to.now = c.in_ok-row.ensures.items in
    subst (λ (es : List (List ℕ)). IsReversed es c.replace_source.new.sources.items)
    (sym (map-set (λ (r : Vec ℕ Global). r.items) rows c.args.node c.in_ok-row.row ∙ ap (λ (r : List ℕ). set (rows_of rows) c.args.node r) row))
    (reversed (rows_of rows) c.self.inside.sources.items c.replace_source.new.sources.items c.args.node c.args.to.now c.self.invariant node_within to_within
    c.replace_source.ensures.long c.in_ok-replace_source.ensures.ok)

pub returns-clause-ok : goal.returns-clause-ok
returns-clause-ok c =
    let rows = c.self.inside.targets.items in
    map-set (λ (r : Vec ℕ Global). r.items) rows c.args.node c.in_ok-row.row
    ∙ (ap (λ (r : List ℕ). set (rows_of rows) c.args.node r) c.in_ok-row.ensures.items ∙ ap (λ (es : List (List ℕ)). set es c.args.node c.args.to.now) c.self.view_is)
