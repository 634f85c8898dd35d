use Rattle.std.proofs.Common.{◌≡◌, ℕ, ◌<◌, length, All, IfOk, sym, ap, ◌∙◌, subst, arith, replicate, false}
use Rattle.std.proofs.lemmas.List.{length-map}
use Rattle.std.proofs.lemmas.Result.{IfOk-weaker}
use Rattle.std.specs.declared.vec.Vec.{Vec}
use Rattle.std.specs.declared.alloc.Global.{Global}
use Rattle.ref_graph.specs.Edges.{rows_of}
use Rattle.ref_graph.proofs.Rows.{are_sources, sources_within}
use Rattle.ref_graph.proofs.Reaches.{Reached, start, advance, in_graph, reached}
use Rattle.ref_graph.proofs.graph.Graph.reach.Goals as goal

pub loop-node-init : goal.loop-node-init
loop-node-init c =
    let rows = c.self.inside.targets.items in
    let long : length rows ≡ length (rows_of rows) = sym (length-map rows (λ (r : Vec ℕ Global). r.items)) in
    let count : c.len.result ≡ length (rows_of rows) = omega (arith, c.len.ensures, long, c.self.inside.targets.ok.0) in
    let fresh : c.in_ok-marks.marks.items ≡ replicate (length (rows_of rows)) false =
    c.in_ok-marks.ensures.items_if_clones_equal (λ y e. e) ∙ ap (λ (n : ℕ). replicate n false) count in
    start fresh (omega (arith, c.in_ok-marks.ensures.len, count, c.in_ok-marks.marks.ok.0))
    c.new-waiting.ensures.items c.in_ok-mark_all.ensures

pub index-requires : goal.index-requires
index-requires c =
    let here = in_graph c.pop.new.self.items c.in-Some.ensures.items c.loop-node.invariant in
    omega (arith, here, c.self.invariant.long, c.self.inside.sources.ok.0)

pub mark_sources-requires : goal.mark_sources-requires
mark_sources-requires c =
    let here = in_graph c.pop.new.self.items c.in-Some.ensures.items c.loop-node.invariant in
    subst (λ (n : ℕ). All (λ v. v < n) c.index.result.now.keys) (sym c.loop-node.invariant.long)
    (sources_within c.self.invariant here c.index.ensures)

pub loop-node-preserved : goal.loop-node-preserved
loop-node-preserved c =
    let here = in_graph c.pop.new.self.items c.in-Some.ensures.items c.loop-node.invariant in
    advance c.in-Some.node c.in-Some.ensures.items c.loop-node.invariant
    (are_sources c.self.invariant here c.index.ensures) c.in_ok-mark_sources.ensures

pub returns : goal.returns
returns c =
    let none : length c.loop-node.waiting.items ≡ 0 =
    omega (arith, c.loop-node.waiting.ok.0, c.in_default.ensures.cases.0) in
    let is_reached = reached c.loop-node.invariant none c.as_slice.ensures.value in
    let all = subst (λ es. IfOk c.listed.result (Reached es c.args.changed.now)) c.self.view_is
    (IfOk-weaker c.listed.result _ _ is_reached c.listed.ensures.marked) in
    record {
      found = IfOk-weaker c.listed.result _ _ (λ nodes r. r.found) all;
      only = IfOk-weaker c.listed.result _ _ (λ nodes r. r.only) all;
      within = IfOk-weaker c.listed.result _ _ (λ nodes r. r.within) all;
      ascending = c.listed.ensures.ascending;
    }
