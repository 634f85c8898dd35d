use Rattle.std.proofs.Common.{◌≡◌, ℕ, List, [], ◌∷◌, ◌++◌, sym, ap, ◌∙◌, append_assoc}
use Rattle.std.specs.Map.Iter.{deref}
use Rattle.std.proofs.lemmas.Map.Iter.{rest_more}
use Rattle.ref_graph.proofs.Markings.{marked_more}
use Rattle.ref_graph.proofs.marks.mark_sources.Goals as goal

pub loop-node-preserved : goal.loop-node-preserved
loop-node-preserved c =
    let before = c.loop-node.invariant.2 in
    let step : c.loop-node.node-iterator ≡ c.in-Some.node.now ∷ c.next.new.self = rest_more deref c.loop-node.node-iterator c.next.new.self c.next.result c.in-Some.node c.in-Some.is c.next.ensures.steps in (
      tt,
      tt,
      (
        before.0 ++ c.in-Some.node.now ∷ [],
        append_assoc before.0 (c.in-Some.node.now ∷ []) c.next.new.self ∙ (ap (λ (xs : List ℕ). before.0 ++ xs) (sym step) ∙ before.1),
        marked_more before.0 (c.in-Some.node.now ∷ []) c.args.marks.now.items c.loop-node.marks.items c.mark.new.marks.items c.args.waiting.now.items c.loop-node.waiting.items c.mark.new.waiting.items before.2 c.in_ok-mark.ensures,
      ),
    )
