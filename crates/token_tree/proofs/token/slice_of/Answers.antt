use Rattle.std.proofs.Common.{arith, sym, subst}
use Rattle.std.specs.Str.{IsCharBoundary}
use Rattle.json_span.specs.Tree.{tree_of}
use Rattle.json_span.specs.View.{ref_view}
use Rattle.token_tree.proofs.Objects.{object_at, boundaries}
use Rattle.token_tree.proofs.Sound.{object_members}
use Rattle.token_tree.proofs.token.slice_of.Goals as goal

pub range-requires-clause-start_le_end : goal.range-requires-clause-start_le_end
range-requires-clause-start_le_end c =
    let s = c.requires.stands in
    let n = ref_view c.args.node in
    let (ms, e) = object_members (tree_of n) c.requires.object in
    let o = object_at c.args.text.now s.root n s.shown s.part ms e in
    omega (arith, o.long)

pub range-requires-clause-start_boundary : goal.range-requires-clause-start_boundary
range-requires-clause-start_boundary c = λ h.
    let s = c.requires.stands in
    let n = ref_view c.args.node in
    let (ms, e) = object_members (tree_of n) c.requires.object in
    let o = object_at c.args.text.now s.root n s.shown s.part ms e in
    subst (λ i. IsCharBoundary c.args.text.now i) (sym c.start.ensures) (boundaries c.args.text.now n c.utf8.text o).0

pub range-requires-clause-end_boundary : goal.range-requires-clause-end_boundary
range-requires-clause-end_boundary c =
    let s = c.requires.stands in
    let n = ref_view c.args.node in
    let (ms, e) = object_members (tree_of n) c.requires.object in
    let o = object_at c.args.text.now s.root n s.shown s.part ms e in
    subst (λ i. IsCharBoundary c.args.text.now i) (sym c.end.ensures) (boundaries c.args.text.now n c.utf8.text o).1
