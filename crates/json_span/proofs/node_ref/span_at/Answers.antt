use Rattle.std.proofs.Common.{rules, ◌≡◌, ◌+◌, ◌<◌, length, ◌∙◌, sym, subst, Some}
use Rattle.std.specs.List.{slice_get}
use Rattle.std.proofs.lemmas.Option.{slice_get_within, get_or_from_slice_get}
use Rattle.json_span.specs.Tree.{start_of, end_of}
use Rattle.json_span.specs.Table.{size, span}
use Rattle.json_span.proofs.Lying.{span_seen}
use Rattle.json_span.proofs.node_ref.span_at.Goals as goal

pub index-requires : goal.index-requires
index-requires c =
    let ((a, (z, t)), lies) = c.requires in
    let i = c.args.at in
    let nodes = c.deref.result.now.nodes.items in
    let d = c.args.document.now.value in
    let s : slice_get nodes i ≡ Some (span a z (start_of t) (end_of t) (i + size t)) = subst (λ d. slice_get d.nodes.items i ≡ Some (span a z (start_of t) (end_of t) (i + size t))) (sym c.deref.ensures) (span_seen d.text.now d.nodes.items a z i t lies) in
    let h : i < length nodes = slice_get_within nodes i (span a z (start_of t) (end_of t) (i + size t)) s in
    search (rules, h)

pub returns : goal.returns
returns c = λ a z t lies.
    let i = c.args.at in
    let nodes = c.deref.result.now.nodes.items in
    let d = c.args.document.now.value in
    let s : slice_get nodes i ≡ Some (span a z (start_of t) (end_of t) (i + size t)) = subst (λ d. slice_get d.nodes.items i ≡ Some (span a z (start_of t) (end_of t) (i + size t))) (sym c.deref.ensures) (span_seen d.text.now d.nodes.items a z i t lies) in
    c.index.ensures ∙ get_or_from_slice_get nodes i (span a z (start_of t) (end_of t) (i + size t)) c.index.result.now s
