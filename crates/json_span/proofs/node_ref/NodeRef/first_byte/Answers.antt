use Rattle.std.proofs.Common.{◌≡◌, ◌<◌, length, Some, ap, sym, ◌∙◌}
use Rattle.std.specs.List.{slice_get}
use Rattle.std.proofs.lemmas.Option.{slice_get_within, get_or_from_slice_get}
use Rattle.json_span.specs.Tree.{start_of}
use Rattle.json_span.proofs.Lying.{has_first}
use Rattle.json_span.proofs.node_ref.NodeRef.first_byte.Goals as goal

pub bounds-as_bytes-start : goal.bounds-as_bytes-start
bounds-as_bytes-start c =
    let v = c.args.self in
    let T = v.document.now.value.text.now in
    let x = has_first T v.stands.0.1.1 v.stands.1.1 in
    let h : start_of v.stands.0.1.1 < length T = slice_get_within T (start_of v.stands.0.1.1) x.0 x.1 in
    rw (ap (λ s. s.start) c.span-start.ensures, c.as_bytes.ensures.value ∙ ap (λ d. d.text.now) c.deref.ensures) h

pub returns : goal.returns
returns c =
    let v = c.args.self in
    let T = v.document.now.value.text.now in
    let x = has_first T v.stands.0.1.1 v.stands.1.1 in
    let e : slice_get c.as_bytes.result.now c.span-start.result.start ≡ Some x.0 = rw (ap (λ s. s.start) c.span-start.ensures, c.as_bytes.ensures.value ∙ ap (λ d. d.text.now) c.deref.ensures) x.1 in
    x.1 ∙ ap Some (sym (get_or_from_slice_get c.as_bytes.result.now c.span-start.result.start x.0 0 e))
