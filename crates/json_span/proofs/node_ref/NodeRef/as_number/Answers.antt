use Rattle.std.proofs.Common.{◌≡◌, ◌≤◌, rules, Some, sym, ap, ◌∙◌, subst}
use Rattle.std.specs.Str.{IsCharBoundary}
use Rattle.std.specs.Prelude.{slice_range}
use Rattle.json_span.specs.Tree.{start_of, end_of}
use Rattle.json_span.proofs.Lying.{number_told}
use Rattle.json_span.proofs.node_ref.NodeRef.as_number.Goals as goal

pub range-requires-clause-start_boundary : goal.range-requires-clause-start_boundary
range-requires-clause-start_boundary c = λ _.
    let v = c.args.self in
    let T = v.document.now.value.text.now in
    let (k, is_number, told) = number_told T v.stands.0.1.1 v.stands.1.1 (search rules) in
    subst (λ i. IsCharBoundary c.deref.result.now.text.now i) (sym (ap (λ s. s.start) c.span-span.ensures)) (subst (λ d. IsCharBoundary d.text.now (start_of v.stands.0.1.1)) (sym c.deref.ensures) is_number.2.0)

pub range-requires-clause-end_boundary : goal.range-requires-clause-end_boundary
range-requires-clause-end_boundary c =
    let v = c.args.self in
    let T = v.document.now.value.text.now in
    let (k, is_number, told) = number_told T v.stands.0.1.1 v.stands.1.1 (search rules) in
    subst (λ i. IsCharBoundary c.deref.result.now.text.now i) (sym (ap (λ s. s.end) c.span-span.ensures)) (subst (λ d. IsCharBoundary d.text.now (end_of v.stands.0.1.1)) (sym c.deref.ensures) is_number.2.1)

pub returns : goal.returns
returns c =
    let v = c.args.self in
    let T = v.document.now.value.text.now in
    let (k, is_number, told) = number_told T v.stands.0.1.1 v.stands.1.1 (search rules) in
    let same : c.range.result.now ≡ slice_range T (start_of v.stands.0.1.1) (end_of v.stands.0.1.1) = c.range.ensures.value ∙ λ j. slice_range (c.deref.ensures j).text.now (c.span-span.ensures j).start (c.span-span.ensures j).end in
    ap Some (same ∙ is_number.0) ∙ told

pub range-requires-clause-start_le_end : goal.range-requires-clause-start_le_end
range-requires-clause-start_le_end c =
    let v = c.args.self in
    let (k, is_number, told) = number_told v.document.now.value.text.now v.stands.0.1.1 v.stands.1.1 (search rules) in
    subst (λ s. s.start ≤ s.end) (sym c.span-span.ensures) is_number.1
