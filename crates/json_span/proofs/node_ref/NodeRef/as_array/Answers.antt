use Rattle.std.proofs.Common.{rules, ◌+◌, Some, sym, ap, ◌∙◌, subst}
use Rattle.json_span.specs.Table.{AllStanding, AllLie}
use Rattle.json_span.proofs.Lying.{elements_stand}
use Rattle.json_span.proofs.node_ref.NodeRef.as_array.Goals as goal

pub new-requires : goal.new-requires
new-requires c =
    let v = c.args.self in
    let text = v.document.now.value.text.now in
    let nodes = v.document.now.value.nodes.items in
    let x = (elements_stand text nodes v.stands.0.0 v.stands.0.1.0 v.at v.stands.0.1.1 v.stands.1 (search rules)).0 in
    subst (AllStanding text nodes (v.at + 1)) (sym (ap (λ s. s.next) c.span-stop.ensures)) x

pub returns : goal.returns
returns c =
    let v = c.args.self in
    let text = v.document.now.value.text.now in
    let nodes = v.document.now.value.nodes.items in
    let x = elements_stand text nodes v.stands.0.0 v.stands.0.1.0 v.at v.stands.0.1.1 v.stands.1 (search rules) in
    ap Some (c.new.ensures x.0.0 (subst (λ n. AllLie text nodes (v.at + 1) n x.0.0) (sym (ap (λ s. s.next) c.span-stop.ensures)) x.0.1)) ∙ x.1
