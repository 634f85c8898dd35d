use Rattle.std.proofs.Common.{rules, ◌≡◌, sym, subst, ap, ◌∙◌, ◌<◌, ◌^◌, length, arith}
use Rattle.name_path.specs.declared.place.Place.{Place}
use Rattle.json_span.specs.Tree.{tree_of, start_of}
use Rattle.token_tree.specs.Promise.{IsDefinition}
use Rattle.alias_ref.specs.Written.{whole, role_at}
use Rattle.alias_ref.specs.inner.Contents.{IsContent, role_of}
use Rattle.json_span.specs.View.{ref_view, json_view}
use Rattle.alias_ref.specs.inner.Spots.{IsValueAt}
use Rattle.alias_ref.proofs.SoundValues.{sound_definition}
use Rattle.alias_ref.proofs.SpotsStand.{whole_role}
use Rattle.alias_ref.proofs.WrittenParts.{whole_stands}
use Rattle.alias_ref.proofs.spot.token_spot.Goals as goal

pub returns-clause-at : goal.returns-clause-at
returns-clause-at c = λ flat there.
    let f = c.args.entry.now in
    let here : Place = record { token = c.in_ok-copy.field-0; trail = c.new.result } in
    let same : here ≡ whole c.args.path.now = search rules in
    let view : ref_view c.as_ref-node.result ≡ f.def.value = search rules in
    let few : length f.def.source < 2 ^ 64 = search (rules, arith) in
    let content = c.in_ok-content.content in
    let keeps : IsDefinition f.def = search rules in
    let raw : IsContent content (role_of f.def.by_ref) (json_view c.as_ref-node.result) = search rules in
    record {
      value = f.def.value;
      stands = subst (λ p. IsValueAt flat p f f.def.value) (sym same) (whole_stands flat c.args.path.now f there);
      start = c.start.ensures ∙ ap start_of view;
      content = subst (λ p. IsContent content (role_at f.def.by_ref p.trail) (tree_of f.def.value)) (sym same) (subst (λ r. IsContent content r (tree_of f.def.value)) (whole_role f.def.by_ref) (subst (λ v. IsContent content (role_of f.def.by_ref) (tree_of v)) view raw));
      sound = sound_definition f.def keeps few;
    }
