use Rattle.std.proofs.Common.{rules, ◌≡◌, sym, ap, ap₂, ◌∙◌, option_map, subst, Some, None}
use Rattle.std.specs.Prelude.{IfOk}
use Rattle.std.specs.Option.{option_copied}
use Rattle.json_span.specs.View.{ref_view, json_view}
use Rattle.alias_ref.specs.Written.{value_at, written_as, role_at}
use Rattle.explain.specs.inner.Saying.{Says}
use Rattle.explain.proofs.PlacesWritten.{none_there, there_is, no_reference}
use Rattle.explain.proofs.saying.say.Goals as goal

pub returns-in_default : goal.returns-in_default
returns-in_default c = no_reference _ (none_there c.args.flat.now c.args.place.now (sym c.get.ensures ∙ ap option_copied c.in_default.is))

pub returns-in_default-value_in : goal.returns-in_default-value_in
returns-in_default-value_in c =
    let f = c.in-Some.entry.now in
    let stands = sym (ap (option_map ref_view) c.in_default-value_in.is) ∙ c.value_in.ensures ∙ ap (value_at f.def.value) c.as_slice-steps.ensures in
    no_reference _ (there_is c.args.flat.now c.args.place.now f None (sym c.get.ensures ∙ ap option_copied c.in-Some.is) stands)

pub returns : goal.returns
returns c =
    let f = c.in-Some.entry.now in
    let node = c.in-Some-value_in.node in
    let stands = sym (ap (option_map ref_view) c.in-Some-value_in.is) ∙ c.value_in.ensures ∙ ap (value_at f.def.value) c.as_slice-steps.ensures in
    let is = there_is c.args.flat.now c.args.place.now f (Some (ref_view node)) (sym c.get.ensures ∙ ap option_copied c.in-Some.is) stands in
    let own : c.behind-entry.inside.by_ref ≡ f.def.by_ref = search rules in
    let same = ap (λ r. Some (written_as r (json_view node))) (c.role_of-role.ensures ∙ ap₂ role_at own c.as_slice-steps.ensures) ∙ sym is in
    subst (λ w. IfOk c.node_said.result (λ s. Says s w)) same c.node_said.ensures
