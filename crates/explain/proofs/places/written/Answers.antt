use Rattle.std.proofs.Common.{sym, ap, ◌∙◌, option_map}
use Rattle.std.specs.Option.{option_copied}
use Rattle.json_span.specs.Tree.{tree_of}
use Rattle.json_span.specs.View.{ref_view}
use Rattle.alias_ref.specs.Written.{value_at, written_as, role_at, is_written}
use Rattle.explain.proofs.PlacesWritten.{none_there, there_is, mapped, shown}
use Rattle.explain.proofs.places.written.Goals as goal

pub returns-in_default : goal.returns-in_default
returns-in_default c = sym (ap is_written (none_there c.args.flat.now c.args.place.now (sym c.get.ensures ∙ ap option_copied c.in_default.is)))

pub returns : goal.returns
returns c =
    let f = c.in-Some.entry.now in
    let p = c.args.place.now in
    let o = option_map ref_view c.value_in.result in
    let is = there_is c.args.flat.now p f o (sym c.get.ensures ∙ ap option_copied c.in-Some.is) (c.value_in.ensures ∙ ap (value_at f.def.value) c.as_slice.ensures) in
    c.is_some.ensures ∙ shown ref_view c.value_in.result ∙ mapped o (λ n. written_as (role_at f.def.by_ref p.trail) (tree_of n)) ∙ sym (ap is_written is)
