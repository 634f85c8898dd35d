use Rattle.std.proofs.Common.{rules, ◌≡◌, ◌++◌, Some, sym, ap, ◌∙◌, arith, option_map}
use Rattle.std.proofs.lemmas.Result.{on_ok_weaker}
use Rattle.json_span.specs.Tree.{array_in, object_in}
use Rattle.alias_ref.specs.Refs.{named_by, refs_in}
use Rattle.alias_ref.specs.inner.Contents.{content_view, role_of}
use Rattle.json_span.specs.View.{ref_view, json_view, items_view, fields_view}
use Rattle.alias_ref.specs.inner.Steps.{items_refs, entries_refs}
use Rattle.alias_ref.proofs.RefsInTurn.{added_then, refs_array, refs_object}
use Rattle.alias_ref.proofs.Weights.{array_lighter, object_lighter}
use Rattle.alias_ref.proofs.refs.+adding.Goals as goal

pub add_refs-add_items-requires : goal.add_refs-add_items-requires
add_refs-add_items-requires t c = (omega (arith, array_lighter (ref_view c.args.node) (items_view c.in-Some.items) (sym c.as_array.ensures ∙ ap (option_map items_view) c.in-Some.is)), tt)

pub add_refs-returns-in-Some : goal.add_refs-returns-in-Some
add_refs-returns-in-Some t c =
    let n = ref_view c.args.node in
    let items = items_view c.in-Some.items in
    let own = named_by (content_view c.in_ok-content.content) in
    let there : array_in (json_view c.args.node) ≡ Some items = sym c.as_array.ensures ∙ ap (option_map items_view) c.in-Some.is in
    let first : c.add_named.new.paths ≡ c.args.paths.now ++ own = search rules in
    let all : refs_in (role_of c.args.by_ref) n ≡ own ++ items_refs items = refs_array (role_of c.args.by_ref) n items there ∙ sym (ap (λ w. named_by w ++ items_refs items) c.in_ok-content.ensures.written) in
    on_ok_weaker c.add_items.result (λ e. added_then c.args.paths.now c.add_named.new.paths c.add_items.new.paths own (items_refs items) (refs_in (role_of c.args.by_ref) n) first e all) c.add_items.ensures

pub add_refs-add_members-requires : goal.add_refs-add_members-requires
add_refs-add_members-requires t c = (omega (arith, object_lighter (ref_view c.args.node) (fields_view c.in-Some-as_object.fields) (sym c.as_object.ensures ∙ ap (option_map fields_view) c.in-Some-as_object.is)), tt)

pub add_refs-returns-in-Some-as_object : goal.add_refs-returns-in-Some-as_object
add_refs-returns-in-Some-as_object t c =
    let n = ref_view c.args.node in
    let fields = fields_view c.in-Some-as_object.fields in
    let own = named_by (content_view c.in_ok-content.content) in
    let there : object_in (json_view c.args.node) ≡ Some fields = sym c.as_object.ensures ∙ ap (option_map fields_view) c.in-Some-as_object.is in
    let first : c.add_named.new.paths ≡ c.args.paths.now ++ own = search rules in
    let all : refs_in (role_of c.args.by_ref) n ≡ own ++ entries_refs fields = refs_object (role_of c.args.by_ref) n fields there ∙ sym (ap (λ w. named_by w ++ entries_refs fields) c.in_ok-content.ensures.written) in
    on_ok_weaker c.add_members.result (λ e. added_then c.args.paths.now c.add_named.new.paths c.add_members.new.paths own (entries_refs fields) (refs_in (role_of c.args.by_ref) n) first e all) c.add_members.ensures
