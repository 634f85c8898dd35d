use Rattle.std.proofs.Common.{◌≡◌}
use Rattle.resolver_doc.specs.View.{item_view, sets_view}
use Rattle.std.specs.Prelude.{map}
use Rattle.theme_css.specs.inner.Choices.{choice_of, options}
use Rattle.theme_css.specs.inner.Pages.{rows_view, with_each}
use Rattle.theme_css.proofs.Adding.{ok_map}
use Rattle.theme_css.proofs.Choosing.{modifier_extends, set_extends}
use Rattle.theme_css.proofs.choices.extended.Goals as goal

pub returns-in-Set : goal.returns-in-Set
returns-in-Set c = set_extends c.args.item.now c.in-Set.field-0 (rows_view c.args.rows.items) c.in-Set.is

pub returns : goal.returns
returns c =
    let n = c.as_str.result.now in
    let cs = c.as_slice-in-Modifier.result.now in
    let slice = c.as_slice.result.now in
    ok_map c.with_contexts.result (λ all. rows_view all.items ≡ with_each (rows_view slice) (map (choice_of n) (sets_view cs)))
    (λ all. rows_view all.items ≡ with_each (rows_view c.args.rows.items) (options (item_view c.args.item.now)))
    (λ all e. modifier_extends c.args.item.now c.in-Modifier.name c.in-Modifier.contexts c.in-Modifier.field-2 c.args.rows.items slice n cs (rows_view all.items)
    c.in-Modifier.is c.as_slice.ensures.value c.as_str.ensures c.as_slice-in-Modifier.ensures e)
    c.with_contexts.ensures
