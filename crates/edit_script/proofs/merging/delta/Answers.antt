use Rattle.std.proofs.Common.{◌≡◌, T, List, ℕ, ap, sym, subst, ◌∙◌, arith}
use Rattle.std.proofs.Common.{map as map_list}
use Rattle.std.proofs.lemmas.List.{length-map}
use Rattle.std.proofs.lemmas.Result.{IfOk-weaker}
use Rattle.std.specs.FinMap as map
use Rattle.std.specs.FinMap.{is_sorted}
use Rattle.std.specs.String.{string_bytes}
use Rattle.tk_io.specs.Order.{text_cmp}
use Rattle.edit_script.specs.Delta.{ChangeData, Delta, IsDelta}
use Rattle.edit_script.specs.inner.Merge.{AreChanges, outputs_view}
use Rattle.edit_script.specs.View.{Lined, with_line}
use Rattle.edit_script.proofs.Deltas.{delta_of}
use Rattle.edit_script.proofs.merging.delta.Goals as goal

pub merge-requires : goal.merge-requires
merge-requires c = record {
  old = (subst (λ es. T (is_sorted text_cmp es)) (sym c.entries.ensures) (map.entries_sorted c.args.old.now), omega (arith, c.entries.type_inv, length-map {B = List ℕ × List ℕ} c.entries.result.now (λ e. (string_bytes e.0, e.1))));
  new = (subst (λ es. T (is_sorted text_cmp es)) (sym c.entries-2.ensures) (map.entries_sorted c.args.new.now), omega (arith, c.entries-2.type_inv, length-map {B = List ℕ × List ℕ} c.entries-2.result.now (λ e. (string_bytes e.0, e.1))));
}

pub returns : goal.returns
returns c =
    let old = c.args.old.now in
    let new = c.args.new.now in
    let P : List Lined → Type 0 = λ cs. (ds : List ChangeData) × AreChanges (outputs_view c.entries.result.now) (outputs_view c.entries-2.result.now) ds × (cs ≡ map_list with_line ds) in
    let Q : List Lined → Type 0 = λ cs. (d : Delta) × IsDelta old new d × (cs ≡ map_list with_line (map.entries d)) in
    IfOk-weaker c.merge.result P Q (λ cs h.
    let changes = subst (λ x. AreChanges x (map.entries new) h.0) c.entries.ensures (subst (λ x. AreChanges (outputs_view c.entries.result.now) x h.0) c.entries-2.ensures h.1) in
    let made = delta_of old new h.0 changes in
    (map.from_sorted h.0, made.0, h.2 ∙ ap (map_list with_line) made.1)) c.merge.ensures
