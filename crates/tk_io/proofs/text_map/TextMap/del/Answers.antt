use Rattle.std.proofs.Common.{ap, sym, subst, Ok, Err, ◌∙◌}
use Rattle.std.specs.Cmp.Lexicographic.{nat_list_cmp_total}
use Rattle.std.specs.FinMap as map
use Rattle.std.specs.String.{string_bytes}
use Rattle.tk_io.proofs.MapViews.{at_remove}
use Rattle.tk_io.proofs.SortedEntries.{pair_taken, pair_gone, without_is, sorted_without, Place, shown}
use Rattle.tk_io.proofs.TextMaps.{text_cmp-IsAntisymmetric}
use Rattle.tk_io.proofs.text_map.TextMap.del.Goals as goal

-- the entry of the key is taken out
pub invariant_of-self : goal.invariant_of-self
invariant_of-self g c =
    let place = subst (λ es. Place nat_list_cmp_total text_cmp-IsAntisymmetric string_bytes c.args.key.now es (Ok c.in-Ok.i)) c.as_slice.ensures.value c.in-Ok.ensures in
    let taken = ap (shown nat_list_cmp_total text_cmp-IsAntisymmetric string_bytes) c.remove.ensures.items
    ∙ pair_taken nat_list_cmp_total text_cmp-IsAntisymmetric string_bytes c.self.inside.entries.items c.args.key.now c.in-Ok.i c.remove.result c.self.invariant place in
    sorted_without nat_list_cmp_total _ _ c.args.key.now c.self.invariant taken

pub returns-in-Ok-clause-gone : goal.returns-in-Ok-clause-gone
returns-in-Ok-clause-gone g c =
    let place = subst (λ es. Place nat_list_cmp_total text_cmp-IsAntisymmetric string_bytes c.args.key.now es (Ok c.in-Ok.i)) c.as_slice.ensures.value c.in-Ok.ensures in
    let taken = ap (shown nat_list_cmp_total text_cmp-IsAntisymmetric string_bytes) c.remove.ensures.items
    ∙ pair_taken nat_list_cmp_total text_cmp-IsAntisymmetric string_bytes c.self.inside.entries.items c.args.key.now c.in-Ok.i c.remove.result c.self.invariant place in
    without_is nat_list_cmp_total text_cmp-IsAntisymmetric _ _ c.args.key.now c.self.invariant taken ∙ ap (λ m. map.remove m c.args.key.now) c.self.view_is

pub returns-in-Ok-clause-at : goal.returns-in-Ok-clause-at
returns-in-Ok-clause-at g c q = ap (λ m. map.get m q) (returns-in-Ok-clause-gone g c) ∙ at_remove nat_list_cmp_total c.args.self.now c.args.key.now q

pub returns-in-Err-clause-gone : goal.returns-in-Err-clause-gone
returns-in-Err-clause-gone g c =
    let place = subst (λ es. Place nat_list_cmp_total text_cmp-IsAntisymmetric string_bytes c.args.key.now es (Err c.in-Err.field-0)) c.as_slice.ensures.value c.in-Err.ensures in
    let stays = pair_gone nat_list_cmp_total text_cmp-IsAntisymmetric string_bytes c.self.inside.entries.items c.args.key.now c.in-Err.field-0 c.self.invariant place in
    sym c.self.view_is ∙ (stays ∙ ap (λ m. map.remove m c.args.key.now) c.self.view_is)

pub returns-in-Err-clause-at : goal.returns-in-Err-clause-at
returns-in-Err-clause-at g c q = ap (λ m. map.get m q) (returns-in-Err-clause-gone g c) ∙ at_remove nat_list_cmp_total c.args.self.now c.args.key.now q
