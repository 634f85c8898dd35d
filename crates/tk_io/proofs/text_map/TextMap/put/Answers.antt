use Rattle.std.proofs.Common.{ap, ◌∙◌}
use Rattle.std.specs.Cmp.Lexicographic.{nat_list_cmp_total}
use Rattle.std.specs.FinMap as map
use Rattle.std.specs.String.{string_bytes}
use Rattle.tk_io.proofs.MapViews.{at_insert}
use Rattle.tk_io.proofs.SortedEntries.{pair_over, pair_put}
use Rattle.tk_io.proofs.TextMaps.{text_cmp-IsAntisymmetric}
use Rattle.tk_io.proofs.text_map.TextMap.put.Goals as goal

-- the value of a key that stands is written over
pub invariant_of-self : goal.invariant_of-self
invariant_of-self g c =
    (pair_over nat_list_cmp_total text_cmp-IsAntisymmetric string_bytes
    c.self.invariant c.as_slice.ensures.value c.in-Ok.ensures c.index_mut.ensures.value).sorted

pub returns-in-Ok-clause-ok : goal.returns-in-Ok-clause-ok
returns-in-Ok-clause-ok g c =
    (pair_over nat_list_cmp_total text_cmp-IsAntisymmetric string_bytes
    c.self.invariant c.as_slice.ensures.value c.in-Ok.ensures c.index_mut.ensures.value).is c.self.view_is

pub returns-in-Ok-clause-at : goal.returns-in-Ok-clause-at
returns-in-Ok-clause-at g c q =
    ap (λ m. map.get m q) (returns-in-Ok-clause-ok g c)
    ∙ at_insert nat_list_cmp_total c.args.self.now c.args.key.now c.args.value q

-- an entry is put in at the key's place
pub invariant_of-self-in-Err : goal.invariant_of-self-in-Err
invariant_of-self-in-Err g c =
    (pair_put nat_list_cmp_total text_cmp-IsAntisymmetric string_bytes
    c.self.invariant c.as_slice.ensures.value c.in-Err.ensures
    c.in_ok-key-in-Err.ensures.ok c.in_ok-insert-in-Err.ensures.items).sorted

pub returns-in_ok-insert-in-Err-clause-ok : goal.returns-in_ok-insert-in-Err-clause-ok
returns-in_ok-insert-in-Err-clause-ok g c =
    (pair_put nat_list_cmp_total text_cmp-IsAntisymmetric string_bytes
    c.self.invariant c.as_slice.ensures.value c.in-Err.ensures
    c.in_ok-key-in-Err.ensures.ok c.in_ok-insert-in-Err.ensures.items).is c.self.view_is

pub returns-in_ok-insert-in-Err-clause-at : goal.returns-in_ok-insert-in-Err-clause-at
returns-in_ok-insert-in-Err-clause-at g c q =
    ap (λ m. map.get m q) (returns-in_ok-insert-in-Err-clause-ok g c)
    ∙ at_insert nat_list_cmp_total c.args.self.now c.args.key.now c.args.value q
