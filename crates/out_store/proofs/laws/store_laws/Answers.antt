use Rattle.std.proofs.Common.{◌∙◌, inl, is_some, ap, sym}
use Rattle.std.specs.Cmp.Lexicographic.{nat_list_cmp_total}
use Rattle.std.specs.FinMap as map
use Rattle.tk_io.specs.Order.{text_cmp}
use Rattle.tk_io.proofs.TextMaps.{text_cmp-IsAntisymmetric}
use Rattle.out_store.specs.Kept.{has}
use Rattle.out_store.specs.Paths.{gate_place, out_place}
use Rattle.out_store.proofs.Lines.{one_manifest}
use Rattle.out_store.proofs.Places.{no_both}
use Rattle.out_store.proofs.Synced.{no_bad_slot}
use Rattle.out_store.proofs.laws.store_laws.Goals as goal

pub returns-clause-first : goal.returns-clause-first
returns-clause-first c = record {
  known = λ place held. absurd (no_both (has map.empty place) held (ap is_some (map.get-empty text_cmp place)));
  state = inl (record {
    ungated = λ s. ap is_some (map.get-empty text_cmp (gate_place s));
    none = λ path. ap is_some (map.get-empty text_cmp (out_place path));
  });
}

pub returns-clause-readable : goal.returns-clause-readable
returns-clause-readable c m s kept bad = no_bad_slot m s kept bad

pub returns-clause-one_list : goal.returns-clause-one_list
returns-clause-one_list c text paths others a b = one_manifest text paths others a b

pub returns-clause-one_under : goal.returns-clause-one_under
returns-clause-one_under c m under other a b = map.same_map nat_list_cmp_total text_cmp-IsAntisymmetric under other (λ q. a q ∙ sym (b q))
