use Rattle.std.proofs.Common.{◌≡◌, Some, subst}
use Rattle.std.specs.FinMap as finite
use Rattle.std.specs.List.{slice_get}
use Rattle.low_tests.proofs.Lined.{lined}
use Rattle.low_tests.proofs.edit_script_tests.writes_both.Goals as goal

pub writes_record-requires : goal.writes_record-requires
writes_record-requires c = record {
  lined = λ x e. lined (finite.entries c.in-Ok.ensures.0) 0 x (subst (λ cs. slice_get cs 0 ≡ Some x) c.in-Ok.ensures.2 e);
}

pub writes_record-both-requires : goal.writes_record-both-requires
writes_record-both-requires c = record {
  lined = λ x e. lined (finite.entries c.in-Ok.ensures.0) 1 x (subst (λ cs. slice_get cs 1 ≡ Some x) c.in-Ok.ensures.2 e);
}
