-- Only outputs at the paths changed, those at the paths so far are as they are wanted, and the count of faults stands still.
use Rattle.std.proofs.Common.{◌≡◌, take}
use Rattle.std.specs.FinMap as finite
use Rattle.out_store.specs.Effects.{Told}
use Rattle.out_store.specs.Manifest.{is_listed}
use Rattle.out_store.specs.inner.Passing.{IsBrought, IsWithin}
use Rattle.out_store.proofs.bringing.bring_all.Given as goal

abbrev pub invariant-loop-path : goal.invariant-loop-path
invariant-loop-path g l = record {
  told : Told (g.T.Store.held l.initial.store) (g.T.Store.held l.store)
      (λ m n. IsWithin (finite.contains_key l.paths) m n × IsBrought (is_listed (take l.path-index (finite.keys l.paths))) l.outputs n);
  still : g.T.Store.faults l.store ≡ g.T.Store.faults l.initial.store;
}
