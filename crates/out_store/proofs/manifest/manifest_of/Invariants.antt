-- The lines of the paths so far.
use Rattle.std.proofs.Common.{◌≡◌, take, map}
use Rattle.std.specs.String.{string_bytes}
use Rattle.out_store.specs.Manifest.{manifest_text}
use Rattle.out_store.proofs.manifest.manifest_of.Given as goal

abbrev pub invariant-loop-path : goal.invariant-loop-path
invariant-loop-path g l = l.text ≡ manifest_text (take l.path-index (map (λ e. string_bytes e.0) l.entries))
