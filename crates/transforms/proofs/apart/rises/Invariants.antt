-- The bytes behind decide.
use Rattle.std.proofs.Common.{◌≡◌, ◌+◌, length}
use Rattle.std.specs.Iterator.Adapters.{zip_first, zip_second}
use Rattle.std.specs.Slice.Iter.{iter_rest}
use Rattle.transforms.specs.Rising.{rises}
use Rattle.transforms.proofs.apart.rises.Given as goal

abbrev pub invariant-loop-byte : goal.invariant-loop-byte
invariant-loop-byte l =
    let rest = iter_rest (zip_first l.byte-iterator) in
    let others = iter_rest (zip_second l.byte-iterator) in
    (length l.name + length others ≡ length l.next + length rest) × (rises l.name l.next ≡ rises rest others)
