-- The lists are the same where those that are left are.
use Rattle.std.proofs.Common.{◌≡◌, length}
use Rattle.std.specs.Iterator.Adapters.{zip_first, zip_second}
use Rattle.std.specs.Slice.Iter.{iter_rest}
use Rattle.transforms.proofs.frag.are_same.Given as goal

abbrev pub invariant-loop-name : goal.invariant-loop-name
invariant-loop-name l =
    let rest = iter_rest (zip_first l.name-iterator) in
    let others = iter_rest (zip_second l.name-iterator) in
    (length rest ≡ length others) × (rest ≡ others → l.names ≡ l.others) × (l.names ≡ l.others → rest ≡ others)
