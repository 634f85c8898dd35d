-- None of the names so far is there.
use Rattle.std.proofs.Common.{◌≡◌, drop, map}
use Rattle.transforms.specs.Clash.{first_taken}
use Rattle.transforms.proofs.clash.Clash.first_taken.Given as goal

abbrev pub invariant-loop-name : goal.invariant-loop-name
invariant-loop-name l =
    first_taken l.self (map (λ name. name.now) (drop l.name-index l.names)) ≡ first_taken l.self (map (λ name. name.now) l.names)
