-- With the names that are left, all are taken away.
use Rattle.std.proofs.Common.{◌≡◌, ℕ, List, None, cond, drop, map}
use Rattle.std.specs.FinMap as finite
use Rattle.transforms.specs.Clash.{is_among}
use Rattle.transforms.proofs.clash.Clash.remove_all.Given as goal

abbrev pub invariant-loop-name : goal.invariant-loop-name
invariant-loop-name l =
    (q : List ℕ) → cond (is_among q (map (λ name. name.now) (drop l.name-index l.names))) None (finite.get l.self q)
    ≡ cond (is_among q (map (λ name. name.now) l.names)) None (finite.get l.fn.self q)
