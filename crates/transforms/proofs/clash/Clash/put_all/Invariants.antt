-- With the names that are left, all are added; at other names nothing changed.
use Rattle.std.proofs.Common.{◌≡◌, ℕ, List, false, drop, map}
use Rattle.std.specs.FinMap as finite
use Rattle.transforms.specs.Clash.{with_names, is_among}
use Rattle.transforms.proofs.clash.Clash.put_all.Given as goal

abbrev pub invariant-loop-name : goal.invariant-loop-name
invariant-loop-name l =
    (with_names l.self (map (λ name. name.now) (drop l.name-index l.names)) l.path ≡ with_names l.fn.self (map (λ name. name.now) l.names) l.path)
    × ((q : List ℕ) → is_among q (map (λ name. name.now) l.names) ≡ false → finite.get l.self q ≡ finite.get l.fn.self q)
