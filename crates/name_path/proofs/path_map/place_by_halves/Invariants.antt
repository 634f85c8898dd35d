-- The paths before `low` are below, and those from `high` on are above.
use Rattle.std.proofs.Common.{◌≡◌, ◌≤◌, ◌-◌, length, Less, Greater}
use Rattle.std.specs.List.{AllWithin}
use Rattle.tk_io.specs.Order.{names_cmp}
use Rattle.name_path.proofs.path_map.place_by_halves.Given as goal

abbrev pub invariant-loop-low : goal.invariant-loop-low
invariant-loop-low g l =
    (l.low ≤ l.high) × (l.high ≤ length l.entries)
    × AllWithin (λ e. names_cmp e.0 l.path ≡ Less) l.entries 0 l.low × AllWithin (λ e. names_cmp e.0 l.path ≡ Greater) l.entries l.high (length l.entries)

abbrev pub decreases-loop-low : goal.decreases-loop-low
decreases-loop-low g l = l.high - l.low
