-- What is before is less, and what is after is greater.
use Rattle.std.proofs.Common.{◌≡◌, ℕ, ◌-◌, ◌<◌, ◌≤◌, length, get_or, Less, Greater}
use Rattle.tk_io.specs.Order.{text_cmp}
use Rattle.token_tree.specs.declared.tree.Member.{Member}
use Rattle.token_tree.proofs.entries.place.Given as goal

abbrev pub decreases-loop-low : goal.decreases-loop-low
decreases-loop-low l = l.high - l.low

abbrev pub invariant-loop-low : goal.invariant-loop-low
invariant-loop-low l = record {
  low : l.low ≤ l.high;
  high : l.high ≤ length l.list;
  before : (j : ℕ) (d : Member) → j < l.low → text_cmp (get_or l.list j d).name l.name ≡ Less;
  behind : (j : ℕ) (d : Member) → l.high ≤ j → j < length l.list → text_cmp (get_or l.list j d).name l.name ≡ Greater;
}
