use Rattle.std.proofs.Common.{ℕ, ◌≤◌, ◌-◌, length}
use Rattle.grammar.specs.Grammar.{many}
use Rattle.json_span.specs.Grammar.{digit}
use Rattle.json_span.specs.inner.Scan.{ReadsTo}
use Rattle.json_span.proofs.scan.digits_end.Given as goal

-- what is read from here on is read from the start on
abbrev pub invariant-loop-end : goal.invariant-loop-end
invariant-loop-end l = (l.end ≤ length l.text) × ((e : ℕ) → ReadsTo (many digit) l.text l.end e → ReadsTo (many digit) l.text l.at e)

abbrev pub decreases-loop-end : goal.decreases-loop-end
decreases-loop-end l = length l.text - l.end
