-- What the open brackets of a text that is skipped leave to read. The last bracket of the list is the innermost.
use Rattle.std.specs.Prelude.{ℕ, List, [], ◌∷◌, Bool, true, false, Result}
use Rattle.grammar.specs.Grammar.{Rule, empty, seq, named}
use Rattle.json_span.specs.Grammar.{Name, value, ws}
use Rattle.json_span.specs.Predictive.{more_of}
use Rattle.json_span.specs.inner.Scan.{Scans, Halts}
use Rattle.json_span.specs.inner.Alternatives.{bracket_of}
use Rattle.json_span.specs.declared.alternative.Bracket.{Bracket}
use Rattle.json_span.specs.declared.stop.Stop.{Stop}
use Rattle.json_span.specs.declared.stop.Stop.TheVariants.{Syntax, NoMemory}

-- after a value, with this to read after the outermost bracket
abbrev pub closing_then : List Bracket → Rule Name → Rule Name
closing_then [] rest = rest
closing_then (b ∷ bs) rest = closing_then bs (seq ws (seq (more_of (bracket_of b)) rest))

abbrev pub closing_of : List Bracket → Rule Name
closing_of bs = closing_then bs empty

-- where a value is to come, or after one
abbrev pub left_of : Bool → List Bracket → Rule Name
left_of true bs = seq (named value) (closing_of bs)
left_of false bs = closing_of bs

-- what the rest answers from here is the answer from there
abbrev pub ContinuesAs : List ℕ → Rule Name → ℕ → Rule Name → ℕ → Type 0
ContinuesAs text r from s at = (res : Result ℕ ℕ) → Scans s text at res → Scans r text from res

-- the reading stops there; memory may always run out
abbrev pub StopsAt : Rule Name → List ℕ → ℕ → Stop → Type 0
StopsAt r text at (Syntax stop) = Halts r text at stop
StopsAt r text at NoMemory = Unit {0}
