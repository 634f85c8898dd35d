-- What reading a text answers, over the grammar of RFC 8259.
use Rattle.std.specs.Prelude.{◌≡◌, ℕ, List, Option, Some, None, Result, Ok, Err}
use Rattle.grammar.specs.Stop.{Refuses}
use Rattle.json_span.specs.Grammar.{grammar, json_text}
use Rattle.json_span.specs.Tree.{Placed}
use Rattle.json_span.specs.Reading.{Shows}
use Rattle.json_span.specs.Flaw.{Flaw, equal_names, too_deep, first_flaw}
use Rattle.json_span.specs.View.{node_view}
use Rattle.json_span.specs.declared.node.Node.{Node}
use Rattle.json_span.specs.declared.flaw.Flaw as declared
use Rattle.json_span.specs.declared.flaw.Flaw.TheVariants as found
use Rattle.json_span.specs.declared.stop.Stop.{Stop}
use Rattle.json_span.specs.declared.stop.Stop.TheVariants as stopped
use Rattle.json_span.specs.declared.reader.JsonFault.{JsonFault}
use Rattle.json_span.specs.declared.reader.JsonFault.TheVariants.{Syntax, Dup, Deep, NoMemory}

pub data Answer : Type 0 where
  -- the value that the text shows
  shows : Placed → Answer
  -- the first flaw of the value that the text shows
  flawed : Flaw → Answer
  -- the end of the longest viable prefix of a text that shows no value
  stops : ℕ → Answer

abbrev pub IsAnswer : List ℕ → Answer → Type 0
IsAnswer text (shows n) = Shows text n × (first_flaw n ≡ None)
IsAnswer text (flawed f) = (n : Placed) × Shows text n × (first_flaw n ≡ Some f)
IsAnswer text (stops at) = Refuses grammar json_text text at

-- it shows no other value
abbrev pub ShowsOnly : List ℕ → Placed → Type 0
ShowsOnly text n = (m : Placed) → Shows text m → m ≡ n

-- each refusal with its cause; memory may always run out
abbrev pub IsJsonFault : List ℕ → JsonFault → Type 0
IsJsonFault text (Syntax at) = IsAnswer text (stops at)
IsJsonFault text (Dup start end) = IsAnswer text (flawed (equal_names start end))
IsJsonFault text (Deep start end) = IsAnswer text (flawed (too_deep start end))
IsJsonFault text NoMemory = Unit {0}

-- what a call of `read` answered; out of memory is no answer
abbrev pub answer_of : Result Node JsonFault → Option Answer
answer_of (Ok n) = Some (shows (node_view n))
answer_of (Err (Syntax at)) = Some (stops at)
answer_of (Err (Dup start end)) = Some (flawed (equal_names start end))
answer_of (Err (Deep start end)) = Some (flawed (too_deep start end))
answer_of (Err NoMemory) = None

-- the whole of it: what was answered is the answer of the text
abbrev pub Answers : List ℕ → Result Node JsonFault → Type 0
Answers text result = (a : Answer) → answer_of result ≡ Some a → IsAnswer text a

abbrev pub fault_of : declared.Flaw → JsonFault
fault_of (found.Dup start end) = Dup start end
fault_of (found.Deep start end) = Deep start end

abbrev pub fault_of_stop : Stop → JsonFault
fault_of_stop (stopped.Syntax at) = Syntax at
fault_of_stop stopped.NoMemory = NoMemory
