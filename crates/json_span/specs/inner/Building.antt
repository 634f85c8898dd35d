-- What building a value gives.
use Rattle.std.specs.Prelude.{◌≡◌, ℕ, ◌+◌, ◌^◌, ◌<◌, ◌≤◌, true, false, List, ◌++◌, length, drop, set, Option, Some, None}
use Rattle.grammar.specs.Grammar.{named, seq, within}
use Rattle.grammar.specs.Predict.{begins, first}
use Rattle.json_span.specs.Grammar.{value, ws, one}
use Rattle.json_span.specs.Tree.{Tree, Placed, an_array, an_object, no_elements, no_members}
use Rattle.json_span.specs.Reading.{ValueAt}
use Rattle.json_span.specs.Flaw.{Flaw, equal_names, too_deep, flaw_in}
use Rattle.json_span.specs.Predictive.{Bracket, square, curly, ahead, close_of, more_of, list_of}
use Rattle.json_span.specs.inner.Scan.{ReadsTo, Halts}
use Rattle.json_span.specs.Answer.{IsAnswer, shows}
use Rattle.json_span.specs.Table.{span, spans}
use Rattle.json_span.specs.declared.table.Span.{Span}
use Rattle.json_span.specs.declared.build.Built.{Built}
use Rattle.json_span.specs.declared.build.Built.TheVariants.{Whole, Flawed}
use Rattle.json_span.specs.declared.flaw.Flaw as declared
use Rattle.json_span.specs.declared.flaw.Flaw.TheVariants.{Dup, Deep}
use Rattle.json_span.specs.declared.build.Next.{Next}
use Rattle.json_span.specs.declared.build.Next.TheVariants.{Item, Closed}

-- offsets and places have 32 bits: no more values than bytes were read
pub record IsSmall (text : List ℕ) (at : ℕ) (nodes : List Span) : Type 0 where
  pub short : length text < 2 ^ 32
  pub places : length nodes ≤ at

abbrev pub flaw_view : declared.Flaw → Flaw
flaw_view (Dup start end) = equal_names start end
flaw_view (Deep start end) = too_deep start end

abbrev pub end_of_built : Built → ℕ
end_of_built (Whole end) = end
end_of_built (Flawed f end) = end

abbrev pub flaw_of_built : Built → Option Flaw
flaw_of_built (Whole end) = None
flaw_of_built (Flawed f end) = Some (flaw_view f)

-- a whole value is kept as its spans after the old ones
abbrev pub IsKept : ℕ → ℕ → List Span → List Span → Built → Placed → Type 0
IsKept name name_end old new (Whole end) tree =
    (new ≡ old ++ spans name name_end (length old) tree) × (length new ≤ end)
IsKept name name_end old new (Flawed f end) tree = Unit {0}

-- the value that stands there, with its first flaw
pub record IsBuilt (text : List ℕ) (at room name name_end : ℕ) (old new : List Span) (b : Built) : Type 0 where
  pub tree : Placed
  pub reads : ReadsTo (named value) text at (end_of_built b)
  pub value : ValueAt (length text) (drop at text) tree (drop (end_of_built b) text)
  pub flaw : flaw_in room tree ≡ flaw_of_built b
  pub kept : IsKept name name_end old new b tree

-- a list is open there, with a value at its inner place
pub record Opens (b : Bracket) (text : List ℕ) (at inner : ℕ) : Type 0 where
  pub bound : at < length text
  pub opens : begins (first ahead (list_of b)) (drop at text) ≡ true
  pub blanks : ReadsTo ws text (at + 1) inner
  pub some : begins (first ahead (one (close_of b))) (drop inner text) ≡ false

-- a comma, with blanks around it
pub record IsComma (text : List ℕ) (at item : ℕ) : Type 0 where
  pub comma : ℕ
  pub before : ReadsTo ws text at comma
  pub bound : comma < length text
  pub sees : begins (within 44 44) (drop comma text) ≡ true
  pub behind : ReadsTo ws text (comma + 1) item

-- the bracket that closes, with blanks before it
pub record IsClose (b : Bracket) (text : List ℕ) (at end : ℕ) : Type 0 where
  pub close : ℕ
  pub before : ReadsTo ws text at close
  pub sees : begins (within 44 44) (drop close text) ≡ false
  pub closes : ReadsTo (one (close_of b)) text close end

abbrev pub IsNext : Bracket → List ℕ → ℕ → Next → Type 0
IsNext b text at (Item item) = IsComma text at item
IsNext b text at (Closed end) = IsClose b text at end

abbrev pub HaltsBehind : Bracket → List ℕ → ℕ → ℕ → Type 0
HaltsBehind b text at stop = Halts (seq ws (more_of b)) text at stop

-- a list's span, whose next value stands after all that were kept, is put in its place
abbrev pub IsClosed : List Span → ℕ → ℕ → ℕ → ℕ → ℕ → List Span → Type 0
IsClosed old index name name_end start end new = new ≡ set old index (span name name_end start end (length old))

abbrev pub empty_tree : Bracket → Tree
empty_tree square = an_array no_elements
empty_tree curly = an_object no_members

-- the spans of the value that the text shows, without a flaw
abbrev pub IsTableOf : List ℕ → List Span → Type 0
IsTableOf text nodes = (n : Placed) × IsAnswer text (shows n) × (nodes ≡ spans 0 0 0 n)
