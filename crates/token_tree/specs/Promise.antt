-- What every definition keeps: it is what its source shows.
use Rattle.std.specs.Prelude.{◌≡◌, ℕ, ◌+◌, true, List, [], length, None}
use Rattle.json_span.specs.Tree.{Placed}
use Rattle.json_span.specs.Reading.{Shows}
use Rattle.json_span.specs.Flaw.{first_flaw}
use Rattle.json_span.specs.Parts.{IsPart, moved}
use Rattle.token_tree.specs.Tree.{Definition}
use Rattle.token_tree.specs.Shape.{entries_at, is_token, token_breaks, def_of}

-- the definition with so much added to its offsets
abbrev pub moved_def : ℕ → Definition → Definition
moved_def d def = record def { start = d + def.start; end = d + def.end; value = moved d def.value }

-- A definition is what its source shows by itself, with its start added to the offsets. Its source is the text of an object
-- without a flaw, which is a token that breaks no rule.
pub record IsDefinition (def : Definition) : Type 0 where
  pub object : Placed
  pub shown : Shows def.source object
  pub flawless : first_flaw object ≡ None
  pub token : is_token object ≡ true
  pub sound : token_breaks (entries_at object) ≡ []
  pub long : def.end ≡ def.start + length def.source
  pub same : def ≡ moved_def def.start (def_of def.file def.source object)

-- a value of a text without a flaw
pub record StandsIn (text : List ℕ) (n : Placed) : Type 0 where
  pub root : Placed
  pub shown : Shows text root
  pub flawless : first_flaw root ≡ None
  pub part : IsPart n root
