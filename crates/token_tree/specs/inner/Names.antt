-- Where the names of members stand in a text.
use Rattle.std.specs.Prelude.{◌≡◌, ℕ, List, [], ◌∷◌, drop}
use Rattle.tk_io.specs.Characters.{quote}
use Rattle.json_span.specs.Characters.{CharactersAt}
use Rattle.json_span.specs.Tree.{Entry}

-- the string of the member's name begins at its place
pub record NameStands (text : List ℕ) (e : Entry) : Type 0 where
  pub inner : List ℕ
  pub after : List ℕ
  pub quoted : drop e.start text ≡ quote ∷ inner
  pub content : CharactersAt inner e.name after

abbrev pub NamesStand : List ℕ → List Entry → Type 0
NamesStand text [] = Unit {0}
NamesStand text (e ∷ es) = NameStands text e × NamesStand text es
