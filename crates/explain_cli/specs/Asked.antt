-- What the arguments ask.
use Rattle.std.specs.Prelude.{◌≡◌, ℕ, true, List, [], ◌∷◌, codes, map}
use Rattle.std.specs.String.{string_bytes}
use Rattle.std.specs.declared.string.String.{String}
use Rattle.edit_script.specs.Script.{is_path}
use Rattle.name_path.specs.Reference.{SpellsPlace}
use Rattle.explain_cli.specs.declared.asking.Question.{Question}
use Rattle.explain_cli.specs.declared.asking.Question.TheVariants.{Show, Check}

-- the words ask this: after `show` stand the name of a permutation, which may be any text, and a pointer to the place, and
-- after `check` the path of a file
abbrev pub Asks : List (List ℕ) → Question → Type 0
Asks words (Show perm place) = (pointer : List ℕ) × (words ≡ codes "show" ∷ perm ∷ pointer ∷ []) × SpellsPlace pointer place
Asks words (Check path) = (words ≡ codes "check" ∷ path ∷ []) × (is_path path ≡ true)

abbrev pub AsksNothing : List (List ℕ) → Type 0
AsksNothing words = (q : Question) → Asks words q → ⊥

-- the arguments of a command line as words
abbrev pub words_of : {Z : Type 0} → List (String Z) → List (List ℕ)
words_of arguments = map string_bytes arguments

-- words ask one thing
abbrev pub OneQuestion : Type 0
OneQuestion = (words : List (List ℕ)) (q r : Question) → Asks words q → Asks words r → q ≡ r
