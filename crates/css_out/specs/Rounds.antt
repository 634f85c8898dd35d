-- What the names of a sheet stand for: `var()` is put in place by what the sheet declares, round after round.
use Rattle.std.specs.Prelude.{ℕ, zero, suc, ◌≡◌, List, [], ◌∷◌, Option, Some, None, if◌then◌else◌, map, flat_map, bytes_eq}
use Rattle.ring.specs.Lists.{In}
use Rattle.css_out.specs.Piece.{Mark, Piece, mark, var, Values, value_names}
use Rattle.css_out.specs.Reading.{Declared, Reads}

-- the pieces that are declared for a name
abbrev pub declared_for : List Declared → List ℕ → Option (List Piece)
declared_for [] n = None
declared_for (d ∷ ds) n = if bytes_eq d.name n then Some d.pieces else declared_for ds n

-- in place of a `var`, what is declared for its name
abbrev pub or_var : List ℕ → Option (List Piece) → List Piece
or_var n None = var n ∷ []
or_var n (Some ps) = ps

abbrev pub put : (List ℕ → Option (List Piece)) → Piece → List Piece
put env (mark m) = mark m ∷ []
put env (var n) = or_var n (env n)

-- after k rounds
abbrev pub rounds : ℕ → (List ℕ → Option (List Piece)) → List Piece → List Piece
rounds zero env ps = ps
rounds (suc k) env ps = rounds k env (flat_map (put env) ps)

-- how many links stand one after the other at most, and so in how many rounds each `var()` is put in place
abbrev pub most_links : ℕ
most_links = 256

-- in these declarations the name has this value: what stands after these rounds, where no `var` is left
pub record IsValue (ds : List Declared) (name : List ℕ) (value : List Mark) : Type 0 where
  pub start : List Piece
  pub found : declared_for ds name ≡ Some start
  pub after : rounds most_links (declared_for ds) start ≡ map mark value

-- the bytes are a sheet in which the name has this value
pub record HasValue (bytes name : List ℕ) (value : List Mark) : Type 0 where
  pub declarations : List Declared
  pub reads : Reads bytes declarations
  pub stands : IsValue declarations name value

-- the bytes are a sheet that declares exactly the names of these values, in their order, and each has its value and no other
pub record Denotes (bytes : List ℕ) (values : Values) : Type 0 where
  pub declarations : List Declared
  pub reads : Reads bytes declarations
  pub declares : map (λ d. d.name) declarations ≡ value_names values
  pub gives : (name : List ℕ) (value : List Mark) → In (name, value) values → HasValue bytes name value
  pub only : (name : List ℕ) (value : List Mark) → HasValue bytes name value → In (name, value) values
