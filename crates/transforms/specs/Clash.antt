-- Names that tokens have, and the first token that has a name.
use Rattle.std.specs.Prelude.{◌≡◌, ℕ, Bool, cond, List, [], ◌∷◌, Option, Some, None, Contains, AllPairs}
use Rattle.std.specs.BTreeMap.{is_at}
use Rattle.std.specs.FinMap as map
use Rattle.std.specs.List.{flat_map, list_any}
use Rattle.std.specs.Option.{option_or}
use Rattle.ring.specs.Lists.{AreApart, Each}
use Rattle.tk_io.specs.Order.{text_cmp}

-- the path under which each name was added
abbrev pub Taken : Type 0
Taken = map.FinMap text_cmp (List (List ℕ))

-- the path under which the first of the names that is there was added
abbrev pub first_taken : Taken → List (List ℕ) → Option (List (List ℕ))
first_taken taken [] = None
first_taken taken (name ∷ names) = option_or (map.get taken name) (first_taken taken names)

-- the names are added under the path
abbrev pub with_names : Taken → List (List ℕ) → List (List ℕ) → Taken
with_names taken [] path = taken
with_names taken (name ∷ names) path = with_names (map.insert taken name path) names path

-- whether the name is one of these
abbrev pub is_among : List ℕ → List (List ℕ) → Bool
is_among name names = list_any (λ other. is_at (text_cmp other) name) names

-- the names are there under the path, and all other names as before
pub record AddsNames (before after : Taken) (names path : List (List ℕ)) : Type 0 where
  pub is : after ≡ with_names before names path
  pub at : (name : List ℕ) → map.get after name ≡ cond (is_among name names) (Some path) (map.get before name)

-- what an answer leaves: the names are added where it is none
abbrev pub Leaves : Taken → List (List ℕ) → List (List ℕ) → Taken → Option (List (List ℕ)) → Type 0
Leaves before names path after None = AddsNames before after names path
Leaves before names path after (Some other) = after ≡ before

-- a token's path and its names
pub record NamedToken : Type 0 where
  pub path : List (List ℕ)
  pub names : List (List ℕ)

-- the tokens are added one after another, none of their names is there before, and these are the names afterwards
abbrev pub AllAdded : Taken → List NamedToken → Taken → Type 0
AllAdded before [] after = after ≡ before
AllAdded before (token ∷ tokens) after =
    (first_taken before token.names ≡ None) × AllAdded (with_names before token.names token.path) tokens after

-- no name is a name of both
abbrev pub ShareNoName : NamedToken → NamedToken → Type 0
ShareNoName earlier later = (name : List ℕ) → Contains earlier.names name → Contains later.names name → ⊥

-- a token has the name, and this is its path
pub record HasName (tokens : List NamedToken) (name : List ℕ) (path : List (List ℕ)) : Type 0 where
  pub token : NamedToken
  pub there : Contains tokens token
  pub path_is : token.path ≡ path
  pub has_name : Contains token.names name

-- no token has a name of an earlier one
abbrev pub TokenNamesApart : Type 0
TokenNamesApart = (tokens : List NamedToken) (taken : Taken) → AllAdded map.empty tokens taken
    → AllPairs ShareNoName tokens

-- each name of a token is there, under the token's path
abbrev pub NamesAreThere : Type 0
NamesAreThere = (tokens : List NamedToken) (taken : Taken) → AllAdded map.empty tokens taken
    → (name : List ℕ) (path : List (List ℕ)) → HasName tokens name path → map.get taken name ≡ Some path

-- each name that is there is the name of a token of that path
abbrev pub NamesComeFromTokens : Type 0
NamesComeFromTokens = (tokens : List NamedToken) (taken : Taken) → AllAdded map.empty tokens taken
    → (name : List ℕ) (path : List (List ℕ)) → map.get taken name ≡ Some path → HasName tokens name path

-- all names are apart, where those of each token are and no two tokens share one
abbrev pub AllNamesApart : Type 0
AllNamesApart = (tokens : List NamedToken) → Each tokens (λ token. AreApart token.names) → AllPairs ShareNoName tokens
    → AreApart (flat_map (λ token. token.names) tokens)
