-- The references of a flat tree as edges between the places of its tokens, and the places at which a change begins.
use Rattle.std.specs.Prelude.{◌≡◌, ◌⊎◌, ℕ, ◌<◌, Bool, true, false, List, [], ◌∷◌, ◌++◌, length, take, Option, Some, None, slice_get}
use Rattle.std.specs.FinMap as finite
use Rattle.std.specs.List.{AllZip}
use Rattle.ring.specs.Lists.{In}
use Rattle.ref_graph.specs.Walk.{targets_of}
use Rattle.group_inherit.specs.Flattening.{Flattened, TokenAt}
use Rattle.alias_ref.specs.Laws.{Flat}
use Rattle.alias_ref.specs.Refs.{refs_of}
use Rattle.alias_ref.specs.Written.{Step}
use Rattle.tree_changes.specs.Named.{NamesAs}
use Rattle.tree_changes.specs.Reached.{is_changed, IsReached}
use Rattle.tree_changes.specs.declared.links.Links.{Links}
use Rattle.tree_changes.specs.declared.named.Named.{Named}
use Rattle.tree_changes.specs.declared.named.Named.TheVariants.{Unknown, One}

-- a token of the path stands at this place
abbrev pub IsThere : Flat → List Step → ℕ → Type 0
IsThere flat path i = (f : Flattened) × (slice_get (finite.entries flat) i ≡ Some (path, f))

-- no reference leads on from the path, since no token stands there
abbrev pub EndsAt : Flat → List Step → Type 0
EndsAt new path = finite.get new path ≡ None

-- no walk of references leads from the path to a change
abbrev pub IsCalm : Flat → Flat → List Step → Type 0
IsCalm old new path = IsReached old new path → ⊥

-- A name that is looked for: the place of its token came behind those of the row ..
pub record IsFound (new : Flat) (name : List Step) (before after : List ℕ) (gone : Bool) : Type 0 where
  pub place : ℕ
  pub there : IsThere new name place
  pub added : after ≡ before ++ place ∷ []
  pub stands : gone ≡ false

-- .. or no reference leads on from it, and the row stays
pub record IsMissed (old new : Flat) (name : List Step) (before after : List ℕ) (gone : Bool) : Type 0 where
  pub ends : EndsAt new name
  pub same_row : after ≡ before
  pub changed : gone ≡ is_changed old new name

abbrev pub IsNamed : Flat → Flat → List Step → List ℕ → List ℕ → Bool → Type 0
IsNamed old new name before after gone = IsFound new name before after gone ⊎ IsMissed old new name before after gone

-- a place of the row is that of the name
pub record IsListed (new : Flat) (row : List ℕ) (name : List Step) : Type 0 where
  pub place : ℕ
  pub among : In place row
  pub there : IsThere new name place

-- one of the names stands at the place
pub record IsNameOf (new : Flat) (names : List (List Step)) (place : ℕ) : Type 0 where
  pub name : List Step
  pub among : In name names
  pub there : IsThere new name place

-- the row has the places of these names, but for those from which no change is reached
pub record AreNamed (old new : Flat) (names : List (List Step)) (row : List ℕ) : Type 0 where
  pub each : (place : ℕ) → In place row → IsNameOf new names place
  pub all : (name : List Step) → In name names → IsListed new row name ⊎ IsCalm old new name

-- one of the names is changed
pub record NamesChanged (old new : Flat) (names : List (List Step)) : Type 0 where
  pub name : List Step
  pub among : In name names
  pub changed : is_changed old new name ≡ true

-- one of the names is gone, or the row has the places of those from which references may lead on
pub record IsRow (old new : Flat) (names : List (List Step)) (row : List ℕ) (gone : Bool) : Type 0 where
  pub lost : gone ≡ true → NamesChanged old new names
  pub named : gone ≡ false → AreNamed old new names row

-- a token stands at this place, and it is reached
pub record BeginsAt (old new : Flat) (place : ℕ) : Type 0 where
  pub path : List Step
  pub there : IsThere new path place
  pub reached : IsReached old new path

-- a token that is not changed itself, whose edges lead to all tokens that it names, but for those from which no change is reached
pub record IsLinked (old new : Flat) (edges : List (List ℕ)) (place : ℕ) (token : TokenAt) : Type 0 where
  pub same : is_changed old new token.0 ≡ false
  pub all : (name : List Step) → In name (refs_of token.1.def) → IsListed new (targets_of edges place) name ⊎ IsCalm old new name

-- The first tokens of the tree were looked at: each is one at which a change begins, or is linked to those that it names.
-- Edges lead to tokens that are named, and a change begins at tokens that are reached.
pub record AreLinked (old new : Flat) (looked : ℕ) (edges : List (List ℕ)) (begins : List ℕ) : Type 0 where
  pub long : length edges ≡ length (finite.entries new)
  pub named : (place : ℕ) (token : TokenAt) → slice_get (finite.entries new) place ≡ Some token
      → (next : ℕ) → In next (targets_of edges place) → IsNameOf new (refs_of token.1.def) next
  pub begun : (place : ℕ) → In place begins → BeginsAt old new place
  pub all : (place : ℕ) (token : TokenAt) → place < looked → slice_get (finite.entries new) place ≡ Some token
      → In place begins ⊎ IsLinked old new edges place token

-- .. and something may be known of the names of each
pub record AreLinks (old new : Flat) (looked : ℕ) (links : Links) : Type 0 where
  pub linked : AreLinked old new looked links.graph links.begins.items
  pub named : AllZip (NamesAs (finite.entries new)) (take looked (finite.entries new)) links.named.items

-- The names of a token: one of them is changed, or these are the places of all, and this is known of them.
abbrev pub AreTold : Flat → Flat → TokenAt → List ℕ → Option Named → Type 0
AreTold old new token targets None = NamesChanged old new (refs_of token.1.def)
AreTold old new token targets (Some named) = AreNamed old new (refs_of token.1.def) targets × NamesAs (finite.entries new) token named

-- .. of a token that names one alone, which stands at this place, or is changed
abbrev pub IsOneTold : Option ℕ → List ℕ → Option Named → Type 0
IsOneTold None targets told = told ≡ None
IsOneTold (Some place) targets told =
    (targets ≡ place ∷ []) × ((named : Named) × (told ≡ Some named)
    × ((tokens : List TokenAt) (token : TokenAt) → NamesAs tokens token (One place) → NamesAs tokens token named))

-- the edges are to those of the places from which a change may be reached
pub record AreUnsettled (settled : List Bool) (targets edges : List ℕ) : Type 0 where
  pub among : (place : ℕ) → In place edges → In place targets
  pub others : (place : ℕ) → In place targets → In place edges ⊎ (slice_get settled place ≡ Some true)

-- a change begins at this place too
pub record HasBegun (before : Links) (place : ℕ) (after : Links) : Type 0 where
  pub graph : after.graph ≡ before.graph
  pub begins : after.begins.items ≡ before.begins.items ++ place ∷ []
  pub named : after.named.items ≡ before.named.items ++ Unknown ∷ []
