-- What is known of the tokens that tokens name.
use Rattle.std.specs.Prelude.{◌≡◌, ⊤, ℕ, List, [], ◌∷◌, Some}
use Rattle.std.specs.List.{slice_get}
use Rattle.group_inherit.specs.Flattening.{TokenAt}
use Rattle.alias_ref.specs.Refs.{refs_of}
use Rattle.tree_changes.specs.declared.named.Named.{Named}
use Rattle.tree_changes.specs.declared.named.Named.TheVariants.{Unknown, Nothing, One}

-- a token names no other, or it names the one at this place of the tree, once, and no other
abbrev pub NamesAs : List TokenAt → TokenAt → Named → Type 0
NamesAs tokens token Unknown = ⊤
NamesAs tokens token Nothing = refs_of token.1.def ≡ []
NamesAs tokens token (One place) = (there : TokenAt) × (slice_get tokens place ≡ Some there) × (refs_of token.1.def ≡ there.0 ∷ [])

-- .. each of those that something is said of
abbrev pub AllNameAs : List TokenAt → List Named → Type 0
AllNameAs tokens named = (i : ℕ) (token : TokenAt) (is : Named) → slice_get tokens i ≡ Some token → slice_get named i ≡ Some is → NamesAs tokens token is
