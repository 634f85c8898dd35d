-- Laws over the definitions.
use Rattle.std.specs.Prelude.{◌≡◌, ◌⊎◌, ◌↔◌, ℕ, true, List, [], ◌∷◌, ◌++◌, map, Some, None, Err, AllPairs, Contains}
use Rattle.std.specs.FinMap as finite
use Rattle.std.specs.List.{AllZip}
use Rattle.json_span.specs.PlainView.{Value as Plain}
use Rattle.name_path.specs.declared.kind.Kind.{Kind}
use Rattle.name_path.specs.declared.place.Place.{Place}
use Rattle.alias_ref.specs.Asking.{IsRingOfPlaces}
use Rattle.alias_ref.specs.Kinds.{KindOf, own_in, group_in}
use Rattle.alias_ref.specs.Laws.{Flat, IsTooDeep, IsTooBig}
use Rattle.alias_ref.specs.Meaning.{Leads}
use Rattle.alias_ref.specs.Unchanged.{AreDefinedAlong, AreDefinitions, Unchanged}
use Rattle.alias_ref.specs.Visits.{walk_break}
use Rattle.alias_ref.specs.Written.{misspelled, is_reference, whole, written_in}
use Rattle.alias_ref.specs.declared.fault.RefRule.TheVariants as reference
use Rattle.tree_changes.specs.Reached.{IsReached}
use Rattle.type_rules.specs.declared.fault.ValueRule.{ValueRule}
use Rattle.composite_rules.specs.Value.{value_of}
use Rattle.group_inherit.specs.Flattening.{Flattened, TokenAt}
use Rattle.transforms.specs.Clash.{NamedToken, ShareNoName}
use Rattle.transforms.specs.Config.{Settings}
use Rattle.transforms.specs.declared.platform.Platform.{Platform}
use Rattle.refusals.specs.Refusal.{Report}
use Rattle.token_cells.specs.Cell.{TokenPath, IsMeant, TokenBreak, IsTokenBreak, IsCell, AreCells}
use Rattle.token_cells.specs.Breaks.{Celled, place_in, place_span, names_on, clash_report, clashes_on}
use Rattle.token_cells.specs.TokenCell.{TokenCell}
use Rattle.refusals.specs.declared.rule.CellRule.TheVariants.{Ref, Value}

-- the token means a value that breaks the rule at this place of the token
pub record BreaksValue (flat : Flat) (settings : Settings) (path : TokenPath) (r : ValueRule) (place : Place) : Type 0 where
  pub kind : Kind
  pub meaning : Plain
  pub meant : IsMeant flat path kind meaning
  pub token : place.token ≡ path
  pub broken : value_of settings.legacy kind meaning ≡ Err (record { rule = r; trail = place.trail })

-- the place is the token's whole value; its references break no rule, and nothing gives it a kind
pub record LacksType (flat : Flat) (path : TokenPath) (place : Place) : Type 0 where
  pub at : place ≡ whole path
  pub unbroken : walk_break (written_in flat) path ≡ None
  pub missing : KindOf (written_in flat) (own_in flat) (group_in flat) path None

-- What is told of a token's break holds. A ring is one: its places differ, each asks for the next, and the last for
-- the first. A wrong spelling stands at the place, a reference whose target is lost stands there and leads nowhere,
-- where a walk is too deep or too big so many places or visits come before the place, a token without a type breaks
-- no rule of references and nothing gives it a kind, and a rule of values is broken there by what the token means.
pub record IsReal (flat : Flat) (settings : Settings) (path : TokenPath) (b : TokenBreak) : Type 0 where
  pub cycle : b.rule ≡ Ref reference.Cycle → IsRingOfPlaces (written_in flat) b.ring
  pub syntax : b.rule ≡ Ref reference.RefSyntax → written_in flat b.place ≡ Some misspelled
  pub target : b.rule ≡ Ref reference.RefTarget
      → (is_reference (written_in flat b.place) ≡ true) × ((q : Place) → Leads (written_in flat) b.place q → ⊥)
  pub deep : b.rule ≡ Ref reference.Deep → IsTooDeep (written_in flat) path b.place
  pub big : b.rule ≡ Ref reference.Big → IsTooBig (written_in flat) path b.place
  pub missing : b.rule ≡ Ref reference.NoType → LacksType flat path b.place
  pub value : (r : ValueRule) → b.rule ≡ Value r → BreaksValue flat settings path r b.place

abbrev pub BreaksAreReal : Type 0
BreaksAreReal = (flat : Flat) (settings : Settings) (path : TokenPath) (b : TokenBreak) → IsTokenBreak flat settings path b
    → IsReal flat settings path b

-- What is told of a token's break is told in the file of a definition that is there, at the span of the place in it.
abbrev pub BreaksHavePlaces : Type 0
BreaksHavePlaces = (flat : Flat) (settings : Settings) (path : TokenPath) (entry : Flattened) (b : TokenBreak) → finite.get flat path ≡ Some entry
    → IsTokenBreak flat settings path b → (f : Flattened) × (finite.get flat b.place.token ≡ Some f) × (place_span flat b.place ≡ place_in f b.place)

-- tokens of a flat tree come to one list of cells
abbrev pub OneCells : Type 0
OneCells = (flat : Flat) (settings : Settings) (tokens : List TokenAt) (cells others : List TokenCell)
    → AreCells flat settings tokens cells → AreCells flat settings tokens others → cells ≡ others

-- A token from which no walk of references leads to a change comes to what it came to: the flat trees are those of definitions, as far as it leads.
abbrev pub UnchangedCells : Type 0
UnchangedCells = (old new : Flat) (settings : Settings) (path : TokenPath) (cell : TokenCell) → AreDefinedAlong old new path → AreDefinedAlong new new path
    → Unchanged old new path → IsCell old settings path cell → IsCell new settings path cell

-- A token that is not reached comes to the same in both trees: it is refused with the same rule, place and ring, or it
-- gives the same to each platform. The definitions to which its references lead are what their sources show.
abbrev pub UnreachedIsAlike : Type 0
UnreachedIsAlike = (old new : Flat) (settings : Settings) (path : TokenPath) (cell : TokenCell)
    → AreDefinedAlong old new path → AreDefinedAlong new new path → (IsReached old new path → ⊥)
    → IsCell old settings path cell ↔ IsCell new settings path cell

-- a cell that is found in the new tree, or taken from the old one, where the token is not reached
abbrev pub IsTakenOrFound : Flat → Flat → Settings → TokenAt → TokenCell → Type 0
IsTakenOrFound old new settings token cell =
    IsCell new settings token.0 cell ⊎ ((IsReached old new token.0 → ⊥) × IsCell old settings token.0 cell)

-- Such cells are those of the new tree.
abbrev pub TakenAreCells : Type 0
TakenAreCells = (old new : Flat) (settings : Settings) (cells : List TokenCell) → AreDefinitions old → AreDefinitions new
    → AllZip (IsTakenOrFound old new settings) (finite.entries new) cells → AreCells new settings (finite.entries new) cells

-- a token's path, and its names on the platform
abbrev pub named_on : Platform → Celled → NamedToken
named_on platform e = record { path = e.0.0; names = names_on platform e.1 }

-- no token has a name of an earlier one on the platform
abbrev pub AreApartOn : Platform → List Celled → Type 0
AreApartOn platform es = AllPairs ShareNoName (map (named_on platform) es)

-- The report tells of two of the tokens: the later one, an earlier one, and that they have a name in common on the
-- platform.
pub record IsClash (platform : Platform) (es : List Celled) (r : Report) : Type 0 where
  pub before : List Celled
  pub later : Celled
  pub after : List Celled
  pub split : es ≡ before ++ later ∷ after
  pub earlier : Celled
  pub there : Contains before earlier
  pub name : List ℕ
  pub of_earlier : Contains (names_on platform earlier.1) name
  pub of_later : Contains (names_on platform later.1) name
  pub told : r ≡ clash_report platform later.0 earlier.0.0

-- a clash that is told is one
abbrev pub ClashesAreReal : Type 0
ClashesAreReal = (platform : Platform) (es : List Celled) (r : Report)
    → Contains (clashes_on platform es) r → IsClash platform es r

-- none is told exactly where no token has a name of an earlier one
abbrev pub UnclashedAreApart : Type 0
UnclashedAreApart = (platform : Platform) (es : List Celled) → clashes_on platform es ≡ [] → AreApartOn platform es

abbrev pub ApartAreUnclashed : Type 0
ApartAreUnclashed = (platform : Platform) (es : List Celled) → AreApartOn platform es → clashes_on platform es ≡ []
