-- What a token comes to, or the first rule that it breaks.
use Rattle.std.specs.Prelude.{◌≡◌, ◌≢◌, ◌↔◌, ℕ, List, [], Some, None}
use Rattle.std.specs.FinMap as flat_map
use Rattle.std.specs.List.{slice_get}
use Rattle.group_inherit.specs.Flattening.{TokenAt}
use Rattle.json_span.specs.PlainView.{Value, plain_view}
use Rattle.alias_ref.specs.Written.{Step, WrittenPlaces, whole, written_in}
use Rattle.alias_ref.specs.Meaning.{Means}
use Rattle.alias_ref.specs.Visits.{RefBreak, ref_break, walk_break}
use Rattle.alias_ref.specs.Asking.{IsRingOfPlaces}
use Rattle.alias_ref.specs.Kinds.{KindOf, LinksAt, own_in, group_in}
use Rattle.alias_ref.specs.Laws.{Flat}
use Rattle.alias_ref.specs.declared.fault.RefFault.{RefFault}
use Rattle.alias_ref.specs.declared.fault.RefFault.TheVariants as faults
use Rattle.alias_ref.specs.declared.fault.RefRule.TheVariants as rule
use Rattle.alias_ref.specs.declared.resolved.Resolved.{Resolved}

-- the token breaks no rule, and this is its kind, its meaning and its links
pub record IsResolved (flat : Flat) (token : List Step) (r : Resolved) : Type 0 where
  pub unbroken : walk_break (written_in flat) token ≡ None
  pub meaning : Means (written_in flat) (whole token) (plain_view r.plain.value)
  pub kind : KindOf (written_in flat) (own_in flat) (group_in flat) token (Some r.kind)
  pub links : LinksAt (written_in flat) (own_in flat) (group_in flat) (whole token) r.links

-- The first rule that the token breaks: that of its walk, and then that a kind is missing.
pub data IsFirstBreak (flat : Flat) (token : List Step) : RefBreak → Type 0 where
  in_walk : {b : RefBreak} → walk_break (written_in flat) token ≡ Some b → IsFirstBreak flat token b
  kind_missing : {b : RefBreak} → walk_break (written_in flat) token ≡ None → KindOf (written_in flat) (own_in flat) (group_in flat) token None → b ≡ ref_break rule.NoType (whole token) → IsFirstBreak flat token b

-- The fault is the first rule that the token breaks, unless memory ran out.
abbrev pub IsRefBreak : Flat → List Step → RefFault → Type 0
IsRefBreak flat token (faults.Broken r p ring) = IsFirstBreak flat token (record { rule = r; place = p; ring = ring })
IsRefBreak flat token faults.NoMemory = Unit {0}

-- a ring that is told of is one, and other rules tell of none
abbrev pub HasRealRing : WrittenPlaces → RefFault → Type 0
HasRealRing T (faults.Broken r p ring) = (r ≡ rule.Cycle → IsRingOfPlaces T ring) × (r ≢ rule.Cycle → ring ≡ [])
HasRealRing T faults.NoMemory = Unit {0}

-- two tokens mean the same
abbrev pub MeanTheSame : Flat → List Step → List Step → Type 0
MeanTheSame flat t u = (v : Value) → Means (written_in flat) (whole t) v ↔ Means (written_in flat) (whole u) v

-- .. as do a token and the one at this place in path order
abbrev pub MeansAsAt : Flat → List Step → ℕ → Type 0
MeansAsAt flat token j = (other : TokenAt) × (slice_get (flat_map.entries flat) j ≡ Some other) × MeanTheSame flat token other.0

-- The answer is decided by the flat tree and the path: a token comes to one thing, or breaks one rule first, and never both.
abbrev pub OneResolved : Type 0
OneResolved = (flat : Flat) (token : List Step) (r s : Resolved) → IsResolved flat token r → IsResolved flat token s → (r.kind ≡ s.kind) × (plain_view r.plain.value ≡ plain_view s.plain.value) × (r.links ≡ s.links)

abbrev pub OneFirstBreak : Type 0
OneFirstBreak = (flat : Flat) (token : List Step) (b c : RefBreak) → IsFirstBreak flat token b → IsFirstBreak flat token c → b ≡ c

abbrev pub NeverBoth : Type 0
NeverBoth = (flat : Flat) (token : List Step) (r : Resolved) (b : RefBreak) → IsResolved flat token r → IsFirstBreak flat token b → ⊥
