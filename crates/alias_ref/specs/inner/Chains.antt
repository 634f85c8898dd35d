-- Chains of aliases: tokens whose whole values refer to others without steps.
use Rattle.std.specs.Prelude.{◌≡◌, ◌⊎◌, ℕ, ◌+◌, ◌<◌, ◌≤◌, List, [], ◌∷◌, length, map, Bool, false, ◌==◌, Option, Some, None, option_map, option_and_then, unwrap_or}
use Rattle.std.specs.FinMap as flat_map
use Rattle.std.specs.List.{slice_get}
use Rattle.name_path.specs.declared.place.Place.{Place}
use Rattle.group_inherit.specs.Flattening.{Flattened, TokenAt}
use Rattle.json_span.specs.PlainView.{plain_view}
use Rattle.alias_ref.specs.Written.{Step, refers, WrittenPlaces, whole, written_in}
use Rattle.alias_ref.specs.Visits.{visit, since, own_break, first_break, walked, walk_break, most_on_branch}
use Rattle.alias_ref.specs.Laws.{Flat}
use Rattle.alias_ref.specs.declared.fault.RefFault.{RefFault}
use Rattle.alias_ref.specs.declared.resolved.Resolved.{Resolved}
use Rattle.alias_ref.specs.inner.Seen.{IsFault}
use Rattle.alias_ref.specs.inner.Remembering.{PathStandsAt}

-- the token to whose whole value that of this token refers stands at the place
pub record IsAlias (flat : Flat) (token : List Step) (j : ℕ) : Type 0 where
  pub named : List Step
  pub stands : PathStandsAt (flat_map.entries flat) named j
  pub written : written_in flat (whole token) ≡ Some (refers named [])

-- to which tokens the whole values of tokens refer without steps, by their places in path order
abbrev pub Targets : Type 0
Targets = List (Option ℕ)

abbrev pub target_at : Targets → ℕ → Option ℕ
target_at ts i = option_and_then (λ o. o) (slice_get ts i)

-- nothing is known of any
abbrev pub HasNone : Targets → Type 0
HasNone ts = (i j : ℕ) → target_at ts i ≡ Some j → ⊥

-- all that is known is so
abbrev pub AreAliases : Flat → Targets → Type 0
AreAliases flat ts = (i j : ℕ) (token : TokenAt) → slice_get (flat_map.entries flat) i ≡ Some token → target_at ts i ≡ Some j → IsAlias flat token.0 j

-- nothing but this may be known more
abbrev pub IsLed : Targets → Targets → ℕ → ℕ → Type 0
IsLed old new i j = (k x : ℕ) → target_at new k ≡ Some x → ((k ≡ i) × (x ≡ j)) ⊎ (target_at old k ≡ Some x)

-- what an alias comes to, by what the token comes to that it names
pub record IsShared (named : List Step) (f : Flattened) (other r : Resolved) : Type 0 where
  pub kind : r.kind ≡ unwrap_or f.def.kind other.kind
  pub plain : plain_view r.plain.value ≡ plain_view other.plain.value
  pub links : r.links ≡ record { trail = []; target = named; kind = Some other.kind } ∷ []

-- the whole value of the token at a place
abbrev pub whole_at : List TokenAt → ℕ → Place
whole_at tokens i = whole (unwrap_or (option_map (λ t. t.0) (slice_get tokens i)) [])

-- those of a chain, as the branch of a walk
abbrev pub branch_of : List TokenAt → List ℕ → List Place
branch_of tokens chain = map (whole_at tokens) chain

-- there is a token at the place
abbrev pub HasToken : List TokenAt → ℕ → Type 0
HasToken tokens i = (path : List Step) × PathStandsAt tokens path i

-- the mark at a place says where it stands in the chain
abbrev pub is_marked : List ℕ → List ℕ → ℕ → Bool
is_marked marks chain i = unwrap_or (option_map (λ j. j == i) (option_and_then (λ k. slice_get chain k) (slice_get marks i))) false

-- .. as it does at each place of the chain, where a token stands
pub record IsChain (tokens : List TokenAt) (marks chain : List ℕ) : Type 0 where
  pub marked : (k i : ℕ) → slice_get chain k ≡ Some i → slice_get marks i ≡ Some k
  pub stand : (k i : ℕ) → slice_get chain k ≡ Some i → HasToken tokens i

-- the place has this mark, and others have theirs
pub record IsMarkedAt (old new : List ℕ) (i at : ℕ) : Type 0 where
  pub here : slice_get new i ≡ Some at
  pub elsewhere : (j : ℕ) → (j ≡ i → ⊥) → slice_get new j ≡ slice_get old j

-- the break of the visit at the end of a chain
abbrev pub IsBreakAt : List TokenAt → List ℕ → ℕ → RefFault → Type 0
IsBreakAt tokens chain i f = (T : WrittenPlaces) → IsFault f (own_break T (length chain) (visit (branch_of tokens chain) (whole_at tokens i)))

-- the place is new behind a chain that is not too long
pub record IsNewBehind (tokens : List TokenAt) (marks chain : List ℕ) (i : ℕ) : Type 0 where
  pub unmarked : is_marked marks chain i ≡ false
  pub is_new : since (whole_at tokens i) (branch_of tokens chain) ≡ None
  pub room : length chain < most_on_branch

-- the walk of the token breaks first where the walk of the one at the place does, below the chain
abbrev pub LeadsTo : Flat → List Step → List ℕ → ℕ → Type 0
LeadsTo flat token chain i = (f : RefFault) → IsFault f (first_break (written_in flat) (length chain) (walked (written_in flat) (branch_of (flat_map.entries flat) chain) (whole_at (flat_map.entries flat) i)))
    → IsFault f (walk_break (written_in flat) token)

-- the chain is one place longer, and leads to another
pub record HasStepped (flat : Flat) (marks old new : List ℕ) (i j : ℕ) : Type 0 where
  pub chain : IsChain (flat_map.entries flat) marks new
  pub token : HasToken (flat_map.entries flat) j
  pub longer : length new ≡ length old + 1
  pub room : length new ≤ most_on_branch
  pub leads : (token : List Step) → LeadsTo flat token old i → LeadsTo flat token new j
