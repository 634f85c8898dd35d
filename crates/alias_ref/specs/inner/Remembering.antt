-- What is remembered of tokens, and how a walk takes it.
use Rattle.std.specs.Prelude.{◌≡◌, ◌⊎◌, ℕ, ◌+◌, ◌≤◌, List, [], ◌∷◌, length, Bool, true, false, if◌then◌else◌, ◌||◌, ◌==◌, is_some, Option, Some, option_and_then}
use Rattle.std.specs.FinMap as flat_map
use Rattle.std.specs.List.{slice_get, AllZip}
use Rattle.ring.specs.Lists.{In}
use Rattle.name_path.specs.declared.place.Place.{Place}
use Rattle.group_inherit.specs.Flattening.{Flattened, TokenAt}
use Rattle.alias_ref.specs.Written.{Step, whole, is_written, written_in}
use Rattle.alias_ref.specs.Visits.{walked, most_on_branch, most_visits}
use Rattle.alias_ref.specs.Refs.{refs_of}
use Rattle.alias_ref.specs.Laws.{Flat}
use Rattle.alias_ref.specs.Answer.{IsResolved}
use Rattle.alias_ref.specs.declared.memory.Known.{Known}
use Rattle.alias_ref.specs.declared.resolved.Resolved.{Resolved}
use Rattle.alias_ref.specs.declared.trace.Trace.{Trace}
use Rattle.alias_ref.specs.declared.walking.Found.{Found}
use Rattle.alias_ref.specs.inner.Seen.{Clean}
use Rattle.alias_ref.specs.inner.Walks.{IsMeantAt, IsKindAt}

-- what is remembered of tokens, at their places in path order
abbrev pub Memories : Type 0
Memories = List (Option Known)

-- what is remembered at a place
abbrev pub known_at : Memories → ℕ → Option Known
known_at m i = option_and_then (λ o. o) (slice_get m i)

-- nothing is remembered at any place
abbrev pub IsBlank : Memories → Type 0
IsBlank m = (i : ℕ) (k : Known) → known_at m i ≡ Some k → ⊥

-- the token of this path stands at the place
abbrev pub PathStandsAt : List TokenAt → List Step → ℕ → Type 0
PathStandsAt tokens path i = (f : Flattened) × (slice_get tokens i ≡ Some (path, f))

-- something is remembered of the token
abbrev pub IsRemembered : Flat → Memories → List Step → Type 0
IsRemembered flat m token = (i : ℕ) × (k : Known) × PathStandsAt (flat_map.entries flat) token i × (known_at m i ≡ Some k)

-- what one token comes to, another does
pub record IsSame (r s : Resolved) : Type 0 where
  pub kind : s.kind ≡ r.kind
  pub plain : s.plain.value ≡ r.plain.value
  pub links : s.links ≡ r.links

-- What is remembered of a token is what it comes to, and how many visits its walk makes; and something is remembered of each token that it names.
pub record IsKnownOf (flat : Flat) (m : Memories) (token : TokenAt) (k : Known) : Type 0 where
  pub resolved : IsResolved flat token.0 k.resolved
  pub counted : length (walked (written_in flat) [] (whole token.0)) ≡ k.visits
  pub closed : (named : List Step) → In named (refs_of token.1.def) → IsRemembered flat m named

-- all that is remembered is so
abbrev pub Remembers : Flat → Memories → Type 0
Remembers flat m = (i : ℕ) (token : TokenAt) (k : Known) → slice_get (flat_map.entries flat) i ≡ Some token → known_at m i ≡ Some k → IsKnownOf flat m token k

-- .. and the places of the branch are all of this token, of which nothing is remembered
pub record Serves (flat : Flat) (m : Memories) (branch : List Place) (token : List Step) : Type 0 where
  pub right : Remembers flat m
  pub is_new : IsRemembered flat m token → ⊥
  pub at_home : (q : Place) → In q branch → q.token ≡ token

-- where the place is written in the token whose links are listed
abbrev pub HasHome : Bool → Flat → Memories → Trace → List Step → Type 0
HasHome true flat m t token = Serves flat m t.places.items token
HasHome false flat m t token = Unit {0}

-- n more visits leave room on the branch and among the visits, and are counted
pub record CountsVisits (old new : Trace) (n : ℕ) : Type 0 where
  pub room : length old.places.items + n ≤ most_on_branch
  pub few : old.visits + n ≤ most_visits
  pub counted : new.visits ≡ old.visits + n

-- What is remembered of a token that is named without steps was taken, as if its whole value had been walked.
pub record IsRecalled (flat : Flat) (old new : Trace) (named : Place) (found : Found) : Type 0 where
  pub no_steps : named.trail ≡ []
  pub there : is_written (written_in flat (whole named.token)) ≡ true
  pub clean : Clean (written_in flat) old.visits new.visits (walked (written_in flat) old.places.items (whole named.token))
  pub means : IsMeantAt flat (whole named.token) found.plain
  pub kind : IsKindAt flat (whole named.token) found.kind

-- the tokens of these paths stand at these places, one by one
abbrev pub AreAt : List TokenAt → List (List Step) → List ℕ → Type 0
AreAt tokens paths places = AllZip (PathStandsAt tokens) paths places

-- something is remembered at each of the places, but for this one
abbrev pub all_known : Memories → ℕ → List ℕ → Bool
all_known m i [] = true
all_known m i (j ∷ js) = if (j == i) || is_some (known_at m j) then all_known m i js else false

-- this is remembered at the place too, and what was remembered elsewhere still is
pub record IsKept (old new : Memories) (i : ℕ) (k : Known) : Type 0 where
  pub only : (j : ℕ) (x : Known) → known_at new j ≡ Some x → ((j ≡ i) × (x ≡ k)) ⊎ (known_at old j ≡ Some x)
  pub still : (j : ℕ) (x : Known) → known_at old j ≡ Some x → (y : Known) × (known_at new j ≡ Some y)
