-- Where a walk stands, and what its trace holds.
use Rattle.std.specs.Prelude.{◌≡◌, ℕ, ◌<◌, ◌^◌, Contains, List, ◌++◌, length, map, Bool, true, false, Some, None, option_map, option_and_then, unwrap_or}
use Rattle.std.specs.Borrow.{Bor}
use Rattle.std.specs.FinMap as flat_map
use Rattle.name_path.specs.declared.link.Link.{Link}
use Rattle.name_path.specs.declared.place.Place.{Place}
use Rattle.json_span.specs.Tree.{Tree, a_null, a_boolean, a_number, a_string, an_array, an_object, Placed, placed, Elements, no_elements, an_element, Members, no_members, a_member, tree_of, start_of, elements_in, entries_in}
use Rattle.json_span.specs.Flaw.{flaw_in}
use Rattle.group_inherit.specs.Flattening.{Flattened}
use Rattle.alias_ref.specs.Written.{Step, of_value, WrittenPlaces, Parts, parts_of, part_behind, value_at, is_reference, written_as, role_behind, role_at}
use Rattle.alias_ref.specs.Visits.{most_on_branch, most_visits}
use Rattle.alias_ref.specs.Kinds.{Kinds, LinksAt, LinksEach}
use Rattle.alias_ref.specs.Laws.{Flat}
use Rattle.alias_ref.specs.inner.Contents.{IsContent}
use Rattle.alias_ref.specs.declared.content.Content.{Content}
use Rattle.alias_ref.specs.declared.spot.Spot.{Spot}
use Rattle.alias_ref.specs.declared.trace.Trace.{Trace}

-- the token and the value at a place
pub record IsValueAt (flat : Flat) (p : Place) (f : Flattened) (n : Placed) : Type 0 where
  pub token : flat_map.get flat p.token ≡ Some f
  pub value : value_at f.def.value p.trail ≡ Some n

-- each array and object has fewer parts than a text may have bytes
abbrev mutual
  pub HasFewParts : Placed → Type 0
  HasFewParts (placed v start end) = TreeHasFewParts v

  pub TreeHasFewParts : Tree → Type 0
  TreeHasFewParts a_null = Unit {0}
  TreeHasFewParts (a_boolean b) = Unit {0}
  TreeHasFewParts (a_number k) = Unit {0}
  TreeHasFewParts (a_string s) = Unit {0}
  TreeHasFewParts (an_array ns) = (length (elements_in ns) < 2 ^ 64) × ElementsHaveFewParts ns
  TreeHasFewParts (an_object ms) = (length (entries_in ms) < 2 ^ 64) × MembersHaveFewParts ms

  pub ElementsHaveFewParts : Elements → Type 0
  ElementsHaveFewParts no_elements = Unit {0}
  ElementsHaveFewParts (an_element n ns) = HasFewParts n × ElementsHaveFewParts ns

  pub MembersHaveFewParts : Members → Type 0
  MembersHaveFewParts no_members = Unit {0}
  MembersHaveFewParts (a_member s start end n ms) = HasFewParts n × MembersHaveFewParts ms

-- a value of a text without a flaw
pub record IsFlawless (n : Placed) : Type 0 where
  pub room : ℕ
  pub flawless : flaw_in room n ≡ None
  pub short : HasFewParts n

-- what the spot says of its place is so
pub record IsSpot (flat : Flat) (s : Spot) : Type 0 where
  pub value : Placed
  pub stands : IsValueAt flat s.place s.token.now value
  pub start : s.start ≡ start_of value
  pub content : IsContent s.content (role_at s.token.now.def.by_ref s.place.trail) (tree_of value)
  pub sound : IsFlawless value

-- the spot of a place whose token, start and content are at hand
abbrev pub spot_at : Place → Bor Flattened → ℕ → Content → Spot
spot_at p f n c = record { place = p; token = f; start = n; content = c }

-- the value is the part after a step of what is written at the place
pub record IsPartAt (flat : Flat) (p : Place) (f : Flattened) (s : Step) (m : Placed) : Type 0 where
  pub value : Placed
  pub stands : IsValueAt flat p f value
  pub part : part_behind value s ≡ Some m
  pub role : role_behind s ≡ of_value
  pub sound : IsFlawless m

-- the parts are those of what is written at the place, which is no reference
pub record IsHolder (flat : Flat) (p : Place) (f : Flattened) (ps : Parts) : Type 0 where
  pub value : Placed
  pub stands : IsValueAt flat p f value
  pub parts : ps ≡ parts_of (tree_of value)
  pub plain : is_reference (Some (written_as (role_at f.def.by_ref p.trail) (tree_of value))) ≡ false
  pub sound : IsFlawless value

-- where the value at a place starts
abbrev pub start_in : Flat → Place → ℕ
start_in flat p = unwrap_or (option_map start_of (option_and_then (λ f. value_at f.def.value p.trail) (flat_map.get flat p.token))) 0

-- the starts of a trace are those of its places
abbrev pub HasStarts : Flat → Trace → Type 0
HasStarts flat t = t.starts.items ≡ map (start_in flat) t.places.items

-- a visit of a value that starts so finds no such start on the branch, and room
pub record IsClear (t : Trace) (start : ℕ) : Type 0 where
  pub is_new : Contains t.starts.items start → ⊥
  pub room : length t.places.items < most_on_branch
  pub few : t.visits < most_visits

-- the branch stays
abbrev pub IsSameBranch : Trace → Trace → Type 0
IsSameBranch old new = (new.places.items ≡ old.places.items) × (new.starts.items ≡ old.starts.items)

-- the links of a place were added where the value is the token's own
abbrev pub HasGrown : Bool → WrittenPlaces → Kinds → Kinds → Place → List Link → List Link → Type 0
HasGrown true T own group p old new = (ls : List Link) × LinksAt T own group p ls × (new ≡ old ++ ls)
HasGrown false T own group p old new = new ≡ old

abbrev pub HasGrownEach : Bool → WrittenPlaces → Kinds → Kinds → Place → List Step → List Link → List Link → Type 0
HasGrownEach true T own group p steps old new = (ls : List Link) × LinksEach T own group p steps ls × (new ≡ old ++ ls)
HasGrownEach false T own group p steps old new = new ≡ old
