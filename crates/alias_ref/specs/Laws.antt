-- What the definitions come to.
use Rattle.std.specs.Prelude.{◌≡◌, ◌≢◌, ◌↔◌, ◌<◌, ◌≤◌, ◌^◌, ℕ, List, [], ◌∷◌, ◌++◌, length, true, false, Option, Some, None}
use Rattle.std.specs.FinMap as flat_map
use Rattle.std.specs.List.{AllZip}
use Rattle.std.specs.Str.{IsUtf8}
use Rattle.tk_io.specs.Order.{names_cmp}
use Rattle.ring.specs.Lists.{In}
use Rattle.name_path.specs.Reference.{SpellsPath, SpellsPlace}
use Rattle.name_path.specs.declared.kind.Kind.{Kind}
use Rattle.name_path.specs.declared.link.Link.{Link}
use Rattle.name_path.specs.declared.place.Place.{Place}
use Rattle.json_span.specs.Tree.{Placed, tree_of}
use Rattle.json_span.specs.Parts.{IsPart}
use Rattle.json_span.specs.FitsIn.{FitsIn}
use Rattle.json_span.specs.PlainView.{Value}
use Rattle.token_tree.specs.Tree.{Definition}
use Rattle.token_tree.specs.Promise.{IsDefinition}
use Rattle.group_inherit.specs.Flattening.{Flattened}
use Rattle.alias_ref.specs.References.{alias_named, place_named}
use Rattle.alias_ref.specs.Written.{Step, refers, misspelled, WrittenPlaces, whole, is_reference, is_misspelled, is_written, Role, written_as, written_at, written_in}
use Rattle.alias_ref.specs.Meaning.{Leads, Settles, Means}
use Rattle.alias_ref.specs.Visits.{Visit, visit, RefBreak, most_on_branch, most_visits, first_break, walked, walk_break}
use Rattle.alias_ref.specs.Asking.{Manner, Chain, Differ, Lacks, IsRingOfPlaces, IsVisited}
use Rattle.alias_ref.specs.Turns.{Asked, AsksInTurn, visits_of, visits_in_turn}
use Rattle.alias_ref.specs.Kinds.{Kinds, KindOf, LinksAt, IsLink, own_in, group_in}
use Rattle.alias_ref.specs.PlainParts.{plain_at, Below}
use Rattle.alias_ref.specs.Depth.{LinkDepth}
use Rattle.alias_ref.specs.Refs.{refs_of, IsWrittenBefore, AreInOrder}
use Rattle.alias_ref.specs.Unchanged.{Unchanged, AreDefinedAlong, AreDefinitions}
use Rattle.alias_ref.specs.declared.fault.RefRule.TheVariants as rule

abbrev pub Flat : Type 0
Flat = flat_map.FinMap names_cmp Flattened

-- the readings of texts are those of aliases and pointers
abbrev pub AliasesNamed : Type 0
AliasesNamed = (text : List ℕ) (path : List Step) → (alias_named text ≡ Some path) ↔ SpellsPath text path

abbrev pub PointersNamed : Type 0
PointersNamed = (text : List ℕ) (place : Place) → (place_named text ≡ Some place) ↔ SpellsPlace text place

-- a place has one lead, one end, one meaning, one kind and one list of links
abbrev pub OneLead : Type 0
OneLead = (T : WrittenPlaces) (p q r : Place) → Leads T p q → Leads T p r → q ≡ r

abbrev pub OneEnd : Type 0
OneEnd = (T : WrittenPlaces) (p q r : Place) → Settles T p q → Settles T p r → q ≡ r

abbrev pub OneMeaning : Type 0
OneMeaning = (T : WrittenPlaces) (p : Place) (v w : Value) → Means T p v → Means T p w → v ≡ w

abbrev pub OneKind : Type 0
OneKind = (T : WrittenPlaces) (own group : Kinds) (token : List Step) (k l : Option Kind) → KindOf T own group token k → KindOf T own group token l → k ≡ l

abbrev pub OneLinks : Type 0
OneLinks = (T : WrittenPlaces) (own group : Kinds) (p : Place) (ls ms : List Link) → LinksAt T own group p ls → LinksAt T own group p ms → ls ≡ ms

-- a ring that is told of is one, from its first place on
abbrev pub RingsAreReal : Type 0
RingsAreReal = (T : WrittenPlaces) (token : List Step) (p : Place) (ring : List Place) → walk_break T token ≡ Some (record { rule = rule.Cycle; place = p; ring = ring }) → IsRingOfPlaces T ring

-- each visit of a token's walk is one by the rules of visits
abbrev pub VisitsAreVisited : Type 0
VisitsAreVisited = (T : WrittenPlaces) (token : List Step) (before after : List Visit) (b : List Place) (p : Place) → walked T [] (whole token) ≡ before ++ visit b p ∷ after
    → (m : Manner) × IsVisited T token b m p

-- Where the visits of a place have no break, they are the place itself and then those of what visiting it asks for, each once and in that order,
-- below a branch that is longer by the place.
pub record ComeInTurn (T : WrittenPlaces) (b : List Place) (m : Manner) (p : Place) : Type 0 where
  pub asked : List Asked
  pub asks : AsksInTurn T m p asked
  pub visits : visits_of T b m p ≡ visit b p ∷ visits_in_turn T (b ++ p ∷ []) asked

abbrev pub VisitsInTurn : Type 0
VisitsInTurn = (T : WrittenPlaces) (b : List Place) (m : Manner) (p : Place) (n : ℕ) → is_written (T p) ≡ true → first_break T n (visits_of T b m p) ≡ None → ComeInTurn T b m p

-- the walk visits the place below as many places as may stand on a branch, or more: they differ, each asks for the next, and the last for this one
pub record IsTooDeep (T : WrittenPlaces) (token : List Step) (p : Place) : Type 0 where
  pub branch : List Place
  pub long : most_on_branch ≤ length branch
  pub manner : Manner
  pub visited : IsVisited T token branch manner p
  pub apart : Differ branch
  pub chain : Chain T branch p

-- as many visits as there may be, or more, come in the token's walk before one of this place
pub record IsTooBig (T : WrittenPlaces) (token : List Step) (p : Place) : Type 0 where
  pub before : List Visit
  pub branch : List Place
  pub after : List Visit
  pub split : walked T [] (whole token) ≡ before ++ visit branch p ∷ after
  pub many : most_visits ≤ length before

-- what is told of a break holds at the place that is told: of a wrong spelling, of a lost target, of a branch that is too long, and of too many visits
pub record IsTold (T : WrittenPlaces) (token : List Step) (b : RefBreak) : Type 0 where
  pub syntax : b.rule ≡ rule.RefSyntax → T b.place ≡ Some misspelled
  pub target : b.rule ≡ rule.RefTarget → (is_reference (T b.place) ≡ true) × ((q : Place) → Leads T b.place q → ⊥)
  pub deep : b.rule ≡ rule.Deep → IsTooDeep T token b.place
  pub big : b.rule ≡ rule.Big → IsTooBig T token b.place
  pub of_walk : b.rule ≢ rule.NoType
  pub ring : b.rule ≢ rule.Cycle → b.ring ≡ []

abbrev pub BreaksAreReal : Type 0
BreaksAreReal = (T : WrittenPlaces) (token : List Step) (b : RefBreak) → walk_break T token ≡ Some b → IsTold T token b

-- the place is one in a token that is there
abbrev pub HasToken : Flat → Place → Type 0
HasToken flat p = (f : Flattened) × (flat_map.get flat p.token ≡ Some f)

-- a break is told at a place in a token that is there
abbrev pub PlacesAreThere : Type 0
PlacesAreThere = (flat : Flat) (token : List Step) (f : Flattened) (b : RefBreak) → flat_map.get flat token ≡ Some f → walk_break (written_in flat) token ≡ Some b → HasToken flat b.place

-- a token without a break means something
abbrev pub UnbrokenMeans : Type 0
UnbrokenMeans = (flat : Flat) (token : List Step) → is_written (written_in flat (whole token)) ≡ true → walk_break (written_in flat) token ≡ None → (v : Value) × Means (written_in flat) (whole token) v

-- .. and whatever its walk visits is new on its branch, stands after few places, is spelled well, and leads somewhere where it is a reference: a token
-- whose walk comes to a wrong spelling, to a lost target or back to a place on its branch has a break
pub record IsSoundVisit (T : WrittenPlaces) (b : List Place) (p : Place) : Type 0 where
  pub is_new : Lacks p b
  pub room : length b < most_on_branch
  pub spelling : is_misspelled (T p) ≡ false
  pub target : is_reference (T p) ≡ true → (q : Place) × Leads T p q

abbrev pub UnbrokenIsSound : Type 0
UnbrokenIsSound = (flat : Flat) (token : List Step) → is_written (written_in flat (whole token)) ≡ true → walk_break (written_in flat) token ≡ None
    → (b : List Place) (m : Manner) (p : Place) → IsVisited (written_in flat) token b m p → IsSoundVisit (written_in flat) b p

-- .. and has at most so many links that follow one another
abbrev pub UnbrokenDepth : Type 0
UnbrokenDepth = (flat : Flat) (token : List Step) → is_written (written_in flat (whole token)) ≡ true → walk_break (written_in flat) token ≡ None → LinkDepth (written_in flat) most_on_branch (whole token)

-- .. and it has a kind, or none, and links
abbrev pub UnbrokenHasKind : Type 0
UnbrokenHasKind = (flat : Flat) (token : List Step) → is_written (written_in flat (whole token)) ≡ true → walk_break (written_in flat) token ≡ None
    → (k : Option Kind) × KindOf (written_in flat) (own_in flat) (group_in flat) token k

abbrev pub UnbrokenHasLinks : Type 0
UnbrokenHasLinks = (flat : Flat) (token : List Step) → is_written (written_in flat (whole token)) ≡ true → walk_break (written_in flat) token ≡ None
    → (ls : List Link) × LinksAt (written_in flat) (own_in flat) (group_in flat) (whole token) ls

-- the source of each definition is UTF-8, and has at most so many bytes
abbrev pub SourcesFit : ℕ → Flat → Type 0
SourcesFit n flat = (path : List Step) (f : Flattened) → flat_map.get flat path ≡ Some f → IsUtf8 f.def.source × (length f.def.source ≤ n)

-- what a place means has strings and names of UTF-8, and no list with more parts than a source may have bytes
abbrev pub MeaningsFit : Type 0
MeaningsFit = (flat : Flat) (n : ℕ) → AreDefinitions flat → SourcesFit n flat → (p : Place) (v : Value) → Means (written_in flat) p v → FitsIn n v

-- what is written at a trail of a place means what stands there in the place's meaning
abbrev pub PartsMean : Type 0
PartsMean = (flat : Flat) (p q : Place) (trail : List Step) (v : Value) → Below (written_in flat) p trail q → Means (written_in flat) p v → (w : Value) × (plain_at v trail ≡ Some w) × Means (written_in flat) q w

-- each link is real, and each reference without steps among the parts of a place is one of its links
abbrev pub LinksAreReal : Type 0
LinksAreReal = (T : WrittenPlaces) (own group : Kinds) (p : Place) (ls : List Link) → LinksAt T own group p ls → (l : Link) → In l ls → IsLink T own group p.token l

abbrev pub LinksAreAll : Type 0
LinksAreAll = (T : WrittenPlaces) (own group : Kinds) (p q : Place) (trail target : List Step) (ls : List Link) → LinksAt T own group p ls → Below T p trail q → T q ≡ Some (refers target []) → (l : Link) × In l ls × (l.trail ≡ q.trail) × (l.target ≡ target)

-- what is written in a token is decided by its source
abbrev pub SourceDecides : Type 0
SourceDecides = (d e : Definition) → IsDefinition d → IsDefinition e → d.source ≡ e.source → (trail : List Step) → written_at d trail ≡ written_at e trail

abbrev pub RefsOfSource : Type 0
RefsOfSource = (d e : Definition) → IsDefinition d → IsDefinition e → d.source ≡ e.source → refs_of d ≡ refs_of e

-- .. and so is what is shown beside its value
pub record ShowsSame (d e : Definition) : Type 0 where
  pub description : d.description ≡ e.description
  pub extensions : d.extensions ≡ e.extensions
  pub deprecated : d.deprecated ≡ e.deprecated

abbrev pub ShownBySource : Type 0
ShownBySource = (d e : Definition) → IsDefinition d → IsDefinition e → d.source ≡ e.source → ShowsSame d e

-- each well-spelled reference that is written in a value names a token of its list
abbrev pub WrittenAreListed : Type 0
WrittenAreListed = (d : Definition) (trail token steps : List Step) → written_at d trail ≡ Some (refers token steps) → In token (refs_of d)

-- .. and each token of the list is named by a well-spelled reference among the parts of the value
abbrev pub ListedAreWritten : Type 0
ListedAreWritten = (d : Definition) (token : List Step) → In token (refs_of d) → (role : Role) × (n : Placed) × (steps : List Step) × IsPart n d.value × (written_as role (tree_of n) ≡ refers token steps)

-- The references of a value stand at these steps: each names the token at its place of the list, they are in written order, and there is no other.
pub record AreRefsAt (d : Definition) (tokens trails : List (List Step)) : Type 0 where
  pub named : AllZip (λ token trail. (steps : List Step) × (written_at d trail ≡ Some (refers token steps))) tokens trails
  pub ordered : AreInOrder d.value trails
  pub all : (trail token steps : List Step) → written_at d trail ≡ Some (refers token steps) → In trail trails

-- The list of a definition, whose source has fewer bytes than any text, has one token for each well-spelled reference that is written in the value,
-- in written order ..
abbrev pub RefsInOrder : Type 0
RefsInOrder = (d : Definition) → IsDefinition d → length d.source < 2 ^ 64 → (trails : List (List Step)) × AreRefsAt d (refs_of d) trails

-- .. and no place comes before itself: each stands there once
abbrev pub OrderIsStrict : Type 0
OrderIsStrict = (n : Placed) (trail : List Step) → IsWrittenBefore n trail trail → ⊥

-- Where no walk of references leads to a change, nothing changes.
pub record AreAlike (old new : Flat) (token : List Step) : Type 0 where
  pub broken : walk_break (written_in old) token ≡ walk_break (written_in new) token
  pub meaning : (v : Value) → Means (written_in old) (whole token) v ↔ Means (written_in new) (whole token) v
  pub kind : (k : Option Kind) → KindOf (written_in old) (own_in old) (group_in old) token k ↔ KindOf (written_in new) (own_in new) (group_in new) token k
  pub links : (ls : List Link) → LinksAt (written_in old) (own_in old) (group_in old) (whole token) ls ↔ LinksAt (written_in new) (own_in new) (group_in new) (whole token) ls

abbrev pub UnchangedIsAlike : Type 0
UnchangedIsAlike = (old new : Flat) (token : List Step) → AreDefinedAlong old new token → AreDefinedAlong new new token → Unchanged old new token → AreAlike old new token
