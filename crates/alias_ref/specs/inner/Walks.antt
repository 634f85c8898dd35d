-- What the calls of a walk come to, by the flat tree and the traces before and after.
use Rattle.std.specs.Prelude.{◌≡◌, List, [], map, Bool, Option, Some, Result, IfOk}
use Rattle.name_path.specs.declared.kind.Kind.{Kind}
use Rattle.name_path.specs.declared.link.Link.{Link}
use Rattle.name_path.specs.declared.place.Place.{Place}
use Rattle.json_span.specs.PlainView.{ValueEntry, plain_view, plain_items_view, plain_fields_view}
use Rattle.json_span.specs.View.{items_view, fields_view}
use Rattle.json_span.specs.declared.fields.Fields.{Fields}
use Rattle.json_span.specs.declared.items.Items.{Items}
use Rattle.json_span.specs.declared.plain.Plain.{Plain}
use Rattle.json_span.specs.declared.plain.PlainFields.{PlainFields}
use Rattle.json_span.specs.declared.plain.PlainItems.{PlainItems}
use Rattle.alias_ref.specs.Written.{Step, refers, WrittenPlaces, Parts, parts_by_index, parts_by_name, steps_of, written_in}
use Rattle.alias_ref.specs.Meaning.{Means, EachMeans}
use Rattle.alias_ref.specs.Visits.{Visit, Way, steps_from, way_of, settle_by, pass_written, passed, visits_each, walk_written, walked}
use Rattle.alias_ref.specs.Kinds.{KindOf, own_in, group_in}
use Rattle.alias_ref.specs.Laws.{Flat}
use Rattle.alias_ref.specs.declared.fault.RefFault.{RefFault}
use Rattle.alias_ref.specs.declared.spot.Spot.{Spot}
use Rattle.alias_ref.specs.declared.trace.Trace.{Trace}
use Rattle.alias_ref.specs.declared.walking.Found.{Found}
use Rattle.alias_ref.specs.inner.Contents.{content_view}
use Rattle.alias_ref.specs.inner.Seen.{Sees}
use Rattle.alias_ref.specs.inner.Spots.{HasGrown, HasGrownEach}

-- visits and ways below a branch
abbrev pub Visiting : Type 0
Visiting = WrittenPlaces → List Place → List Visit

abbrev pub Going : Type 0
Going = WrittenPlaces → List Place → Way

-- of a place that is settled or passed, of a reference at a place and of its steps from a place on, and of a place once it stands on the branch
abbrev pub settling : Place → Going
settling p T b = settle_by T (passed T b) p

abbrev pub passing : Place → Going
passing p T b = passed T b p

abbrev pub leading : Place → Place → Going
leading home place T b = way_of T (settle_by T (passed T b)) home place.token place.trail

abbrev pub stepping : Place → Place → List Step → Going
stepping home from steps T b = steps_from T (settle_by T (passed T b)) home from steps

abbrev pub passing_on : Spot → Going
passing_on s T b = pass_written T (settle_by T (passed T b)) s.place (Some (content_view s.content))

-- of a place that is walked, once it stands on the branch, and of parts
abbrev pub walking : Place → Visiting
walking p T b = walked T b p

abbrev pub walking_on : Spot → Visiting
walking_on s T b = walk_written T (settle_by T (passed T b)) (walked T b) s.place (Some (content_view s.content))

abbrev pub walking_reference : Place → Place → Visiting
walking_reference home named T b = walk_written T (settle_by T (passed T b)) (walked T b) home (Some (refers named.token named.trail))

abbrev pub walking_parts : Place → Parts → Visiting
walking_parts p ps T b = visits_each (walked T b) p (steps_of ps)

-- the visits were made below the branch of the trace before, up to the first that breaks a rule
abbrev pub HasSeen : {X : Type 0} → Flat → Trace → Trace → Result X RefFault → Visiting → Type 0
HasSeen flat old new r visits = Sees (written_in flat) (visits (written_in flat) old.places.items) old.visits new.visits r

abbrev pub HasGone : {X : Type 0} → Flat → Trace → Trace → Result X RefFault → Going → Type 0
HasGone flat old new r way = Sees (written_in flat) (way (written_in flat) old.places.items).seen old.visits new.visits r

-- the way ends at the place of the spot
abbrev pub HasEnded : Flat → Trace → Result Spot RefFault → Going → Type 0
HasEnded flat old r way = IfOk r (λ e. (way (written_in flat) old.places.items).ends ≡ Some e.place)

-- what was found at a place
abbrev pub IsMeantAt : Flat → Place → Plain → Type 0
IsMeantAt flat p v = Means (written_in flat) p (plain_view v)

abbrev pub IsKindAt : Flat → Place → Option Kind → Type 0
IsKindAt flat p k = p.trail ≡ [] → KindOf (written_in flat) (own_in flat) (group_in flat) p.token k

abbrev pub HasLinks : Bool → Flat → Place → List Link → List Link → Type 0
HasLinks own flat p old new = HasGrown own (written_in flat) (own_in flat) (group_in flat) p old new

-- the place was walked
pub record IsWalked (flat : Flat) (old new : Trace) (p : Place) (r : Result Found RefFault) : Type 0 where
  pub seen : HasSeen flat old new r (walking p)
  pub means : IfOk r (λ v. IsMeantAt flat p v.plain)
  pub kind : IfOk r (λ v. IsKindAt flat p v.kind)

-- what was found where a reference ends
pub record IsTarget (flat : Flat) (old : Trace) (home named : Place) (found : Found) : Type 0 where
  pub place : Place
  pub ends : (leading home named (written_in flat) old.places.items).ends ≡ Some place
  pub means : IsMeantAt flat place found.plain
  pub kind : IsKindAt flat place found.kind

-- and at its parts
abbrev pub item_parts : Items → Parts
item_parts items = parts_by_index 0 (items_view items)

abbrev pub field_parts : Fields → Parts
field_parts fields = parts_by_name (fields_view fields)

abbrev pub ItemsMean : Flat → Place → Items → PlainItems → Type 0
ItemsMean flat p items l = (es : List ValueEntry) × EachMeans (written_in flat) p (steps_of (item_parts items)) es × (plain_items_view l ≡ map (λ e. e.value) es)

abbrev pub FieldsMean : Flat → Place → Fields → PlainFields → Type 0
FieldsMean flat p fields l = EachMeans (written_in flat) p (steps_of (field_parts fields)) (plain_fields_view l)

abbrev pub HasLinksOf : Bool → Flat → Place → Parts → List Link → List Link → Type 0
HasLinksOf own flat p ps old new = HasGrownEach own (written_in flat) (own_in flat) (group_in flat) p (steps_of ps) old new
