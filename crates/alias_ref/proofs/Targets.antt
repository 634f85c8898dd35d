-- What is found where a reference ends.
use Rattle.std.proofs.Common.{◌≡◌, List, Some, refl, sym, ap, subst}
use Rattle.std.specs.Prelude.{Result, Ok, Err, IfOk, OnOk}
use Rattle.name_path.specs.declared.link.Link.{Link}
use Rattle.name_path.specs.declared.place.Place.{Place}
use Rattle.alias_ref.specs.Written.{refers, whole, written_in}
use Rattle.alias_ref.specs.Visits.{Way, ends_at, way_of, settle_by, walk_written, walked, passed}
use Rattle.alias_ref.specs.Laws.{Flat}
use Rattle.alias_ref.specs.declared.fault.RefFault.{RefFault}
use Rattle.alias_ref.specs.declared.trace.Trace.{Trace}
use Rattle.alias_ref.specs.declared.walking.Found.{Found}
use Rattle.alias_ref.specs.inner.Seen.{Clean, Sees}
use Rattle.alias_ref.specs.inner.Spots.{IsSameBranch}
use Rattle.alias_ref.specs.inner.Remembering.{IsRecalled}
use Rattle.alias_ref.specs.inner.Walks.{leading, walking, walking_reference, HasSeen, IsMeantAt, IsKindAt, IsTarget}
use Rattle.alias_ref.proofs.FirstBreaks.{clean_nil}
use Rattle.alias_ref.proofs.TracesGrow.{same_then}
use Rattle.alias_ref.proofs.WalksInTurns.{way_here, target_then_fault, target_clean, sees_by}

-- what is promised of the walk of a reference
pub record HasReached (flat : Flat) (old new : Trace) (home named : Place) (was is : List Link) (r : Result Found RefFault) : Type 0 where
  pub seen : HasSeen flat old new r (walking_reference home named)
  pub target : IfOk r (IsTarget flat old home named)
  pub links : OnOk r (is ≡ was)
  pub branch : OnOk r (IsSameBranch old new)

-- what is remembered was taken
pub recalled_reached : (flat : Flat) (old new : Trace) (home named : Place) (found : Found) → IsRecalled flat old new named found → IsSameBranch old new → (links : List Link)
    → HasReached flat old new home named links links (Ok found)
recalled_reached flat old new home named found k same links =
    let T = written_in flat in
    let branch = old.places.items in
    let settle = settle_by T (passed T branch) in
    let way : way_of T settle home named.token named.trail ≡ ends_at (whole named.token) = way_here T settle home named.token named.trail k.no_steps k.there in
    let ends : (way_of T settle home named.token named.trail).ends ≡ Some (whole named.token) = ap (λ w. w.ends) way in
    let nothing : Clean T old.visits old.visits (way_of T settle home named.token named.trail).seen = subst (λ (w : Way). Clean T old.visits old.visits w.seen) (sym way) (clean_nil T old.visits) in
    record {
      seen = target_clean T settle (walked T branch) home (whole named.token) named.token named.trail ends nothing k.clean;
      target = record { place = whole named.token; ends = ends; means = k.means; kind = k.kind };
      links = refl;
      branch = same;
    }

-- the reference was followed to a place, which was walked
module _ (flat : Flat) (old middle new : Trace) (home named q : Place) where
  targets : (r : Result Found RefFault) → (leading home named (written_in flat) old.places.items).ends ≡ Some q → IfOk r (λ v. IsMeantAt flat q v.plain) → IfOk r (λ v. IsKindAt flat q v.kind)
      → IfOk r (IsTarget flat old home named)
  targets (Ok found) ends means kind = record { place = q; ends = ends; means = means; kind = kind }
  targets (Err f) ends means kind = tt

  branches : (r : Result Found RefFault) → IsSameBranch old middle → OnOk r (IsSameBranch middle new) → OnOk r (IsSameBranch old new)
  branches (Ok found) a b = same_then old middle new a b
  branches (Err f) a b = tt

  pub target_reached : (was is : List Link) (r : Result Found RefFault) → (leading home named (written_in flat) old.places.items).ends ≡ Some q
      → Clean (written_in flat) old.visits middle.visits (leading home named (written_in flat) old.places.items).seen → IsSameBranch old middle → HasSeen flat middle new r (walking q)
      → IfOk r (λ v. IsMeantAt flat q v.plain) → IfOk r (λ v. IsKindAt flat q v.kind) → OnOk r (is ≡ was) → OnOk r (IsSameBranch middle new)
      → HasReached flat old new home named was is r
  target_reached was is r ends seen same walk means kind links branch =
      let T = written_in flat in
      let b = old.places.items in
      let settle = settle_by T (passed T b) in
      let below : Sees T (walked T b q) middle.visits new.visits r = subst (λ x. Sees T (walked T x q) middle.visits new.visits r) same.0 walk in
      record {
        seen = sees_by T (walked T b q) (walk_written T settle (walked T b) home (Some (refers named.token named.trail))) r
            (λ d. target_clean T settle (walked T b) home q named.token named.trail ends seen d)
            (λ f h. target_then_fault T f settle (walked T b) home q named.token named.trail ends seen h) below;
        target = targets r ends means kind;
        links = links;
        branch = branches r same branch;
      }
