-- The visits of a walk, in order, and the first break among them.
use Rattle.std.specs.Prelude.{ℕ, zero, suc, ◌+◌, ◌-◌, List, [], ◌∷◌, ◌++◌, length, Bool, true, false, ◌&&◌, Option, Some, None, nat_le, is_some, if◌then◌else◌}
use Rattle.std.specs.Cmp.Lexicographic.{pointwise}
use Rattle.std.specs.Str.{bytes_eq}
use Rattle.std.specs.Option.{option_or}
use Rattle.name_path.specs.declared.place.Place.{Place}
use Rattle.alias_ref.specs.declared.fault.RefRule.{RefRule}
use Rattle.alias_ref.specs.declared.fault.RefRule.TheVariants as rule
use Rattle.alias_ref.specs.Written.{Step, Written, leaf, parts, refers, misspelled, WrittenPlaces, whole, part, is_reference, is_misspelled, is_written}

-- A visit: a place that is walked or passed, with its branch, the places from the beginning down to the one before it; or a
-- reference whose way ends where nothing is written.
pub data Visit : Type 0 where
  visit : List Place → Place → Visit
  lost : Place → Visit

-- visits in order, and the place at which a way ends, where it has an end
pub record Way : Type 0 where
  pub seen : List Visit
  pub ends : Option Place

abbrev pub ends_at : Place → Way
ends_at p = record { seen = []; ends = Some p }

abbrev pub no_end : Way
no_end = record { seen = []; ends = None }

abbrev pub after_visits : List Visit → Way → Way
after_visits xs w = record { seen = xs ++ w.seen; ends = w.ends }

-- goes on from the end of a way
abbrev pub goes_on : List Visit → Option Place → (Place → Way) → Way
goes_on xs None next = record { seen = xs; ends = None }
goes_on xs (Some q) next = after_visits xs (next q)

abbrev pub then_go : Way → (Place → Way) → Way
then_go w next = goes_on w.seen w.ends next

abbrev pub same_place : Place → Place → Bool
same_place p q = pointwise bytes_eq p.token q.token && pointwise bytes_eq p.trail q.trail

-- the part of the branch from this place on
abbrev pub since : Place → List Place → Option (List Place)
since p [] = None
since p (q ∷ b) = if same_place q p then Some (q ∷ b) else since p b

-- what is written at the end of one way, or else the break of this reference
abbrev pub go_if : Bool → Place → Way → Way
go_if true home next = next
go_if false home next = record { seen = lost home ∷ []; ends = None }

-- the way of a reference's steps
unfoldable pub steps_from : WrittenPlaces → (Place → Way) → Place → Place → List Step → Way
steps_from T settle home p [] = ends_at p
steps_from T settle home p (s ∷ steps) =
    then_go (settle p) (λ q. go_if (is_written (T (part q s))) home (steps_from T settle home (part q s) steps))

-- the way of a reference, whole
abbrev pub way_of : WrittenPlaces → (Place → Way) → Place → List Step → List Step → Way
way_of T settle home token steps = go_if (is_written (T (whole token))) home (steps_from T settle home (whole token) steps)

-- passes a reference, and stays at any other place
abbrev pub settled : Bool → (Place → Way) → Place → Way
settled true pass p = pass p
settled false pass p = ends_at p

abbrev pub settle_by : WrittenPlaces → (Place → Way) → Place → Way
settle_by T pass p = settled (is_reference (T p)) pass p

abbrev pub pass_written : WrittenPlaces → (Place → Way) → Place → Option Written → Way
pass_written T settle p (Some (refers token steps)) = then_go (way_of T settle p token steps) settle
pass_written T settle p (Some misspelled) = no_end
pass_written T settle p (Some (leaf v)) = ends_at p
pass_written T settle p (Some (parts c steps)) = ends_at p
pass_written T settle p None = no_end

-- a visit that closes a ring asks for nothing
abbrev pub unless_stands : Bool → Way → Way
unless_stands true w = no_end
unless_stands false w = w

-- The visits of passing p, below this branch. At most n further places stand on a branch.
unfoldable pub pass_visits : WrittenPlaces → ℕ → List Place → Place → Way
pass_visits T zero b p = record { seen = visit b p ∷ []; ends = None }
pass_visits T (suc n) b p =
    after_visits (visit b p ∷ []) (unless_stands (is_some (since p b)) (pass_written T (settle_by T (pass_visits T n (b ++ p ∷ []))) p (T p)))

-- the visits of each part, in order
unfoldable pub visits_each : (Place → List Visit) → Place → List Step → List Visit
visits_each walk p [] = []
visits_each walk p (s ∷ steps) = walk (part p s) ++ visits_each walk p steps

abbrev pub at_end : List Visit → Option Place → (Place → List Visit) → List Visit
at_end xs None walk = xs
at_end xs (Some q) walk = xs ++ walk q

abbrev pub walk_written : WrittenPlaces → (Place → Way) → (Place → List Visit) → Place → Option Written → List Visit
walk_written T settle walk p (Some (refers token steps)) = let w = way_of T settle p token steps in at_end w.seen w.ends walk
walk_written T settle walk p (Some misspelled) = []
walk_written T settle walk p (Some (leaf v)) = []
walk_written T settle walk p (Some (parts c steps)) = visits_each walk p steps
walk_written T settle walk p None = []

-- The visits of walking p, below this branch. At most n further places stand on a branch.
unfoldable pub walk_visits : WrittenPlaces → ℕ → List Place → Place → List Visit
walk_visits T zero b p = visit b p ∷ []
walk_visits T (suc n) b p =
    visit b p ∷ (if is_some (since p b) then [] else walk_written T (settle_by T (pass_visits T n (b ++ p ∷ []))) (walk_visits T n (b ++ p ∷ [])) p (T p))

-- A break: its rule, its place, and the ring that closes, which is empty for the other rules.
pub record RefBreak : Type 0 where
  pub rule : RefRule
  pub place : Place
  pub ring : List Place

abbrev pub ref_break : RefRule → Place → RefBreak
ref_break rule place = record { rule = rule; place = place; ring = [] }

-- how many places may stand on a branch before a visit
abbrev pub most_on_branch : ℕ
most_on_branch = 256

-- how many visits may come before a visit
abbrev pub most_visits : ℕ
most_visits = 1024

-- The break of a visit that has n visits before it and this ring on its branch.
abbrev pub break_if : WrittenPlaces → ℕ → List Place → Place → Option (List Place) → Option RefBreak
break_if T n b p (Some ring) = Some (record { rule = rule.Cycle; place = p; ring = ring })
break_if T n b p None =
    if nat_le most_on_branch (length b) then Some (ref_break rule.Deep p)
    else if nat_le most_visits n then Some (ref_break rule.Big p)
    else if is_misspelled (T p) then Some (ref_break rule.RefSyntax p)
    else None

-- the break of a visit that has n visits before it
abbrev pub own_break : WrittenPlaces → ℕ → Visit → Option RefBreak
own_break T n (visit b p) = break_if T n b p (since p b)
own_break T n (lost p) = Some (ref_break rule.RefTarget p)

-- the first break, where n visits come before these
unfoldable pub first_break : WrittenPlaces → ℕ → List Visit → Option RefBreak
first_break T n [] = None
first_break T n (e ∷ es) = option_or (own_break T n e) (first_break T (n + 1) es)

-- the visits of walking and of passing a place, below this branch
unfoldable pub walked : WrittenPlaces → List Place → Place → List Visit
walked T b p = walk_visits T (most_on_branch - length b) b p

unfoldable pub passed : WrittenPlaces → List Place → Place → Way
passed T b p = pass_visits T (most_on_branch - length b) b p

-- the first break of a token's walk
abbrev pub walk_break : WrittenPlaces → List Step → Option RefBreak
walk_break T token = first_break T 0 (walked T [] (whole token))
