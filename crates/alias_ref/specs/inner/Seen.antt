-- What a walk found, against the visits of the definition.
use Rattle.std.specs.Prelude.{◌≡◌, ℕ, ◌+◌, List, length, true, Option, Some, None, Result, Ok, Err, MatchResult, [], ◌∷◌}
use Rattle.name_path.specs.declared.place.Place.{Place}
use Rattle.alias_ref.specs.Written.{Step, Container, parts, WrittenPlaces, part, is_written}
use Rattle.alias_ref.specs.Visits.{Visit, RefBreak, ref_break, own_break, first_break}
use Rattle.alias_ref.specs.declared.fault.RefFault.{RefFault}
use Rattle.alias_ref.specs.declared.fault.RefFault.TheVariants as faults
use Rattle.alias_ref.specs.declared.fault.RefRule.TheVariants as rule

-- no visit breaks, and m counts them after the n before
pub record Clean (T : WrittenPlaces) (n m : ℕ) (es : List Visit) : Type 0 where
  pub unbroken : first_break T n es ≡ None
  pub counted : m ≡ n + length es

-- The fault is this break, unless memory ran out.
abbrev pub IsFault : RefFault → Option RefBreak → Type 0
IsFault (faults.Broken r p ring) b = b ≡ Some (record { rule = r; place = p; ring = ring })
IsFault faults.NoMemory b = Unit {0}

-- The fault is that the target of the reference at the place is lost, and this is why, unless memory ran out.
abbrev pub IsLost : RefFault → Place → Type 0 → Type 0
IsLost (faults.Broken r p ring) home why = IsFault (faults.Broken r p ring) (Some (ref_break rule.RefTarget home)) × why
IsLost faults.NoMemory home why = Unit {0}

-- the visit was begun, where it breaks no rule
abbrev pub HasBegun : {X : Type 0} → WrittenPlaces → ℕ → Visit → Result X RefFault → Type 0
HasBegun T n v r = MatchResult r (λ _. own_break T n v ≡ None) (λ f. IsFault f (own_break T n v))

abbrev pub Sees : {X : Type 0} → WrittenPlaces → List Visit → ℕ → ℕ → Result X RefFault → Type 0
Sees T es n m (Ok x) = Clean T n m es
Sees T es n m (Err f) = IsFault f (first_break T n es)

abbrev pub AllWritten : WrittenPlaces → Place → List Step → Type 0
AllWritten T p [] = Unit {0}
AllWritten T p (s ∷ steps) = (is_written (T (part p s)) ≡ true) × AllWritten T p steps

-- the parts of each written value are written
abbrev pub HasParts : WrittenPlaces → Type 0
HasParts T = (p : Place) (c : Container) (steps : List Step) → T p ≡ Some (parts c steps) → AllWritten T p steps
