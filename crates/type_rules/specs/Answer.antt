-- How the code tells a break. Memory may always run out.
use Rattle.std.specs.Prelude.{◌≡◌, ℕ, List, ◌∷◌, Ok, Err}
use Rattle.std.specs.Borrow.{Bor}
use Rattle.json_span.specs.declared.plain.Plain.{Plain}
use Rattle.json_span.specs.declared.plain.PlainItems.{PlainItems}
use Rattle.json_span.specs.declared.plain.PlainFields.{PlainFields}
use Rattle.json_span.specs.PlainView.{Value, ValueEntry, plain_view, plain_items_view, plain_fields_view}
use Rattle.type_rules.specs.declared.fault.ValueFault.{ValueFault}
use Rattle.type_rules.specs.declared.fault.ValueFault.TheVariants.{Broken, NoMemory}
use Rattle.type_rules.specs.Checked.{Checked}
use Rattle.type_rules.specs.Forms.{member, item}

-- this is what checking the value finds
abbrev pub IsFound : {A : Type 0} → Checked A → A → Type 0
IsFound found x = found ≡ Ok x

-- the same of what the code hands out by reference
abbrev pub AreItems : Checked (List Value) → Bor PlainItems → Type 0
AreItems found items = found ≡ Ok (plain_items_view items.now)

abbrev pub AreMembers : Checked (List ValueEntry) → Bor PlainFields → Type 0
AreMembers found members = found ≡ Ok (plain_fields_view members.now)

abbrev pub IsThere : Checked Value → Bor Plain → Type 0
IsThere found plain = found ≡ Ok (plain_view plain.now)

-- what is found of the code's values, members and items
abbrev pub seen : {B : Type 0} → (Value → B) → Plain → B
seen f plain = f (plain_view plain)

abbrev pub among : {B : Type 0} → (List ValueEntry → B) → PlainFields → B
among f members = f (plain_fields_view members)

abbrev pub along : {B : Type 0} → (List Value → B) → PlainItems → B
along f items = f (plain_items_view items)

-- the member under a name, and the i-th item
abbrev pub member_of : {A : Type 0} → (Value → Checked A) → List ℕ → PlainFields → Checked A
member_of check name members = among (member check name) members

abbrev pub item_of : {A : Type 0} → (Value → Checked A) → ℕ → PlainItems → Checked A
item_of check i items = along (item check i) items

-- the fault is what checking the value finds
abbrev pub IsBreak : {A : Type 0} → Checked A → ValueFault → Type 0
IsBreak found (Broken rule trail) = found ≡ Err (record { rule = rule; trail = trail })
IsBreak found NoMemory = Unit {0}

-- the second fault is the first one, seen from the value that holds the part under this step
abbrev pub IsOutside : List ℕ → ValueFault → ValueFault → Type 0
IsOutside step (Broken rule trail) (Broken r t) = (r ≡ rule) × (t ≡ step ∷ trail)
IsOutside step (Broken rule trail) NoMemory = Unit {0}
IsOutside step NoMemory (Broken r t) = ⊥
IsOutside step NoMemory NoMemory = Unit {0}
