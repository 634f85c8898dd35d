-- Where the steps of a break lead.
use Rattle.std.specs.Prelude.{◌≡◌, ℕ, ◌+◌, List, [], ◌∷◌, Option, Some, None, Err, slice_get, option_and_then, if◌then◌else◌}
use Rattle.std.specs.Fmt.{decimal}
use Rattle.std.specs.Str.{bytes_eq}
use Rattle.json_span.specs.Plain.{plain_null, plain_boolean, plain_number, plain_string, plain_array, plain_object, plains_in, plain_entries_in, plain_array_in, plain_object_in}
use Rattle.json_span.specs.PlainView.{Value, ValueEntry}
use Rattle.type_rules.specs.Checked.{Checked, Break}
use Rattle.type_rules.specs.Forms.{named}

-- The steps lead from a value to a part of it: by the names of members, of which the first counts, and by the indices of items in decimal digits.
pub data Leads : List (List ℕ) → Value → Value → Type 0 where
  leads_nowhere : (v : Value) → Leads [] v v
  leads_by_name : (name : List ℕ) (steps : List (List ℕ)) (v w part : Value) (es : List ValueEntry) → plain_object_in v ≡ Some es → named name es ≡ Some w → Leads steps w part → Leads (name ∷ steps) v part
  leads_by_index : (i : ℕ) (steps : List (List ℕ)) (v w part : Value) (vs : List Value) → plain_array_in v ≡ Some vs → slice_get vs i ≡ Some w → Leads steps w part → Leads (decimal i ∷ steps) v part

-- the item whose index is written so in decimal digits; the first item has the i-th index
abbrev pub item_at : {A : Type 0} → List ℕ → ℕ → List A → Option A
item_at step i [] = None
item_at step i (x ∷ xs) = if bytes_eq (decimal i) step then Some x else item_at step (i + 1) xs

-- the part to which one step leads
abbrev pub child : List ℕ → Value → Option Value
child step plain_null = None
child step (plain_boolean b) = None
child step (plain_number k) = None
child step (plain_string s) = None
child step (plain_array vs) = item_at step 0 (plains_in vs)
child step (plain_object ms) = named step (plain_entries_in ms)

-- the part to which the steps lead
abbrev pub plain_at : Value → List (List ℕ) → Option Value
plain_at v [] = Some v
plain_at v (step ∷ steps) = option_and_then (λ w. plain_at w steps) (child step v)

-- a trail that leads to a part of the value
abbrev pub LeadsInto : Value → List (List ℕ) → Type 0
LeadsInto v steps = (part : Value) × Leads steps v part

-- what a value breaks, it breaks at a part of it
abbrev pub BreaksLead : {A : Type 0} → (Value → Checked A) → Type 0
BreaksLead check = (v : Value) (b : Break) → check v ≡ Err b → LeadsInto v b.trail
