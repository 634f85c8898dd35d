-- The JSON forms of parts, and how the parts of a value are found.
use Rattle.std.specs.Prelude.{ℕ, ◌+◌, ◌==◌, List, [], ◌∷◌, length, slice_get, Option, Some, None, Ok, if◌then◌else◌}
use Rattle.std.specs.Fmt.{decimal}
use Rattle.std.specs.Str.{bytes_eq}
use Rattle.json_span.specs.Plain.{plain_number_in, plain_string_in, plain_array_in, plain_object_in}
use Rattle.json_span.specs.PlainView.{Value, ValueEntry}
use Rattle.dec_fix.specs.Decimal.{Decimal}
use Rattle.dec_fix.specs.Reading.{number_of}
use Rattle.type_rules.specs.declared.fault.ValueRule.TheVariants.{ValueShape, NumberWide}
use Rattle.type_rules.specs.Checked.{Checked, broken, or_broken, under, ◌>>=◌}

-- a number that is within the bounds of those that are read
unfoldable pub number_in : Value → Checked Decimal
number_in v = do
  spelling ← or_broken ValueShape (plain_number_in v)
  or_broken NumberWide (number_of spelling)

unfoldable pub text_in : Value → Checked (List ℕ)
text_in v = or_broken ValueShape (plain_string_in v)

unfoldable pub items_in : Value → Checked (List Value)
items_in v = or_broken ValueShape (plain_array_in v)

unfoldable pub members_in : Value → Checked (List ValueEntry)
members_in v = or_broken ValueShape (plain_object_in v)

-- a text is read in one way, and every other value in another
abbrev pub if_text : {A : Type 0} → Option (List ℕ) → (List ℕ → Checked A) → Checked A → Checked A
if_text None text other = other
if_text (Some t) text other = text t

-- a list of exactly so many items; another length is the list's own break
unfoldable pub items_of_length : ℕ → Value → Checked (List Value)
items_of_length n v = do
  vs ← items_in v
  if length vs == n then Ok vs else broken ValueShape

-- a list of one or more items; an empty one is the list's own break
abbrev pub one_or_more : List Value → Checked (List Value)
one_or_more [] = broken ValueShape
one_or_more (v ∷ vs) = Ok (v ∷ vs)

unfoldable pub some_items_in : Value → Checked (List Value)
some_items_in v = do
  vs ← items_in v
  one_or_more vs

-- the value of the first member of this name
abbrev pub named : List ℕ → List ValueEntry → Option Value
named name [] = None
named name (e ∷ es) = if bytes_eq e.name name then Some e.value else named name es

-- a member that must be there; where it is missing, its object has the break
abbrev pub member_value : List ℕ → List ValueEntry → Checked Value
member_value name es = or_broken ValueShape (named name es)

unfoldable pub member : {A : Type 0} → (Value → Checked A) → List ℕ → List ValueEntry → Checked A
member check name es = do
  v ← member_value name es
  under name (check v)

-- a member that may be missing, and what stands for it then
abbrev pub member_if : {A : Type 0} → (Value → Checked A) → A → List ℕ → Option Value → Checked A
member_if check absent name None = Ok absent
member_if check absent name (Some v) = under name (check v)

unfoldable pub member_or : {A : Type 0} → (Value → Checked A) → A → List ℕ → List ValueEntry → Checked A
member_or check absent name es = member_if check absent name (named name es)

-- the i-th item
abbrev pub item_value : ℕ → List Value → Checked Value
item_value i vs = or_broken ValueShape (slice_get vs i)

unfoldable pub item : {A : Type 0} → (Value → Checked A) → ℕ → List Value → Checked A
item check i vs = do
  v ← item_value i vs
  under (decimal i) (check v)

-- each item, of which the first is the i-th
abbrev pub each : {A : Type 0} → (Value → Checked A) → ℕ → List Value → Checked (List A)
each check i [] = Ok []
each check i (v ∷ vs) = do
  x ← under (decimal i) (check v)
  xs ← each check (i + 1) vs
  Ok (x ∷ xs)

-- each item of a list
unfoldable pub list_in : {A : Type 0} → (Value → Checked A) → Value → Checked (List A)
list_in check v = do
  vs ← items_in v
  each check 0 vs

-- each item of a list of one or more
unfoldable pub some_in : {A : Type 0} → (Value → Checked A) → Value → Checked (List A)
some_in check v = do
  vs ← some_items_in v
  each check 0 vs
