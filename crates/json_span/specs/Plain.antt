-- JSON values without their places; K is what is kept of a number.
use Rattle.std.specs.Prelude.{ℕ, List, [], ◌∷◌, Bool, Option, Some, None}

mutual
  pub data PlainValue (K : Type 0) : Type 0 where
    plain_null : PlainValue K
    plain_boolean : Bool → PlainValue K
    plain_number : K → PlainValue K
    plain_string : List ℕ → PlainValue K
    plain_array : Plains K → PlainValue K
    plain_object : PlainMembers K → PlainValue K

  pub data Plains (K : Type 0) : Type 0 where
    no_plains : Plains K
    plains : PlainValue K → Plains K → Plains K

  -- a name and its value
  pub data PlainMembers (K : Type 0) : Type 0 where
    no_plain_members : PlainMembers K
    plain_members : List ℕ → PlainValue K → PlainMembers K → PlainMembers K

-- a member by itself
pub record PlainEntry (K : Type 0) : Type 0 where
  pub name : List ℕ
  pub value : PlainValue K

abbrev pub plains_of : {K : Type 0} → List (PlainValue K) → Plains K
plains_of [] = no_plains
plains_of (v ∷ vs) = plains v (plains_of vs)

abbrev pub plain_members_of : {K : Type 0} → List (PlainEntry K) → PlainMembers K
plain_members_of [] = no_plain_members
plain_members_of (e ∷ es) = plain_members e.name e.value (plain_members_of es)

abbrev pub plains_in : {K : Type 0} → Plains K → List (PlainValue K)
plains_in no_plains = []
plains_in (plains v vs) = v ∷ plains_in vs

abbrev pub plain_entries_in : {K : Type 0} → PlainMembers K → List (PlainEntry K)
plain_entries_in no_plain_members = []
plain_entries_in (plain_members name value ms) = record { name = name; value = value } ∷ plain_entries_in ms

-- what a value is, if it is that
abbrev pub plain_boolean_in : {K : Type 0} → PlainValue K → Option Bool
plain_boolean_in plain_null = None
plain_boolean_in (plain_boolean b) = Some b
plain_boolean_in (plain_number k) = None
plain_boolean_in (plain_string s) = None
plain_boolean_in (plain_array vs) = None
plain_boolean_in (plain_object ms) = None

abbrev pub plain_number_in : {K : Type 0} → PlainValue K → Option K
plain_number_in plain_null = None
plain_number_in (plain_boolean b) = None
plain_number_in (plain_number k) = Some k
plain_number_in (plain_string s) = None
plain_number_in (plain_array vs) = None
plain_number_in (plain_object ms) = None

abbrev pub plain_string_in : {K : Type 0} → PlainValue K → Option (List ℕ)
plain_string_in plain_null = None
plain_string_in (plain_boolean b) = None
plain_string_in (plain_number k) = None
plain_string_in (plain_string s) = Some s
plain_string_in (plain_array vs) = None
plain_string_in (plain_object ms) = None

abbrev pub plain_array_in : {K : Type 0} → PlainValue K → Option (List (PlainValue K))
plain_array_in plain_null = None
plain_array_in (plain_boolean b) = None
plain_array_in (plain_number k) = None
plain_array_in (plain_string s) = None
plain_array_in (plain_array vs) = Some (plains_in vs)
plain_array_in (plain_object ms) = None

abbrev pub plain_object_in : {K : Type 0} → PlainValue K → Option (List (PlainEntry K))
plain_object_in plain_null = None
plain_object_in (plain_boolean b) = None
plain_object_in (plain_number k) = None
plain_object_in (plain_string s) = None
plain_object_in (plain_array vs) = None
plain_object_in (plain_object ms) = Some (plain_entries_in ms)
