-- Values whose texts are UTF-8 and whose lists are not long.
use Rattle.std.specs.Prelude.{◌≤◌, ℕ, List, length}
use Rattle.std.specs.Str.{IsUtf8}
use Rattle.json_span.specs.Plain.{PlainValue, plain_null, plain_boolean, plain_number, plain_string, plain_array, plain_object, Plains, no_plains, plains, PlainMembers, no_plain_members, plain_members, plains_in, plain_entries_in}
use Rattle.json_span.specs.Says.{SaysText}

abbrev mutual
  -- each string and each name is UTF-8, and each array and each object has at most n parts
  pub FitsIn : {K : Type 0} → ℕ → PlainValue K → Type 0
  FitsIn n plain_null = Unit {0}
  FitsIn n (plain_boolean b) = Unit {0}
  FitsIn n (plain_number k) = Unit {0}
  FitsIn n (plain_string s) = IsUtf8 s
  FitsIn n (plain_array vs) = (length (plains_in vs) ≤ n) × ItemsFitIn n vs
  FitsIn n (plain_object ms) = (length (plain_entries_in ms) ≤ n) × MembersFitIn n ms

  pub ItemsFitIn : {K : Type 0} → ℕ → Plains K → Type 0
  ItemsFitIn n no_plains = Unit {0}
  ItemsFitIn n (plains v vs) = FitsIn n v × ItemsFitIn n vs

  pub MembersFitIn : {K : Type 0} → ℕ → PlainMembers K → Type 0
  MembersFitIn n no_plain_members = Unit {0}
  MembersFitIn n (plain_members s v ms) = IsUtf8 s × FitsIn n v × MembersFitIn n ms

-- what a text of UTF-8 says has strings and names of UTF-8, and no list in it has more parts than the text has bytes
abbrev pub SaidFits : Type 0 → Type 0
SaidFits K = (num : List ℕ → K) (text : List ℕ) (v : PlainValue K) (n : ℕ) → IsUtf8 text → length text ≤ n →
    SaysText num text v → FitsIn n v
