-- The bytes of values and fragments: `, ` between items and members, `: ` after names, and no other blank.
use Rattle.std.specs.Prelude.{ℕ, true, false, List, [], ◌++◌, codes, Option, Some, None, option_map}
use Rattle.dec_fix.specs.Decimal.{Decimal}
use Rattle.dec_fix.specs.Writing.{spelling}
use Rattle.json_span.specs.Plain.{plain_null, plain_boolean, plain_number, plain_string, plain_array, plain_object, Plains, no_plains, plains, PlainMembers, no_plain_members, plain_members}
use Rattle.json_span.specs.Spelling.{string_text}
use Rattle.name_path.specs.Kinds.{kind_name}
use Rattle.name_path.specs.Reference.{path_text}
use Rattle.composite_rules.specs.Sound.{kind_of}
use Rattle.composite_rules.specs.declared.typed.Typed.{Typed}
use Rattle.json_out.specs.PlatformValue.{Json, typed_json}
use Rattle.json_out.specs.Properties.{ExtrasData, mark_json}

abbrev mutual
  pub value_text : Json → List ℕ
  value_text plain_null = codes "null"
  value_text (plain_boolean true) = codes "true"
  value_text (plain_boolean false) = codes "false"
  value_text (plain_number d) = spelling d
  value_text (plain_string s) = string_text s
  value_text (plain_array vs) = codes "[" ++ items_text vs
  value_text (plain_object ms) = codes "{" ++ members_text ms

  -- the items, and the closing bracket
  pub items_text : Plains Decimal → List ℕ
  items_text no_plains = codes "]"
  items_text (plains v vs) = value_text v ++ more_items_text vs

  pub more_items_text : Plains Decimal → List ℕ
  more_items_text no_plains = codes "]"
  more_items_text (plains v vs) = codes ", " ++ (value_text v ++ more_items_text vs)

  -- the members, and the closing bracket
  pub members_text : PlainMembers Decimal → List ℕ
  members_text no_plain_members = codes "}"
  members_text (plain_members name v ms) = string_text name ++ (codes ": " ++ (value_text v ++ more_members_text ms))

  pub more_members_text : PlainMembers Decimal → List ℕ
  more_members_text no_plain_members = codes "}"
  more_members_text (plain_members name v ms) =
      codes ", " ++ (string_text name ++ (codes ": " ++ (value_text v ++ more_members_text ms)))

-- a member after others, where there is a text for its value
abbrev pub given_text : List ℕ → Option (List ℕ) → List ℕ
given_text name None = []
given_text name (Some text) = codes ", " ++ (string_text name ++ (codes ": " ++ text))

-- the members beside type and value: the slice of the extensions stands as it is
abbrev pub extras_text : ExtrasData → List ℕ
extras_text e = given_text (codes "$description") (option_map string_text e.description)
    ++ (given_text (codes "$extensions") e.extensions ++ given_text (codes "$deprecated") (option_map value_text (mark_json e.mark)))

abbrev pub token_text : Typed → ExtrasData → List ℕ
token_text v e = codes "{\"$type\": " ++ (string_text (kind_name (kind_of v))
    ++ (codes ", \"$value\": " ++ (value_text (typed_json v) ++ (extras_text e ++ codes "}"))))

-- two blanks, the path's string, `: ` and the token's object
abbrev pub fragment_text : List (List ℕ) → Typed → ExtrasData → List ℕ
fragment_text path v e = codes "  " ++ (string_text (path_text path) ++ (codes ": " ++ token_text v e))
