-- What JSON is to receive of a token: its type, its value, and the properties that stand beside them (Format Module 2025.10).
use Rattle.std.specs.Prelude.{ℕ, true, List, [], ◌∷◌, ◌++◌, codes, Option, Some, None, option_map, ⊤}
use Rattle.json_span.specs.Plain.{plain_boolean, plain_string}
use Rattle.name_path.specs.Kinds.{kind_name}
use Rattle.name_path.specs.Reference.{path_text}
use Rattle.token_tree.specs.declared.mark.Mark.{Mark}
use Rattle.token_tree.specs.declared.mark.Mark.TheVariants.{No, Yes, Because}
use Rattle.composite_rules.specs.Sound.{kind_of}
use Rattle.composite_rules.specs.declared.typed.Typed.{Typed}
use Rattle.json_out.specs.declared.extras.Extras.{Extras}
use Rattle.json_out.specs.PlatformValue.{Json, Member, member_json, object_json, typed_json}
use Rattle.json_out.specs.Reading.{IsJson}

-- the description, the slice of the source that is the object of the extensions, and the mark that holds for the token
pub record ExtrasData : Type 0 where
  pub description : Option (List ℕ)
  pub extensions : Option (List ℕ)
  pub mark : Mark

abbrev pub extras_view : Extras → ExtrasData
extras_view e =
    record { description = option_map (λ t. t.now) e.description; extensions = option_map (λ t. t.now) e.extensions; mark = e.mark }

-- the extensions, where given, have this value
abbrev pub HaveValue : Option (List ℕ) → Option Json → Type 0
HaveValue None None = ⊤
HaveValue None (Some v) = ⊥
HaveValue (Some text) None = ⊥
HaveValue (Some text) (Some v) = IsJson text v

-- a token that is not deprecated says nothing of it
abbrev pub mark_json : Mark → Option Json
mark_json No = None
mark_json Yes = Some (plain_boolean true)
mark_json (Because reason) = Some (plain_string reason)

-- a member, where there is a value for it
abbrev pub given : List ℕ → Option Json → List Member
given name None = []
given name (Some v) = member_json name v ∷ []

-- the members of a token whose extensions have this value
abbrev pub token_members : Typed → ExtrasData → Option Json → List Member
token_members v e extensions =
    member_json (codes "$type") (plain_string (kind_name (kind_of v)))
    ∷ member_json (codes "$value") (typed_json v)
    ∷ (given (codes "$description") (option_map plain_string e.description)
    ++ (given (codes "$extensions") extensions ++ given (codes "$deprecated") (mark_json e.mark)))

-- the member of the token at the path: its name is the path's names, joined by `.`
abbrev pub token_member : List (List ℕ) → Typed → ExtrasData → Option Json → Member
token_member path v e extensions = member_json (path_text path) (object_json (token_members v e extensions))
