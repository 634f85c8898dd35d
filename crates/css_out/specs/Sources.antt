-- Where the references in a token's lines come from.
use Rattle.std.specs.Prelude.{◌≡◌, true, ℕ, ◌^◌, ◌≤◌, length, List, Some, ⊤}
use Rattle.std.specs.List.{AllByRecursion}
use Rattle.name_path.specs.Names.{IsTokenPath}
use Rattle.name_path.specs.declared.link.Link.{Link}
use Rattle.transforms.specs.Config.{Settings}
use Rattle.transforms.specs.PlatformName.{is_property}
use Rattle.composite_rules.specs.Parts.{part_at}
use Rattle.composite_rules.specs.Sound.{kind_of}
use Rattle.composite_rules.specs.declared.typed.Typed.{Typed}
use Rattle.composite_rules.specs.declared.typed.Typed.TheVariants as typed
use Rattle.ring.specs.Lists.{In}
use Rattle.css_out.specs.Piece.{Mark}
use Rattle.css_out.specs.Reading.{Block}
use Rattle.css_out.specs.Spelling.{lines_under}
use Rattle.css_out.specs.Parts.{Part, plain, linked}
use Rattle.css_out.specs.PlatformValue.{css_values}
use Rattle.css_out.specs.Fragment.{css_name}

-- the tokens to which links lead have names of CSS
abbrev pub TargetsAreNamed : List ℕ → List Link → Type 0
TargetsAreNamed prefix links = AllByRecursion (λ l. is_property (css_name prefix l.target) ≡ true) links

-- the path, as one that a token can have, has a name of CSS
abbrev pub IsNamed : Settings → List (List ℕ) → Type 0
IsNamed settings path = IsTokenPath path → is_property (css_name settings.prefix path) ≡ true

-- The text is read as the lines of the token of the name, where it and the names that the links lead to are names of CSS.
abbrev pub IsReadUnder : Settings → List ℕ → List Link → Typed → List ℕ → Type 0
IsReadUnder settings name links v text =
    is_property name ≡ true → TargetsAreNamed settings.prefix links → Block text (lines_under settings name links v)

-- A part that is spelled by a name comes from a link: what stands there in the value has the kind of the link's token, and
-- under the name of that token this name has the part's own marks.
pub record IsFrom (prefix : List ℕ) (links : List Link) (v : Typed) (name : List ℕ) (marks : List Mark) : Type 0 where
  pub link : Link
  pub listed : In link links
  pub there : Typed
  pub stands : part_at v link.trail ≡ Some there
  pub kind : link.kind ≡ Some (kind_of there)
  pub among : In (name, marks) (css_values (css_name prefix link.target) there)

abbrev pub ComesFrom : List ℕ → List Link → Typed → Part → Type 0
ComesFrom prefix links v (plain marks) = ⊤
ComesFrom prefix links v (linked name marks) = IsFrom prefix links v name marks

-- lists of a value have no more items than memory has places
abbrev pub HasRoom : Typed → Type 0
HasRoom (typed.Simple s) = ⊤
HasRoom (typed.StrokeStyle s) = ⊤
HasRoom (typed.Border b) = ⊤
HasRoom (typed.Transition t) = ⊤
HasRoom (typed.Shadow items) = length items ≤ 2 ^ 64
HasRoom (typed.Gradient stops) = length stops ≤ 2 ^ 64
HasRoom (typed.Typography t) = ⊤
