-- What the tokens of a flat tree come to: the value that each has, the rule that it breaks first, and what it gives
-- to each platform.
use Rattle.std.specs.FinMap as finite
use Rattle.json_out.specs.Spelling as on_json
use Rattle.ios_out.specs.Spelling as on_swift
use Rattle.ios_out.specs.Sheets as swift_names
use Rattle.android_out.specs.Spelling as on_android
use Rattle.android_out.specs.Sheets as android_names
use Rattle.json_out.specs.Sheets.{AreBytes}
use Rattle.json_out.specs.Properties.{ExtrasData}
use Rattle.token_tree.specs.declared.mark.Mark.TheVariants.{No}
use Rattle.group_inherit.specs.Merging.{either}
use Rattle.std.specs.Prelude.{◌≡◌, ℕ, List, [], Ok, Err, None, Some, ◌<◌, ◌^◌, unwrap_or}
use Rattle.std.specs.List.{AllZip}
use Rattle.json_span.specs.PlainView.{Value as Plain}
use Rattle.name_path.specs.declared.kind.Kind.{Kind}
use Rattle.name_path.specs.declared.link.Link.{Link}
use Rattle.name_path.specs.declared.place.Place.{Place}
use Rattle.group_inherit.specs.Flattening.{TokenAt, Flattened}
use Rattle.alias_ref.specs.Answer.{IsFirstBreak}
use Rattle.alias_ref.specs.Kinds.{KindOf, LinksAt, own_in, group_in}
use Rattle.alias_ref.specs.Laws.{Flat}
use Rattle.alias_ref.specs.Meaning.{Means}
use Rattle.alias_ref.specs.Visits.{walk_break, RefBreak}
use Rattle.alias_ref.specs.Written.{whole, written_in}
use Rattle.type_rules.specs.Checked.{Break as ValueBreak}
use Rattle.composite_rules.specs.Value.{value_of}
use Rattle.composite_rules.specs.declared.typed.Typed.{Typed}
use Rattle.transforms.specs.Config.{Settings}
use Rattle.transforms.specs.Frag.{Frag}
use Rattle.css_out.specs.Sources.{HasRoom, IsNamed}
use Rattle.css_out.specs.Spelling.{fragment_names, fragment_text}
use Rattle.refusals.specs.declared.rule.CellRule.{CellRule}
use Rattle.refusals.specs.declared.rule.CellRule.TheVariants.{Ref, Value}
use Rattle.token_cells.specs.TokenCell.{TokenCell, Refused, Made}

-- the names of a token's path
abbrev pub TokenPath : Type 0
TokenPath = List (List ℕ)

-- the references of the token break no rule, its kind is this one, and its whole value means that
pub record IsMeant (flat : Flat) (path : TokenPath) (kind : Kind) (meaning : Plain) : Type 0 where
  pub unbroken : walk_break (written_in flat) path ≡ None
  pub kind_of : KindOf (written_in flat) (own_in flat) (group_in flat) path (Some kind)
  pub means : Means (written_in flat) (whole path) meaning

-- The token has this value: what its whole value means, read under its kind. These are the references without steps
-- that are written in it.
pub record IsValueOf (flat : Flat) (settings : Settings) (path : TokenPath) (typed : Typed) (links : List Link) : Type 0 where
  pub kind : Kind
  pub meaning : Plain
  pub meant : IsMeant flat path kind meaning
  pub is_typed : value_of settings.legacy kind meaning ≡ Ok typed
  pub are_links : LinksAt (written_in flat) (own_in flat) (group_in flat) (whole path) links

-- A rule that a token breaks, the place where it does, which may stand in another token, and the places of a ring.
pub record TokenBreak : Type 0 where
  pub rule : CellRule
  pub place : Place
  pub ring : List Place

abbrev pub token_break : CellRule → Place → List Place → TokenBreak
token_break rule place ring = record { rule = rule; place = place; ring = ring }

abbrev pub of_reference : RefBreak → TokenBreak
of_reference b = token_break (Ref b.rule) b.place b.ring

abbrev pub of_value : TokenPath → ValueBreak → TokenBreak
of_value path b = token_break (Value b.rule) (record { token = path; trail = b.trail }) []

-- The first rule that a token breaks: that of its references, then that its kind is missing, then that of its value.
pub data IsTokenBreak (flat : Flat) (settings : Settings) (path : TokenPath) : TokenBreak → Type 0 where
  by_reference : {t : TokenBreak} (b : RefBreak) → IsFirstBreak flat path b → t ≡ of_reference b → IsTokenBreak flat settings path t
  by_value : {t : TokenBreak} (kind : Kind) (meaning : Plain) (b : ValueBreak) → IsMeant flat path kind meaning
      → value_of settings.legacy kind meaning ≡ Err b → t ≡ of_value path b → IsTokenBreak flat settings path t

-- What the token of a value gives to a style sheet: the names of its values, and its lines. The lists of the value
-- have no more items than memory has places, and a path of the Format Module has a name of CSS.
pub record IsCssOf (settings : Settings) (path : TokenPath) (typed : Typed) (links : List Link) (css : Frag) : Type 0 where
  pub names : css.names ≡ fragment_names settings path typed
  pub body : css.body ≡ fragment_text settings path links typed
  pub room : HasRoom typed
  pub named : IsNamed settings path

-- What it gives to a resource file of Android, and to a file of Swift: the names of its values, and its lines. The
-- pixels of a rem are held in a byte, and a path of the Format Module has a name there.
pub record IsAndroidOf (settings : Settings) (path : TokenPath) (typed : Typed) (android : Frag) : Type 0 where
  pub names : android.names ≡ on_android.fragment_names settings path typed
  pub body : android.body ≡ on_android.fragment_text settings path typed
  pub base : settings.rem_base < 2 ^ 8
  pub named : android_names.IsNamed settings path

pub record IsSwiftOf (settings : Settings) (path : TokenPath) (typed : Typed) (ios : Frag) : Type 0 where
  pub names : ios.names ≡ on_swift.fragment_names settings path typed
  pub body : ios.body ≡ on_swift.fragment_text settings path typed
  pub base : settings.rem_base < 2 ^ 8
  pub named : swift_names.IsNamed settings path

-- What it gives to a JSON file: its member, and no name. All texts are of bytes.
pub record IsJsonOf (path : TokenPath) (typed : Typed) (extras : ExtrasData) (json : Frag) : Type 0 where
  pub names : json.names ≡ []
  pub body : json.body ≡ on_json.fragment_text path typed extras
  pub bytes : AreBytes path typed extras

-- what JSON shows of a token beside its value: the mark that holds is its own, else that of the nearest group upwards
-- that has one
abbrev pub extras_of : Flattened → ExtrasData
extras_of f = record {
  description = f.def.description;
  extensions = f.def.extensions;
  mark = unwrap_or (either f.def.deprecated f.group_mark) No;
}

-- what the token of a value gives to each platform
pub record GivesAll (settings : Settings) (path : TokenPath) (entry : Flattened) (typed : Typed) (links : List Link)
    (css android ios json : Frag) : Type 0 where
  pub css_of : IsCssOf settings path typed links css
  pub android_of : IsAndroidOf settings path typed android
  pub ios_of : IsSwiftOf settings path typed ios
  pub json_of : IsJsonOf path typed (extras_of entry) json

-- the token has a value, and this is what it gives to each platform
pub record IsMade (flat : Flat) (settings : Settings) (path : TokenPath) (css android ios json : Frag) : Type 0 where
  pub typed : Typed
  pub links : List Link
  pub value : IsValueOf flat settings path typed links
  pub entry : Flattened
  pub there : finite.get flat path ≡ Some entry
  pub gives : GivesAll settings path entry typed links css android ios json

-- What a token comes to: the first rule that it breaks, or what it gives to each platform.
abbrev pub IsCell : Flat → Settings → TokenPath → TokenCell → Type 0
IsCell flat settings path (Refused rule place ring) = IsTokenBreak flat settings path (token_break rule place ring)
IsCell flat settings path (Made css android ios json) = IsMade flat settings path css android ios json

-- those of the tokens, in their order
abbrev pub AreCells : Flat → Settings → List TokenAt → List TokenCell → Type 0
AreCells flat settings tokens cells = AllZip (λ token cell. IsCell flat settings token.0 cell) tokens cells
