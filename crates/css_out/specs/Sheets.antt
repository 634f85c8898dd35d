-- Whole sheets: the texts of tokens, one after another in the frame.
use Rattle.std.specs.Prelude.{◌≡◌, true, ℕ, suc, List, [], ◌∷◌, map, flat_map, Some, AllPairs, ⊤}
use Rattle.name_path.specs.declared.link.Link.{Link}
use Rattle.transforms.specs.Clash.{NamedToken, ShareNoName}
use Rattle.transforms.specs.Config.{Settings}
use Rattle.transforms.specs.PlatformName.{is_property}
use Rattle.transforms.specs.Sheet.{FrameData, plain_frame, sheet_text}
use Rattle.composite_rules.specs.Parts.{part_at}
use Rattle.composite_rules.specs.Sound.{kind_of, IsTyped}
use Rattle.composite_rules.specs.declared.typed.Typed.{Typed}
use Rattle.ring.specs.Lists.{In, Each}
use Rattle.css_out.specs.Piece.{Mark, Values}
use Rattle.css_out.specs.PlatformValue.{css_values}
use Rattle.css_out.specs.Reading.{head, foot}
use Rattle.css_out.specs.Rounds.{HasValue, most_links}
use Rattle.css_out.specs.Parts.{Part, plain, linked, NamedParts}
use Rattle.css_out.specs.Fragment.{css_name, fragment_entries}
use Rattle.css_out.specs.Spelling.{fragment_names, fragment_text}
use Rattle.css_out.specs.Sources.{HasRoom}

-- a token of a sheet: its path, the links in its value, and its value
pub record Cell : Type 0 where
  pub path : List (List ℕ)
  pub links : List Link
  pub typed : Typed

-- what stands around the texts
abbrev pub css_frame : FrameData
css_frame = plain_frame head foot

module _ (settings : Settings) where
  abbrev pub cell_name : Cell → List ℕ
  cell_name c = css_name settings.prefix c.path

  -- its lines, and their text
  abbrev pub cell_entries : Cell → List NamedParts
  cell_entries c = fragment_entries settings c.path c.links c.typed

  abbrev pub cell_text : Cell → List ℕ
  cell_text c = fragment_text settings c.path c.links c.typed

  -- what it is to have
  abbrev pub cell_values : Cell → Values
  cell_values c = css_values (cell_name c) c.typed

  abbrev pub cell_names : Cell → NamedToken
  cell_names c = record { path = c.path; names = fragment_names settings c.path c.typed }

  -- the bytes of the sheet, and what its names are to have
  abbrev pub sheet_bytes : List Cell → List ℕ
  sheet_bytes cells = sheet_text css_frame (map cell_text cells)

  abbrev pub sheet_values : List Cell → Values
  sheet_values cells = flat_map cell_values cells

-- The cell that a link leads to: that of the link's token. What stands at the link's trail is this token's value, where it has
-- the kind of the token.
pub record LeadsTo (from : Cell) (link : Link) (to : Cell) : Type 0 where
  pub target : to.path ≡ link.target
  pub same : (part : Typed) → part_at from.typed link.trail ≡ Some part → link.kind ≡ Some (kind_of part)
      → to.typed ≡ part

-- Each of these links of a cell leads to a cell of the sheet, and at most k links stand one after the other.
pub data LinksLead (cells : List Cell) : ℕ → Cell → List Link → Type 0 where
  no_links : {k : ℕ} {from : Cell} → LinksLead cells k from []
  link_leads : {k : ℕ} {from : Cell} {link : Link} {links : List Link} (to : Cell) → In to cells
      → LeadsTo from link to → LinksLead cells k to to.links
      → LinksLead cells (suc k) from links → LinksLead cells (suc k) from (link ∷ links)

-- Tokens that make a sheet: their values can be had and their names are names of CSS, no two of them have a name in common, and
-- at most `most_links` links stand one after the other.
pub record IsSheet (settings : Settings) (cells : List Cell) : Type 0 where
  pub typed : Each cells (λ c. IsTyped c.typed)
  pub room : Each cells (λ c. HasRoom c.typed)
  pub named : Each cells (λ c. is_property (cell_name settings c) ≡ true)
  pub apart : AllPairs ShareNoName (map (cell_names settings) cells)
  pub links : Each cells (λ c. LinksLead cells most_links c c.links)

-- The name is one of the token to which a link of the cell leads, which is what stands at the link's trail. It has the marks as
-- its value, by what the token is to have and in the sheet.
pub record IsReference (settings : Settings) (cells : List Cell) (from : Cell) (name : List ℕ) (marks : List Mark) : Type 0 where
  pub link : Link
  pub listed : In link from.links
  pub to : Cell
  pub there : In to cells
  pub target : to.path ≡ link.target
  pub stands : part_at from.typed link.trail ≡ Some to.typed
  pub kind : link.kind ≡ Some (kind_of to.typed)
  pub among : In (name, marks) (cell_values settings to)
  pub value : HasValue (sheet_bytes settings cells) name marks

abbrev pub Refers : Settings → List Cell → Cell → Part → Type 0
Refers settings cells from (plain marks) = ⊤
Refers settings cells from (linked name marks) = IsReference settings cells from name marks
