-- Rows that stand one behind another in files, so that their lines and names can be copied at once.
use Rattle.std.specs.Prelude.{◌≡◌, ◌≤◌, ◌<◌, ◌+◌, ◌-◌, ℕ, List, [], ◌++◌, true, Option, Some, All, length, map, slice_range}
use Rattle.std.specs.List.{AllZip, slice_get}
use Rattle.group_inherit.specs.Flattening.{TokenAt}
use Rattle.alias_ref.specs.Laws.{Flat}
use Rattle.transforms.specs.Config.{Settings}
use Rattle.transforms.specs.Extent.{text_in}
use Rattle.transforms.specs.Sheet.{are_some, glued}
use Rattle.transforms.specs.declared.extent.Extent.{Extent}
use Rattle.token_cells.specs.Cell.{IsCell}
use Rattle.token_cells.specs.Sheets.{frame_for}
use Rattle.token_cells.specs.declared.block.Block.{Block}
use Rattle.token_cells.specs.declared.block.Found.{Found}
use Rattle.token_cells.specs.declared.block.Glues.{Glues}
use Rattle.token_cells.specs.declared.format.Format.{Format}
use Rattle.token_cells.specs.declared.format.Format.TheVariants.{Css, Android, Swift, Json}
use Rattle.token_cells.specs.declared.keeping.Kept.{Kept}
use Rattle.token_cells.specs.declared.pages.OpenPages.{OpenPages}
use Rattle.token_cells.specs.declared.row.Fragments.{Fragments}
use Rattle.token_cells.specs.declared.row.Row.{Row}
use Rattle.token_cells.specs.declared.row.Row.TheVariants.{Unbroken}
use Rattle.token_cells.specs.declared.row.Run.{Run}
use Rattle.token_cells.specs.declared.row.Shown.{Shown}
use Rattle.token_cells.specs.TokenCell.{TokenCell}
use Rattle.token_cells.specs.inner.AddedToPages.{AddsBody, AddsNames, Grows, HoldAll}
use Rattle.token_cells.specs.inner.Kept.{PageTexts, fragments_view, kept_view, names_in, open_texts, rows_view, texts_of}

-- By format: the lines of a token, those of a block, the file in which they stand, and the glue between.

abbrev pub lines_on : Format → Fragments → Extent
lines_on Css f = f.css.lines
lines_on Android f = f.android.lines
lines_on Swift f = f.swift.lines
lines_on Json f = f.json

abbrev pub block_on : Format → Block → Extent
block_on Css b = b.css
block_on Android b = b.android
block_on Swift b = b.swift
block_on Json b = b.json

abbrev pub text_on : Format → PageTexts → List ℕ
text_on Css p = p.css
text_on Android p = p.android
text_on Swift p = p.swift
text_on Json p = p.json

abbrev pub glue_on : Format → Glues → List ℕ
glue_on Css g = g.css.now
glue_on Android g = g.android.now
glue_on Swift g = g.swift.now
glue_on Json g = g.json.now

-- Blocks as they are found.

-- all from the first lines to the end of the last
abbrev pub up_to : Extent → Extent → Extent
up_to first last = record { start = first.start; end = last.end }

abbrev pub block_between : Fragments → Fragments → Block
block_between first last = record {
  css = up_to first.css.lines last.css.lines;
  android = up_to first.android.lines last.android.lines;
  swift = up_to first.swift.lines last.swift.lines;
  json = up_to first.json last.json;
  names = record { start = first.css.names.start; end = last.swift.names.end };
}

-- this lies between these places
pub record LiesIn (start end first last : ℕ) : Type 0 where
  pub start_is : start ≤ first
  pub order : first ≤ last
  pub end_is : last ≤ end

-- the names begin at this place or behind it, and end with those in Swift
pub record AreNamesFrom (start : ℕ) (f : Fragments) : Type 0 where
  pub css : LiesIn start f.swift.names.end f.css.names.start f.css.names.end
  pub android : LiesIn start f.swift.names.end f.android.names.start f.android.names.end
  pub swift : LiesIn start f.swift.names.end f.swift.names.start f.swift.names.end

-- nothing of the fragments ends before it starts
pub record AreInOrder (f : Fragments) : Type 0 where
  pub lines : (format : Format) → (lines_on format f).start ≤ (lines_on format f).end
  pub names : AreNamesFrom f.css.names.start f

-- the lines stand in the text behind the glue, which begins there
pub record IsBehind (text : List ℕ) (end : ℕ) (glue : List ℕ) (lines : Extent) : Type 0 where
  pub behind : end ≤ lines.start
  pub order : lines.start ≤ lines.end
  pub glue_is : slice_range text end lines.start ≡ glue

-- the next fragments stand in the files right behind the last and the glue
pub record AreNext (pages : PageTexts) (glues : Glues) (last next : Fragments) : Type 0 where
  pub lines : (format : Format) → IsBehind (text_on format pages) (lines_on format last).end (glue_on format glues) (lines_on format next)
  pub names : AreNamesFrom last.swift.names.end next

-- the fragments are some of those of the block
pub record StandsIn (b : Block) (f : Fragments) : Type 0 where
  pub lines : (format : Format) → LiesIn (block_on format b).start (block_on format b).end (lines_on format f).start (lines_on format f).end
  pub css : LiesIn b.names.start b.names.end f.css.names.start f.css.names.end
  pub android : LiesIn b.names.start b.names.end f.android.names.start f.android.names.end
  pub swift : LiesIn b.names.start b.names.end f.swift.names.start f.swift.names.end

-- what stands there are these bodies, of which there are some, with the glue between
pub record AreJoined (text glue : List ℕ) (lines : Extent) (bodies : List (List ℕ)) : Type 0 where
  pub order : lines.start ≤ lines.end
  pub some : are_some bodies ≡ true
  pub text_is : text_in text lines ≡ glued glue bodies

-- the bodies of fragments in a file
abbrev pub bodies_in : Format → PageTexts → List Fragments → List (List ℕ)
bodies_in format pages fs = map (λ f. text_in (text_on format pages) (lines_on format f)) fs

-- the block has these fragments, one behind another
pub record IsBlock (pages : PageTexts) (b : Block) (fs : List Fragments) : Type 0 where
  pub joined : (format : Format) → AreJoined (text_on format pages) (frame_for format).glue (block_on format b) (bodies_in format pages fs)
  pub names : b.names.start ≤ b.names.end
  pub stand : All (StandsIn b) fs

-- it ends where the files end, or before
pub record FitsIn (pages : PageTexts) (b : Block) : Type 0 where
  pub lines : (format : Format) → (block_on format b).end ≤ length (text_on format pages)
  pub names : b.names.end ≤ length pages.names

-- Rows that are kept.

-- what is kept of a token, if anything, stands in these files
abbrev pub IsFrom : PageTexts → Option Kept → Type 0
IsFrom pages kept = (k : Kept) → kept ≡ Some k → texts_of k.pages.now ≡ pages

abbrev pub AreFrom : PageTexts → List (Option Kept) → Type 0
AreFrom pages kepts = (i : ℕ) (k : Kept) → slice_get kepts i ≡ Some (Some k) → texts_of k.pages.now ≡ pages

-- these fragments of the files are kept of a token
abbrev pub Shows : PageTexts → Fragments → Option Kept → Type 0
Shows pages f kept = (k : Kept) × (kept ≡ Some k) × (k.row.now ≡ Unbroken f) × (texts_of k.pages.now ≡ pages)

-- the block has what is kept of these tokens
pub record IsRun (pages : PageTexts) (b : Block) (kepts : List (Option Kept)) : Type 0 where
  pub fs : List Fragments
  pub shows : AllZip (Shows pages) fs kepts
  pub block : IsBlock pages b fs

-- these fragments are kept of the i-th token
pub record ShowsAt (pages : PageTexts) (f : Fragments) (kepts : List (Option Kept)) (i : ℕ) : Type 0 where
  pub kept : Option Kept
  pub there : slice_get kepts i ≡ Some kept
  pub shows : Shows pages f kept

-- what is kept of the tokens from the i-th to this place, which are some of so many, stands from the one to the other
pub record IsLine (pages : PageTexts) (kepts : List (Option Kept)) (i many : ℕ) (first last : Fragments) (end : ℕ) : Type 0 where
  pub after : i < end
  pub within : end ≤ many
  pub long : end ≤ length kepts
  pub run : IsRun pages (block_between first last) (slice_range kepts i end)

-- a block was found of the tokens from the i-th on, which are some of so many
pub record IsFound (kepts : List (Option Kept)) (i many : ℕ) (found : Found) : Type 0 where
  pub after : i < found.end
  pub within : found.end ≤ many
  pub long : found.end ≤ length kepts
  pub run : IsRun (texts_of found.pages.now) found.block (slice_range kepts i found.end)
  pub fits : FitsIn (texts_of found.pages.now) found.block

-- a place behind this one, up to so many
abbrev pub IsNextOf : ℕ → ℕ → ℕ → Type 0
IsNextOf i many next = (i < next) × (next ≤ many)

-- the token comes to what is kept of it, if anything
abbrev pub ComesToKept : Flat → Settings → TokenAt → Option Kept → Type 0
ComesToKept flat settings token kept = (k : Kept) → kept ≡ Some k → IsCell flat settings token.0 (kept_view k)

-- Blocks that were copied.

-- the place to which one of a block comes with it
abbrev pub moved : ℕ → ℕ → ℕ → ℕ
moved place from to = to + (place - from)

abbrev pub moved_lines : Extent → Extent → Extent → Extent
moved_lines lines from to = record { start = moved lines.start from.start to.start; end = moved lines.end from.start to.start }

abbrev pub moved_names : Run → Run → Run → Run
moved_names names from to = record { start = moved names.start from.start to.start; end = moved names.end from.start to.start }

abbrev pub moved_shown : Shown → Extent → Extent → Run → Run → Shown
moved_shown shown from to from_names to_names =
    record { lines = moved_lines shown.lines from to; names = moved_names shown.names from_names to_names }

abbrev pub moved_fragments : Block → Block → Fragments → Fragments
moved_fragments from to f = record {
  css = moved_shown f.css from.css to.css from.names to.names;
  android = moved_shown f.android from.android to.android from.names to.names;
  swift = moved_shown f.swift from.swift to.swift from.names to.names;
  json = moved_lines f.json from.json to.json;
}

-- what was copied is as long as it was
pub record HasRoom (from to : Block) : Type 0 where
  pub lines : (format : Format) → (block_on format from).end - (block_on format from).start ≤ (block_on format to).end - (block_on format to).start
  pub names : from.names.end - from.names.start ≤ to.names.end - to.names.start

-- the lines and the names of the block were added to the files
pub record AddsBlock (before after : OpenPages) (own : Block) (others : PageTexts) (b : Block) : Type 0 where
  pub css : AddsBody before.css after.css own.css (text_in others.css b.css)
  pub android : AddsBody before.android after.android own.android (text_in others.android b.android)
  pub swift : AddsBody before.swift after.swift own.swift (text_in others.swift b.swift)
  pub json : AddsBody before.json after.json own.json (text_in others.json b.json)
  pub names : AddsNames before.names after.names own.names (names_in others.names b.names)

-- these cells were added to the files, and the rows show them, whatever comes behind
pub record AddsRows (before after : OpenPages) (rows : List Row) (cells : List TokenCell) : Type 0 where
  pub holds : (so_far : List TokenCell) → HoldAll before so_far → HoldAll after (so_far ++ cells)
  pub grows : Grows (open_texts before) (open_texts after)
  pub shown : (later : PageTexts) → Grows (open_texts after) later → rows_view later rows ≡ cells
