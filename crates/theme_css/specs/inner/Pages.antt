-- What lines, rows of choices and pages are seen as.
use Rattle.std.specs.Prelude.{◌≡◌, ℕ, List, ◌++◌, codes, map, Result, Ok, Err, Some, None}
use Rattle.std.specs.FinMap as finite
use Rattle.std.specs.List.{AllZip, flat_map}
use Rattle.permutations.specs.Name.{Choice as ChoiceData}
use Rattle.theme_css.specs.Blocks.{Theme as ThemeData}
use Rattle.theme_css.specs.Cascade.{Declaration}
use Rattle.resolver_doc.specs.Document.{ItemData}
use Rattle.tk_io.specs.FilesData.{FilesData}
use Rattle.theme_css.specs.Sheet.{Declares, Lines}
use Rattle.theme_css.specs.Themes.{AreThemes, IsSheetOf, IsTheme, first_bad}
use Rattle.theme_css.specs.declared.stop.ThemeStop.{ThemeStop}
use Rattle.theme_css.specs.declared.stop.ThemeStop.TheVariants.{Refused, Name, NoMemory}
use Rattle.theme_css.specs.declared.own.Line.{Line}
use Rattle.theme_css.specs.declared.choices.Row.{Row}
use Rattle.theme_css.specs.declared.pages.Page.{Page}
use Rattle.theme_css.specs.declared.blocks.Theme.{Theme}
use Rattle.theme_css.specs.inner.Views.{choices_view, declarations_at}

abbrev pub line_view : Line → Declaration
line_view l = record { name = l.name.now; value = l.value.now }

abbrev pub lines_view : List Line → List Declaration
lines_view ls = map line_view ls

-- the lines that were read, and what they add to any further ones
abbrev pub ReadsOn : List ℕ → List ℕ → List Declaration → List Declaration → Type 0
ReadsOn text rest old new =
    (more : List Declaration) × (new ≡ old ++ more) × ((ds : List Declaration) → Lines rest ds → Lines text (more ++ ds))

abbrev pub row_view : Row → List ChoiceData
row_view row = choices_view row.choices.items

abbrev pub rows_view : List Row → List (List ChoiceData)
rows_view rows = map row_view rows

-- each row with each option behind it
abbrev pub with_each : List (List ChoiceData) → List (List ChoiceData) → List (List ChoiceData)
with_each rows options = flat_map (λ row. map (λ o. row ++ o) options) rows

abbrev pub page_view : Page → ThemeData
page_view p = record { page = choices_view p.page.now; odd = choices_view p.odd.items; own = lines_view p.lines.items }

abbrev pub pages_view : List Page → List ThemeData
pages_view ps = map page_view ps

abbrev pub theme_view : List (List ℕ) → Theme → ThemeData
theme_view names t = record { page = choices_view t.page.now; odd = choices_view t.odd.items; own = declarations_at names t.own.items }

abbrev pub themes_view : List (List ℕ) → List Theme → List ThemeData
themes_view names ts = map (theme_view names) ts

-- the outputs have the style sheet of a permutation of the name, which declares this
abbrev pub HasSheet : FilesData → List ℕ → List Declaration → Type 0
HasSheet out name ds = (bytes : List ℕ) × (finite.get out (name ++ codes "/tokens.css") ≡ Some bytes) × Declares bytes ds

-- the themes of these pages are added
abbrev pub AddsThemes : FilesData → List ChoiceData → List (List ChoiceData) → List ThemeData → List ThemeData → Type 0
AddsThemes out us all old new = (more : List ThemeData) × (new ≡ old ++ more) × AllZip (IsTheme out us) all more

-- the sheet of all permutations of an order, whose names selectors can hold
abbrev pub IsSheetOfOrder : FilesData → List ItemData → List ℕ → Type 0
IsSheetOfOrder out order sheet =
    (first_bad order ≡ None) × (themes : List ThemeData) × AreThemes out order themes × IsSheetOf themes sheet

-- why there is none
abbrev pub IsBadName : List ItemData → ThemeStop → Type 0
IsBadName order (Refused path) = ⊥
IsBadName order (Name name) = first_bad order ≡ Some name
IsBadName order NoMemory = Unit {0}

-- .. of an order that is so
abbrev pub IsNameStop : (List ItemData → Type 0) → ThemeStop → Type 0
IsNameStop says (Refused path) = ⊥
IsNameStop says (Name name) = (order : List ItemData) × says order × (first_bad order ≡ Some name)
IsNameStop says NoMemory = Unit {0}

-- what is answered of an order that is so; memory may always run out
abbrev pub IsAnswerOf : FilesData → (List ItemData → Type 0) → Result (List ℕ) ThemeStop → Type 0
IsAnswerOf out says (Ok sheet) = (order : List ItemData) × says order × IsSheetOfOrder out order sheet
IsAnswerOf out says (Err stop) = IsNameStop says stop
