-- The permutations of files as themes of one sheet: their contexts, their order, and the sheet.
use Rattle.std.specs.Prelude.{◌≡◌, ◌⊎◌, ◌==◌, ◌+◌, ◌&&◌, ◌||◌, not, ℕ, Bool, false, List, [], ◌∷◌, ◌++◌, codes, filter, find, length, map, Option, Some, None, Result, Err, option_map, slice_get, unwrap_or, if◌then◌else◌}
use Rattle.std.specs.FinMap as finite
use Rattle.std.specs.Bool.{nat_eq}
use Rattle.std.specs.List.{AllByRecursion, AllZip, ends_with, flat_map, list_all, range_with_len}
use Rattle.std.specs.List.Sorted.{IsStrictlySortedBy}
use Rattle.std.specs.Char.{is_ascii_digit, is_ascii_lowercase}
use Rattle.std.specs.Str.{bytes_eq}
use Rattle.tk_io.specs.Characters.{hyphen}
use Rattle.tk_io.specs.FilesData.{FilesData}
use Rattle.tk_io.specs.Order.{text_cmp}
use Rattle.ring.specs.Lists.{AreApart, In}
use Rattle.json_span.specs.Answer.{IsAnswer, shows}
use Rattle.json_span.specs.Tree.{Placed}
use Rattle.resolver_doc.specs.Answer.{IsUnbroken}
use Rattle.resolver_doc.specs.Document.{ItemData, set_item, modifier_item, resolver_of}
use Rattle.transforms.specs.Quoted.{is_printable}
use Rattle.css_out.specs.Piece.{Mark}
use Rattle.permutations.specs.Name.{Choice, name_of}
use Rattle.permutations.specs.Permutation.{Pick, choices}
use Rattle.file_plan.specs.InUse.{resolver_path}
use Rattle.build_plain.specs.Out.{Builds}
use Rattle.theme_css.specs.Blocks.{Theme, blocks_after}
use Rattle.theme_css.specs.Cascade.{Block, cascade, value_in}
use Rattle.theme_css.specs.Denoting.{HaveOneValue}
use Rattle.theme_css.specs.Sheet.{Declares, sheet_text, written}
use Rattle.theme_css.specs.declared.stop.ThemeStop.{ThemeStop}
use Rattle.theme_css.specs.declared.stop.ThemeStop.TheVariants.{Refused, Name, NoMemory}

-- What stands in the way of a sheet.

-- the path is `REFUSED`, or ends in `/REFUSED`
abbrev pub is_refusal : List ℕ → Bool
is_refusal path = bytes_eq path (codes "REFUSED") || ends_with nat_eq path (codes "/REFUSED")

-- the first path of a refusal, in byte order
abbrev pub first_refused : FilesData → Option (List ℕ)
first_refused out = option_map (λ e. e.0) (find (λ e. is_refusal e.0) (finite.entries out))

-- a modifier is named by a lower-case letter with lower-case letters, digits and `-`, of ASCII
abbrev pub in_modifier : ℕ → Bool
in_modifier c = is_ascii_lowercase c || (is_ascii_digit c || (c == hyphen))

abbrev pub is_modifier : List ℕ → Bool
is_modifier [] = false
is_modifier (c ∷ cs) = is_ascii_lowercase c && list_all in_modifier cs

-- the names that no selector can hold: of a modifier its own, and then those of its contexts that can't be printed
abbrev pub bad_names_in : ItemData → List (List ℕ)
bad_names_in (set_item sources) = []
bad_names_in (modifier_item name contexts default) =
    (if is_modifier name then [] else name ∷ []) ++ filter (λ c. not (is_printable c)) (map (λ c. c.name) contexts)

abbrev pub first_bad : List ItemData → Option (List ℕ)
first_bad order = slice_get (flat_map bad_names_in order) 0

-- The contexts of permutations.

-- what is chosen by picks of all items
abbrev pub chosen : List Pick → List Choice
chosen ps = flat_map (λ p. p.chosen) ps

-- the contexts of each permutation, in the order of permutations
abbrev pub pages : List ItemData → List (List Choice)
pages order = map chosen (choices order)

-- the usual context of a modifier is its default, and else its first one
abbrev pub usual_in : ItemData → List Choice
usual_in (set_item sources) = []
usual_in (modifier_item name [] default) = []
usual_in (modifier_item name (c ∷ cs) default) = record { modifier = name; context = unwrap_or default c.name } ∷ []

abbrev pub usual : List ItemData → List Choice
usual order = flat_map usual_in order

-- of a permutation's contexts, modifier by modifier, those that are not the usual ones
abbrev pub odd : List Choice → List Choice → List Choice
odd [] page = page
odd (u ∷ us) [] = []
odd (u ∷ us) (c ∷ cs) = if bytes_eq c.context u.context then odd us cs else c ∷ odd us cs

-- first by how many contexts are not the usual ones, and then as permutations are ordered
abbrev pub with_weight : List Choice → List (List Choice) → ℕ → List (List Choice)
with_weight us all k = filter (λ page. length (odd us page) == k) all

abbrev pub by_weight : List Choice → List (List Choice) → List (List Choice)
by_weight us all = flat_map (with_weight us all) (range_with_len 0 (length us + 1))

-- The sheet.

-- what the resolver document says; without one there is no modifier
abbrev pub Resolves : Option (List ℕ) → List ItemData → Type 0
Resolves None order = order ≡ []
Resolves (Some text) order = (root : Placed) × IsAnswer text (shows root) × IsUnbroken root × (order ≡ (resolver_of root).order)

-- the style sheet of the permutation of these contexts
abbrev pub own_path : List Choice → List ℕ
own_path contexts = name_of contexts ++ codes "/tokens.css"

-- the permutation of these contexts, with what its style sheet among the outputs declares
pub record IsTheme (out : FilesData) (us : List Choice) (contexts : List Choice) (t : Theme) : Type 0 where
  pub all : t.page ≡ contexts
  pub unusual : t.odd ≡ odd us contexts
  pub bytes : List ℕ
  pub there : finite.get out (own_path contexts) ≡ Some bytes
  pub lines : Declares bytes t.own

-- these are all permutations, in the order of their blocks
abbrev pub AreThemes : FilesData → List ItemData → List Theme → Type 0
AreThemes out order themes = AllZip (IsTheme out (usual order)) (by_weight (usual order) (pages order)) themes

-- each name that a permutation declares is one of these
abbrev pub AreNamesOf : List (List ℕ) → List Theme → Type 0
AreNamesOf names themes = AllByRecursion (λ t. AllByRecursion (λ d. In d.name names) t.own) themes

-- no sheet of a permutation declares a name twice
abbrev pub DeclareOnce : List Theme → Type 0
DeclareOnce themes = AllByRecursion (λ t. AreApart (map (λ d. d.name) t.own)) themes

-- on a page of a permutation's contexts each name has the value that it has in the permutation's own sheet, and no other
-- name has one
abbrev pub ShowsEach : List Block → List Theme → Type 0
ShowsEach blocks themes = (t : Theme) → In t themes → (name : List ℕ) → cascade blocks t.page name ≡ value_in t.own name

-- The sheet of these permutations: the blocks that they need one after another, over all names in byte order.
pub record IsSheetOf (themes : List Theme) (sheet : List ℕ) : Type 0 where
  pub names : List (List ℕ)
  pub rise : IsStrictlySortedBy text_cmp names
  pub all : AreNamesOf names themes
  pub once : DeclareOnce themes
  pub text : sheet ≡ sheet_text (blocks_after names [] themes)
  pub shows_each : ShowsEach (written (blocks_after names [] themes)) themes

-- on a page of a permutation's contexts each name denotes what it denotes in the permutation's own sheet, and nothing else
abbrev pub DenotesEach : FilesData → List Block → List Theme → Type 0
DenotesEach out blocks themes = (t : Theme) → In t themes → (bytes : List ℕ) → finite.get out (own_path t.page) ≡ Some bytes
    → (name : List ℕ) (value : List Mark) → HaveOneValue bytes blocks t.page name value

-- The sheet of files whose outputs hold no refusal, and whose modifiers and contexts have names that selectors can hold.
pub record IsThemeSheet (files : FilesData) (sheet : List ℕ) : Type 0 where
  pub out : FilesData
  pub builds : Builds files out
  pub unrefused : first_refused out ≡ None
  pub order : List ItemData
  pub resolves : Resolves (finite.get files resolver_path) order
  pub named : first_bad order ≡ None
  pub themes : List Theme
  pub are_themes : AreThemes out order themes
  pub is_sheet : IsSheetOf themes sheet
  pub denotes_each : DenotesEach out (written (blocks_after is_sheet.names [] themes)) themes

-- Why there is none.

-- the first refusal among the outputs is at this path
abbrev pub HasRefusal : FilesData → List ℕ → Type 0
HasRefusal files path = (out : FilesData) × Builds files out × (first_refused out ≡ Some path)

-- there is no refusal, but this is the first name that no selector can hold
pub record HasBadName (files : FilesData) (name : List ℕ) : Type 0 where
  pub out : FilesData
  pub builds : Builds files out
  pub unrefused : first_refused out ≡ None
  pub order : List ItemData
  pub resolves : Resolves (finite.get files resolver_path) order
  pub named : first_bad order ≡ Some name

-- the cause of each stop; memory may always run out
abbrev pub IsThemeStop : FilesData → ThemeStop → Type 0
IsThemeStop files (Refused path) = HasRefusal files path
IsThemeStop files (Name name) = HasBadName files name
IsThemeStop files NoMemory = Unit {0}

-- this is answered, or memory ran out
abbrev pub IsAnswered : Result (List ℕ) ThemeStop → Result (List ℕ) ThemeStop → Type 0
IsAnswered answer result = (result ≡ answer) ⊎ (result ≡ Err NoMemory)
