-- The breaks of tokens, in the order of the rules: of each token in path order, and then of names that two tokens have.
use Rattle.std.specs.Prelude.{ℕ, List, [], ◌∷◌, ◌++◌, map, flat_map, Option, Some, None, option_map, unwrap_or}
use Rattle.std.specs.FinMap as finite
use Rattle.name_path.specs.declared.place.Place.{Place}
use Rattle.group_inherit.specs.Flattening.{Flattened, TokenAt}
use Rattle.group_inherit.specs.Span.{Span, span_at}
use Rattle.alias_ref.specs.Laws.{Flat}
use Rattle.alias_ref.specs.Span.{span_below}
use Rattle.alias_ref.specs.Written.{role_at}
use Rattle.transforms.specs.Clash.{Taken, first_taken, with_names}
use Rattle.transforms.specs.declared.platform.Platform.{Platform}
use Rattle.transforms.specs.declared.platform.Platform.TheVariants.{Css, Android, Swift}
use Rattle.tk_io.specs.FilesData.{FilesData}
use Rattle.refusals.specs.Refusal.{Report, report, report_text, of_token, at_place, ring_place, other_token, on_platform}
use Rattle.refusals.specs.declared.rule.Rule.TheVariants as rule
use Rattle.token_cells.specs.Cell.{TokenPath, TokenBreak, token_break}
use Rattle.token_cells.specs.TokenCell.{TokenCell, Refused, Made}

-- Of tokens.

-- the file of a token's definition, and where the place stands there
abbrev pub place_in : Flattened → Place → Span
place_in f place = let span = span_below (role_at f.def.by_ref []) f.def.value place.trail in span_at f.def.file span.0 span.1

abbrev pub place_span : Flat → Place → Span
place_span flat place = unwrap_or (option_map (λ f. place_in f place) (finite.get flat place.token)) (span_at [] 0 0)

abbrev pub token_report : Flat → TokenPath → TokenBreak → Report
token_report flat path b =
    let span = place_span flat b.place in
    report (rule.Token b.rule) span.file span.start span.end (of_token path ∷ at_place b.place ∷ map ring_place b.ring)

-- a token with what it comes to
abbrev pub Celled : Type 0
Celled = TokenAt × TokenCell

abbrev pub cell_reports : Flat → Celled → List Report
cell_reports flat (token, Refused rule place ring) = token_report flat token.0 (token_break rule place ring) ∷ []
cell_reports flat (token, Made css android ios json) = []

-- Of names.

abbrev pub names_on : Platform → TokenCell → List (List ℕ)
names_on platform (Refused rule place ring) = []
names_on Css (Made css android ios json) = css.names
names_on Android (Made css android ios json) = android.names
names_on Swift (Made css android ios json) = ios.names

-- the later token, at its whole object
abbrev pub clash_report : Platform → TokenAt → TokenPath → Report
clash_report platform later earlier =
    let def = later.1.def in
    report rule.NameClash def.file def.start def.end (of_token later.0 ∷ other_token earlier ∷ on_platform platform ∷ [])

abbrev pub clash_reports : Platform → TokenAt → Option TokenPath → List Report
clash_reports platform token None = []
clash_reports platform token (Some earlier) = clash_report platform token earlier ∷ []

-- a token that has a name of an earlier one gives none of its names
abbrev pub taken_behind : Taken → List (List ℕ) → TokenPath → Option TokenPath → Taken
taken_behind taken names path None = with_names taken names path
taken_behind taken names path (Some earlier) = taken

-- each token that has a name of an earlier one, where these names are taken before
abbrev pub clashes_from : Platform → (TokenCell → List (List ℕ)) → Taken → List Celled → List Report
clashes_from platform names taken [] = []
clashes_from platform names taken (e ∷ es) =
    let earlier = first_taken taken (names e.1) in
    clash_reports platform e.0 earlier ++ clashes_from platform names (taken_behind taken (names e.1) e.0.0 earlier) es

abbrev pub clashes_on : Platform → List Celled → List Report
clashes_on platform es = clashes_from platform (names_on platform) finite.empty es

-- for CSS, then Android, then Swift
abbrev pub name_clashes : List Celled → List Report
name_clashes es = clashes_on Css es ++ (clashes_on Android es ++ clashes_on Swift es)

-- what each token breaks, in path order, and then each pair of equal names
abbrev pub token_reports : Flat → List Celled → List Report
token_reports flat es = flat_map (cell_reports flat) es ++ name_clashes es

-- The verdict is the first break.

abbrev pub verdict : List Report → Option Report
verdict [] = None
verdict (r ∷ rs) = Some r

-- what is printed of it
abbrev pub verdict_text : FilesData → List Report → Option (List ℕ)
verdict_text files reports = option_map (report_text files) (verdict reports)
