-- The JSON file of cells without a break denotes their tokens.
use Rattle.std.proofs.Common.{◌≡◌, ℕ, List, [], ◌∷◌, map, flat_map, codes, true, Option, Some, None, refl, sym, ap, ap₂, subst}
use Rattle.std.specs.Prelude.{option_map}
use Rattle.std.specs.FinMap as finite
use Rattle.std.specs.List.{AllZip, AllByRecursion, zip}
use Rattle.group_inherit.specs.Flattening.{Flattened, TokenAt}
use Rattle.alias_ref.specs.Laws.{Flat}
use Rattle.composite_rules.specs.Laws.{ValuesKeep}
use Rattle.transforms.specs.Config.{Settings}
use Rattle.transforms.specs.Sheet.{sheet_text}
use Rattle.json_span.specs.Tree.{a_null, a_boolean, a_number, a_string, an_array, an_object, Members, Entry, value_of_name, Placed, placed, tree_of}
use Rattle.json_span.specs.Reading.{Shows}
use Rattle.json_span.specs.Says.{plain_of}
use Rattle.token_tree.specs.Answer.{IsObjectOf}
use Rattle.token_tree.specs.Shape.{slice_of, entries_at, is_token, extensions_of}
use Rattle.token_tree.proofs.Keeps.{own_members}
use Rattle.token_tree.proofs.Places.{under_part}
use Rattle.alias_ref.specs.Unchanged.{AreDefinitions}
use Rattle.json_out.specs.Laws.{SheetsDenote, SlicesStay}
use Rattle.json_out.specs.PlatformValue.{Json}
use Rattle.json_out.specs.Properties.{HaveValue}
use Rattle.json_out.specs.Reading.{number_of_text}
use Rattle.json_out.specs.Sheets.{Cell, json_frame, cell_text, IsJsonCell, sheet_bytes, sheet_members, Denotes}
use Rattle.token_cells.specs.Cell.{TokenPath, AreCells, extras_of}
use Rattle.token_cells.specs.Breaks.{cell_reports}
use Rattle.token_cells.specs.Sheets.{bodies_for, sheet_for}
use Rattle.token_cells.specs.declared.format.Format.TheVariants as Form
use Rattle.token_cells.specs.OtherSheets.{IsJsonFor, JsonCellsDenote}
use Rattle.token_cells.specs.TokenCell.{TokenCell, Refused, Made}
use Rattle.token_cells.proofs.Beside.{nil_cons, name_clashes_none}

-- each token's extensions, where it has some, are a text of JSON
abbrev HaveExtensions : Flat → Type 0
HaveExtensions flat = (path : TokenPath) (f : Flattened) → finite.get flat path ≡ Some f → (w : Option Json) × HaveValue f.def.extensions w

-- what a definition has as its extensions is a part of its source

an_object_at : (n : Placed) → is_token n ≡ true → (ms : Members) × (tree_of n ≡ an_object ms)
an_object_at (placed a_null start end) e = absurd (cc)
an_object_at (placed (a_boolean b) start end) e = absurd (cc)
an_object_at (placed (a_number k) start end) e = absurd (cc)
an_object_at (placed (a_string s) start end) e = absurd (cc)
an_object_at (placed (an_array ns) start end) e = absurd (cc)
an_object_at (placed (an_object ms) start end) e = (ms, refl)

slice_value : SlicesStay → (source : List ℕ) (object : Placed) → Shows source object → (es : List Entry) → IsObjectOf object es → (u : Option Placed) → value_of_name (codes "$extensions") es ≡ u
    → (w : Option Json) × HaveValue (option_map (slice_of source) u) w
slice_value slices source object shown es are None is = (None, tt)
slice_value slices source object shown es are (Some n) is = (Some (plain_of number_of_text n), slices source object n shown (under_part object es (codes "$extensions") n are is))

have_extensions : SlicesStay → (flat : Flat) → AreDefinitions flat → HaveExtensions flat
have_extensions slices flat defs path f there =
    let d = defs path f there in
    let (ms, is) = an_object_at d.object d.token in
    let es = entries_at d.object in
    let found = slice_value slices f.def.source d.object d.shown es (own_members d.object ms is) (value_of_name (codes "$extensions") es) refl in
    let same : f.def.extensions ≡ extensions_of f.def.source es = ap (λ x. x.extensions) d.same in
    (found.0, subst (λ o. HaveValue o found.0) (sym same) found.1)

record AreMade (flat : Flat) (settings : Settings) (tokens : List TokenAt) (cells : List TokenCell) : Type 0 where
  sheet : List Cell
  have : AllZip (λ token c. IsJsonFor flat settings token.0 c) tokens sheet
  are : AllByRecursion IsJsonCell sheet
  bodies : flat_map (bodies_for Form.Json) cells ≡ map cell_text sheet

module _ (keeps : ValuesKeep) (flat : Flat) (settings : Settings) (extensions : HaveExtensions flat) where
  are_made : (tokens : List TokenAt) (cells : List TokenCell) → AreCells flat settings tokens cells → flat_map (cell_reports flat) (zip tokens cells) ≡ [] → AreMade flat settings tokens cells
  are_made [] [] found none = record { sheet = []; have = tt; are = tt; bodies = refl }
  are_made [] (c ∷ cells) found none = absurd found
  are_made (t ∷ tokens) [] found none = absurd found
  are_made (t ∷ tokens) (Refused rule place ring ∷ cells) found none = absurd (nil_cons _ _ none)
  are_made (t ∷ tokens) (Made css android ios json ∷ cells) (here, found) none =
      let rest = are_made tokens cells found none in
      let (w, has) = extensions t.0 here.entry here.there in
      let cell : Cell = record { path = t.0; typed = here.typed; extras = extras_of here.entry; extensions = w } in
      record {
        sheet = cell ∷ rest.sheet;
        have = (record { at = refl; value = (here.links, here.value); extras = (here.entry, here.there, refl); extensions = has }, rest.have);
        are = (record { typed = keeps settings.legacy here.value.kind here.value.meaning here.typed here.value.is_typed; bytes = here.gives.json_of.bytes; extensions = has }, rest.are);
        bodies = ap₂ (λ (x : List ℕ) (xs : List (List ℕ)). x ∷ xs) here.gives.json_of.body rest.bodies;
      }

pub json_denotes : ValuesKeep → SlicesStay → SheetsDenote → JsonCellsDenote
json_denotes keeps slices denote flat settings cells (found, none) defs =
    let es = zip (finite.entries flat) cells in
    let clean = name_clashes_none (flat_map (cell_reports flat) es) es none in
    let made = are_made keeps flat settings (have_extensions slices flat defs) (finite.entries flat) cells found clean.cells in
    let bytes : sheet_bytes made.sheet ≡ sheet_for Form.Json cells = ap (sheet_text json_frame) (sym made.bodies) in
    record {
      tokens = made.sheet;
      values = made.have;
      denotes = subst (λ b. Denotes b (sheet_members made.sheet)) bytes (denote made.sheet made.are);
    }
