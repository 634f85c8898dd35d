-- The resource file of cells without a break denotes the values of their tokens.
use Rattle.std.proofs.Common.{◌≡◌, ℕ, true, List, [], ◌∷◌, map, flat_map, refl, sym, ap, ap₂, subst}
use Rattle.std.specs.FinMap as finite
use Rattle.std.specs.List.{AllZip, zip}
use Rattle.std.specs.Prelude.{AllPairs}
use Rattle.name_path.specs.Names.{IsTokenPath}
use Rattle.group_inherit.specs.Flattening.{TokenAt}
use Rattle.alias_ref.specs.Laws.{Flat}
use Rattle.composite_rules.specs.Laws.{ValuesKeep}
use Rattle.transforms.specs.Clash.{NamedToken, ShareNoName, TokenNamesApart}
use Rattle.transforms.specs.Config.{Settings}
use Rattle.transforms.specs.PlatformName.{is_identifier}
use Rattle.transforms.specs.Sheet.{sheet_text}
use Rattle.transforms.specs.declared.platform.Platform.TheVariants.{Android}
use Rattle.ring.specs.Lists.{In}
use Rattle.android_out.specs.Laws.{SheetsDenote}
use Rattle.android_out.specs.Sheets.{Cell, android_frame, cell_text, cell_names, sheet_bytes, sheet_values, IsSheet, Denotes}
use Rattle.android_out.specs.Spelling.{android_name}
use Rattle.token_cells.specs.Cell.{AreCells}
use Rattle.token_cells.specs.Breaks.{cell_reports, names_on}
use Rattle.token_cells.specs.Sheets.{bodies_for, sheet_for}
use Rattle.token_cells.specs.declared.format.Format.TheVariants as Form
use Rattle.token_cells.specs.OtherSheets.{IsTypedOf, AndroidCellsDenote}
use Rattle.token_cells.specs.TokenCell.{TokenCell, Refused, Made}
use Rattle.token_cells.proofs.Beside.{nil_cons, left_of, weaker, named_by, added, name_clashes_none}

-- a token and what it has
record Has (flat : Flat) (settings : Settings) (token : TokenAt) (c : Cell) : Type 0 where
  path : c.path ≡ token.0
  value : IsTypedOf flat settings token.0 c.typed
  named : IsTokenPath token.0 → is_identifier (android_name settings c.path) ≡ true

record AreMade (flat : Flat) (settings : Settings) (tokens : List TokenAt) (cells : List TokenCell) : Type 0 where
  sheet : List Cell
  have : AllZip (Has flat settings) tokens sheet
  bodies : flat_map (bodies_for Form.Android) cells ≡ map (cell_text settings) sheet
  names : map (named_by (names_on Android)) (zip tokens cells) ≡ map (cell_names settings) sheet

module _ (flat : Flat) (settings : Settings) where
  are_made : (tokens : List TokenAt) (cells : List TokenCell) → AreCells flat settings tokens cells → flat_map (cell_reports flat) (zip tokens cells) ≡ [] → AreMade flat settings tokens cells
  are_made [] [] found none = record { sheet = []; have = tt; bodies = refl; names = refl }
  are_made [] (c ∷ cells) found none = absurd found
  are_made (t ∷ tokens) [] found none = absurd found
  are_made (t ∷ tokens) (Refused rule place ring ∷ cells) found none = absurd (nil_cons _ _ none)
  are_made (t ∷ tokens) (Made css android ios json ∷ cells) (here, found) none =
      let rest = are_made tokens cells found none in
      let cell : Cell = record { path = t.0; typed = here.typed } in
      record {
        sheet = cell ∷ rest.sheet;
        have = (record { path = refl; value = (here.links, here.value); named = here.gives.android_of.named }, rest.have);
        bodies = ap₂ (λ (x : List ℕ) (xs : List (List ℕ)). x ∷ xs) here.gives.android_of.body rest.bodies;
        names = ap₂ (λ (ns : List (List ℕ)) (xs : List NamedToken). record { path = t.0; names = ns } ∷ xs) here.gives.android_of.names rest.names;
      }

pub android_denotes : ValuesKeep → TokenNamesApart → SheetsDenote → AndroidCellsDenote
android_denotes keeps names_apart denote flat settings cells base (found, none) paths =
    let es = zip (finite.entries flat) cells in
    let clean = name_clashes_none (flat_map (cell_reports flat) es) es none in
    let clashes = clean.android in
    let made = are_made flat settings (finite.entries flat) cells found clean.cells in
    let (after, all) = added Android (names_on Android) finite.empty es clashes in
    let apart = subst (λ ns. AllPairs ShareNoName ns) made.names (names_apart (map (named_by (names_on Android)) es) after all) in
    let at : (c : Cell) → In c made.sheet → (t : TokenAt) × In t (finite.entries flat) × Has flat settings t c = λ c i. left_of (Has flat settings) (finite.entries flat) made.sheet c made.have i in
    let sheet : IsSheet settings made.sheet = record {
      base = base;
      typed = λ c i. let (t, j, h) = at c i in let v = h.value.1 in keeps settings.legacy v.kind v.meaning c.typed v.is_typed;
      named = λ c i. let (t, j, h) = at c i in h.named (paths t j);
      apart = apart;
    } in
    let bytes : sheet_bytes settings made.sheet ≡ sheet_for Form.Android cells = ap (sheet_text android_frame) (sym made.bodies) in
    record {
      tokens = made.sheet;
      values = weaker (Has flat settings) (λ token c. (c.path ≡ token.0) × IsTypedOf flat settings token.0 c.typed) (λ token c h. (h.path, h.value)) (finite.entries flat) made.sheet made.have;
      denotes = subst (λ b. Denotes b (sheet_values settings made.sheet)) bytes (denote settings made.sheet sheet);
    }
