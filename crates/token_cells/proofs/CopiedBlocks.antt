-- Blocks of rows that are copied to the end of files: all that the rows show is there.
use Rattle.std.proofs.Common.{◌≡◌, ℕ, ◌-◌, ◌≤◌, List, [], ◌∷◌, ◌++◌, Option, map, refl, sym, ap, ap₂, subst, ◌∙◌, flat_map}
use Rattle.std.proofs.lemmas.Grind.{flat_map-append}
use Rattle.std.proofs.lemmas.List.{map-append}
use Rattle.std.proofs.lemmas.List.Elements.{All-head, All-tail}
use Rattle.std.specs.List.{AllZip, slice_range}
use Rattle.std.specs.Prelude.{All}
use Rattle.tk_io.proofs.Extending.{extends_self}
use Rattle.tk_io.specs.Writing.{Extends}
use Rattle.group_inherit.specs.Flattening.{TokenAt}
use Rattle.alias_ref.specs.Laws.{Flat}
use Rattle.transforms.specs.Config.{Settings}
use Rattle.transforms.specs.Extent.{text_in}
use Rattle.transforms.specs.Frag.{Frag}
use Rattle.transforms.specs.Sheet.{Gains, Holds, OpenSheet}
use Rattle.token_cells.specs.Cell.{IsCell}
use Rattle.token_cells.specs.Sheets.{bodies_for, frame_for}
use Rattle.token_cells.specs.TokenCell.{TokenCell, Made}
use Rattle.token_cells.specs.declared.block.Block.{Block}
use Rattle.token_cells.specs.declared.format.Format.{Format}
use Rattle.token_cells.specs.declared.format.Format.TheVariants.{Css, Android, Swift, Json}
use Rattle.token_cells.specs.declared.gathering.Growing.{Growing}
use Rattle.token_cells.specs.declared.keeping.Kept.{Kept}
use Rattle.token_cells.specs.declared.pages.OpenPages.{OpenPages}
use Rattle.token_cells.specs.declared.row.Fragments.{Fragments}
use Rattle.token_cells.specs.declared.row.Row.{Row}
use Rattle.token_cells.specs.declared.row.Row.TheVariants.{Unbroken}
use Rattle.token_cells.specs.inner.AddedToPages.{Grows, HoldsCells}
use Rattle.token_cells.specs.inner.Blocks.{AddsBlock, AddsRows, ComesToKept, FitsIn, HasRoom, IsBlock, IsRun, Shows, StandsIn, block_on, bodies_in, moved_fragments, text_on}
use Rattle.token_cells.specs.inner.Kept.{PageTexts, fragments_view, open_texts, row_view, rows_view}
use Rattle.token_cells.specs.inner.Turns.{HasAdded}
use Rattle.token_cells.specs.inner.Typing.{AreTyped}
use Rattle.token_cells.proofs.Glued.{gains_all}
use Rattle.token_cells.proofs.PagesGrow.{grows_more, names_stay}
use Rattle.token_cells.proofs.Parts.{as_long, part_moved}

abbrev frag_of : List (List ℕ) → List ℕ → Frag
frag_of names body = record { names = names; body = body }

made_same : {c d a b i j : Frag} {x y : List ℕ} → c ≡ d → a ≡ b → i ≡ j → x ≡ y → Made c a i (frag_of [] x) ≡ Made d b j (frag_of [] y)
made_same {c} {d} {a} {b} {i} {j} {x} {y} on_c on_a in_i in_x =
    ap₂ (λ p q. Made p q i (frag_of [] x)) on_c on_a ∙ ap₂ (λ p t. Made d b p (frag_of [] t)) in_i in_x

module _ (before after : OpenPages) (own : Block) (others : PageTexts) (b : Block) (adds : AddsBlock before after own others b) (fits : FitsIn others b) where
  -- what was copied is as long as it was
  pub copied_room : HasRoom b own
  copied_room = record {
    lines = room;
    names = as_long others.names after.names b.names.start b.names.end own.names.start own.names.end fits.names (adds.names.there after.names (names_stay after.names));
  }
    where
      room : (format : Format) → (block_on format b).end - (block_on format b).start ≤ (block_on format own).end - (block_on format own).start
      room Css = as_long others.css after.css.text b.css.start b.css.end own.css.start own.css.end (fits.lines Css) (adds.css.there after.css.text (extends_self after.css.text))
      room Android = as_long others.android after.android.text b.android.start b.android.end own.android.start own.android.end (fits.lines Android)
          (adds.android.there after.android.text (extends_self after.android.text))
      room Swift = as_long others.swift after.swift.text b.swift.start b.swift.end own.swift.start own.swift.end (fits.lines Swift)
          (adds.swift.there after.swift.text (extends_self after.swift.text))
      room Json = as_long others.json after.json.text b.json.start b.json.end own.json.start own.json.end (fits.lines Json) (adds.json.there after.json.text (extends_self after.json.text))

  -- the fragments are there, whatever comes behind
  moved_there : (f : Fragments) → StandsIn b f → (later : PageTexts) → Grows (open_texts after) later → fragments_view later (moved_fragments b own f) ≡ fragments_view others f
  moved_there f stands later g =
      let names = adds.names.there later.names g.names in
      let in_css = adds.css.there later.css g.css in
      let in_android = adds.android.there later.android g.android in
      let in_swift = adds.swift.there later.swift g.swift in
      let in_json = adds.json.there later.json g.json in
      made_same
      (both (part_moved others.names later.names b.names.start b.names.end own.names.start own.names.end f.css.names.start f.css.names.end stands.css fits.names names)
      (part_moved others.css later.css b.css.start b.css.end own.css.start own.css.end f.css.lines.start f.css.lines.end (stands.lines Css) (fits.lines Css) in_css))
      (both (part_moved others.names later.names b.names.start b.names.end own.names.start own.names.end f.android.names.start f.android.names.end stands.android fits.names names)
      (part_moved others.android later.android b.android.start b.android.end own.android.start own.android.end f.android.lines.start f.android.lines.end (stands.lines Android)
      (fits.lines Android) in_android))
      (both (part_moved others.names later.names b.names.start b.names.end own.names.start own.names.end f.swift.names.start f.swift.names.end stands.swift fits.names names)
      (part_moved others.swift later.swift b.swift.start b.swift.end own.swift.start own.swift.end f.swift.lines.start f.swift.lines.end (stands.lines Swift) (fits.lines Swift) in_swift))
      (part_moved others.json later.json b.json.start b.json.end own.json.start own.json.end f.json.start f.json.end (stands.lines Json) (fits.lines Json) in_json)
    where
      both : {ns ms : List (List ℕ)} {x y : List ℕ} → ns ≡ ms → x ≡ y → frag_of ns x ≡ frag_of ms y
      both p q = ap₂ frag_of p q

  rows_there : (fs : List Fragments) → All (StandsIn b) fs → (later : PageTexts) → Grows (open_texts after) later
      → rows_view later (map (λ f. Unbroken (moved_fragments b own f)) fs) ≡ map (fragments_view others) fs
  rows_there [] all later g = refl
  rows_there (f ∷ fs) all later g =
      ap₂ (λ c cs. c ∷ cs) (moved_there f (All-head (StandsIn b) f fs all) later g) (rows_there fs (All-tail (StandsIn b) f fs all) later g)

  -- the bodies of cells are those of fragments
  bodies_are : (format : Format) (fs : List Fragments) → flat_map (bodies_for format) (map (fragments_view others) fs) ≡ bodies_in format others fs
  bodies_are format [] = refl
  bodies_are Css (f ∷ fs) = ap (λ bs. text_in others.css f.css.lines ∷ bs) (bodies_are Css fs)
  bodies_are Android (f ∷ fs) = ap (λ bs. text_in others.android f.android.lines ∷ bs) (bodies_are Android fs)
  bodies_are Swift (f ∷ fs) = ap (λ bs. text_in others.swift f.swift.lines ∷ bs) (bodies_are Swift fs)
  bodies_are Json (f ∷ fs) = ap (λ bs. text_in others.json f.json ∷ bs) (bodies_are Json fs)

  holds_all : (format : Format) (old new : OpenSheet) (fs : List Fragments) (so_far : List TokenCell) → IsBlock others b fs → Gains old new (text_in (text_on format others) (block_on format b))
      → HoldsCells format old so_far → HoldsCells format new (so_far ++ map (fragments_view others) fs)
  holds_all format old new fs so_far block gains holds =
      let bodies : flat_map (bodies_for format) (so_far ++ map (fragments_view others) fs) ≡ flat_map (bodies_for format) so_far ++ bodies_in format others fs =
      flat_map-append (bodies_for format) so_far (map (fragments_view others) fs) ∙ ap (λ bs. flat_map (bodies_for format) so_far ++ bs) (bodies_are format fs) in
      subst (Holds new (frame_for format)) (sym bodies)
      (gains_all old new (text_in (text_on format others) (block_on format b)) (frame_for format) (flat_map (bodies_for format) so_far) (bodies_in format others fs) gains
      (block.joined format).some (block.joined format).text_is holds)

  -- all rows of the block were added
  pub adds_rows : (fs : List Fragments) → IsBlock others b fs → AddsRows before after (map (λ f. Unbroken (moved_fragments b own f)) fs) (map (fragments_view others) fs)
  adds_rows fs block = record {
    holds = λ so_far h. record {
      css = holds_all Css before.css after.css fs so_far block adds.css.gains h.css;
      android = holds_all Android before.android after.android fs so_far block adds.android.gains h.android;
      swift = holds_all Swift before.swift after.swift fs so_far block adds.swift.gains h.swift;
      json = holds_all Json before.json after.json fs so_far block adds.json.gains h.json;
    };
    grows = record {
      css = adds.css.grows;
      android = adds.android.grows;
      swift = adds.swift.grows;
      json = adds.json.grows;
      names = adds.names.grows;
    };
    shown = rows_there fs block.stand;
  }

-- Tokens that come to the rows.

zipped_both : {A B : Type 0} → (R : A → B → Type 0) (xs : List A) (ys : List B) (us : List A) (vs : List B) → AllZip R xs ys → AllZip R us vs → AllZip R (xs ++ us) (ys ++ vs)
zipped_both R [] [] us vs first second = second
zipped_both R [] (y ∷ ys) us vs first second = absurd first
zipped_both R (x ∷ xs) [] us vs first second = absurd first
zipped_both R (x ∷ xs) (y ∷ ys) us vs first second = (first.0, zipped_both R xs ys us vs first.1 second)

pub cells_come : (flat : Flat) (settings : Settings) (pages : PageTexts) (tokens : List TokenAt) (fs : List Fragments) (kepts : List (Option Kept)) → AllZip (Shows pages) fs kepts
    → AllZip (ComesToKept flat settings) tokens kepts → AllZip (λ t c. IsCell flat settings t.0 c) tokens (map (fragments_view pages) fs)
cells_come flat settings pages [] [] [] shows comes = tt
cells_come flat settings pages [] [] (k ∷ kepts) shows comes = absurd shows
cells_come flat settings pages [] (f ∷ fs) [] shows comes = absurd shows
cells_come flat settings pages [] (f ∷ fs) (k ∷ kepts) shows comes = absurd comes
cells_come flat settings pages (t ∷ tokens) [] [] shows comes = absurd comes
cells_come flat settings pages (t ∷ tokens) [] (k ∷ kepts) shows comes = absurd shows
cells_come flat settings pages (t ∷ tokens) (f ∷ fs) [] shows comes = absurd shows
cells_come flat settings pages (t ∷ tokens) (f ∷ fs) (kept ∷ kepts) shows comes =
    let (k, is, row, from) = shows.0 in (
      subst (IsCell flat settings t.0) (ap₂ row_view from row) (comes.0 k is),
      cells_come flat settings pages tokens fs kepts shows.1 comes.1,
    )

pub added_rows : (flat : Flat) (settings : Settings) (so_far tokens : List TokenAt) (before after : Growing) (rows : List Row) (cells : List TokenCell) → HasAdded flat settings so_far before
    → AllZip (λ t c. IsCell flat settings t.0 c) tokens cells → AddsRows before.pages after.pages rows cells → after.rows.items ≡ before.rows.items ++ rows
    → AreTyped flat settings after.bench.values.known.items → HasAdded flat settings (so_far ++ tokens) after
added_rows flat settings so_far tokens before after rows cells h are adds is typed = record {
  cells = h.cells ++ cells;
  are = zipped_both (λ t c. IsCell flat settings t.0 c) so_far h.cells tokens cells h.are are;
  hold = adds.holds h.cells h.hold;
  shown = λ later g.
      ap (rows_view later) is
      ∙ (map-append (row_view later) before.rows.items rows
      ∙ ap₂ (λ x y. x ++ y) (h.shown later (grows_more (open_texts before.pages) (open_texts after.pages) later adds.grows g)) (adds.shown later g));
  typed = typed;
}
