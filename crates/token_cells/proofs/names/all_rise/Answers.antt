use Rattle.std.proofs.Common.{◌≡◌, ◌++◌, ◌∷◌, [], ◌+◌, List, drop, flat_map, refl, sym, ap, subst, ◌∙◌}
use Rattle.std.proofs.lemmas.List.{append-nil, append_assoc, drop_all, drop_more}
use Rattle.ring.specs.Lists.{AreApart}
use Rattle.token_cells.specs.Breaks.{names_on}
use Rattle.token_cells.specs.declared.row.Row.{Row}
use Rattle.token_cells.specs.inner.Kept.{row_view, rows_view, texts_of}
use Rattle.token_cells.proofs.names.all_rise.Goals as goal

pub loop-row-init : goal.loop-row-init
loop-row-init c = ([], c.new-rising.ensures, refl)

pub loop-row-preserved : goal.loop-row-preserved
loop-row-preserved c =
    let pages = texts_of c.args.pages.now in
    let rows = c.args.rows.now in
    let i = c.loop-row.row-index in
    let row = c.row-item.result in
    let (so_far, risen, is) = c.loop-row.invariant in
    let own = names_on c.args.platform (row_view pages row) in
    let named = λ (rs : List Row). flat_map (names_on c.args.platform) (rows_view pages rs) in
    let next : drop i rows ≡ row ∷ drop (i + 1) rows = drop_more rows i row c.loop-row-test.true ∙ ap (λ r. r ∷ drop (i + 1) rows) (sym c.row-item.is) in (
      so_far ++ own,
      c.row_rises.ensures so_far risen c.if-not-row_rises.false,
      append_assoc so_far own (named (drop (i + 1) rows)) ∙ (ap (λ rs. so_far ++ named rs) (sym next) ∙ is),
    )

pub returns : goal.returns
returns c = λ _.
    let pages = texts_of c.args.pages.now in
    let rows = c.args.rows.now in
    let (so_far, risen, is) = c.loop-row.invariant in
    let named = λ (rs : List Row). flat_map (names_on c.args.platform) (rows_view pages rs) in
    let all : so_far ≡ named rows =
    sym (append-nil so_far) ∙ (ap (λ rs. so_far ++ named rs) (sym (drop_all c.loop-row.row-index rows c.loop-row-test.false)) ∙ is) in
    subst AreApart all (c.clash_laws.ensures.rising so_far c.loop-row.rising risen)
