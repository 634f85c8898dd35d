use Rattle.std.proofs.Common.{◌≡◌, ◌∙◌, ◌∷◌, ◌++◌, ap, sym}
use Rattle.theme_css.specs.Sheet.{block_text, sheet_text}
use Rattle.theme_css.specs.inner.Views.{block_view, blocks_view, names_view}
use Rattle.theme_css.proofs.SheetsWhole.{sheet_whole}
use Rattle.theme_css.proofs.writing.sheet_of.Goals as goal

pub returns : goal.returns
returns c =
    let names = names_view c.args.names.now.items in
    let b = block_view names c.in-Some.first.now in
    let bs = blocks_view names c.in-Some.later.now in
    let all : c.args.blocks.now ≡ c.in-Some.first.now ∷ c.in-Some.later.now = c.in-Some.ensures.cases.0 in
    sheet_whole b bs c.add_block.new.out c.add_later_blocks.new.out (c.in_ok-add_block.ensures ∙ ap (λ l. l ++ block_text b) c.new-out.ensures) c.in_ok-add_later_blocks.ensures
    ∙ ap (λ l. sheet_text (blocks_view names l)) (sym all)
