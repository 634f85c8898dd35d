use Rattle.transforms.specs.Extent.{text_in}
use Rattle.token_cells.specs.declared.row.Fragments.{Fragments}
use Rattle.token_cells.specs.inner.Kept.{fragment_in, texts_of}
use Rattle.token_cells.proofs.PagesGrow.{made_row}
use Rattle.token_cells.proofs.keeping.keep_fragments.Goals as goal

pub returns : goal.returns
returns c =
    let others = texts_of c.args.others.now in
    let f : Fragments = c.args.fragments.now in
    made_row c.args.pages.now _ c.keep_shown.new.all c.keep_shown-2.new.all _ (fragment_in others.css others.names f.css) (fragment_in others.android others.names f.android)
    (fragment_in others.swift others.names f.swift) (text_in others.json f.json) c.in_ok-css.ensures c.in_ok-android.ensures
    (record { body = c.in_ok-keep_lines.ensures; names = c.in_ok-keep_swift_names.ensures }) c.in_ok-keep_lines-2.ensures
