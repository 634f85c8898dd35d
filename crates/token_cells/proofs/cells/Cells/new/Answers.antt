use Rattle.std.proofs.Common.{sym, subst}
use Rattle.token_cells.specs.inner.AddedToPages.{AreSheets}
use Rattle.token_cells.specs.inner.Kept.{texts_of}
use Rattle.token_cells.proofs.cells.Cells.new.Goals as goal

pub invariant_of-result : goal.invariant_of-result
invariant_of-result c =
    let pages = c.in_ok-pages.pages in
    subst (AreSheets pages) (sym (c.requires.2 (texts_of pages) c.in_ok-pages.ensures.grows)) (c.in_ok-pages.ensures.sheets c.requires.0 c.requires.1)
