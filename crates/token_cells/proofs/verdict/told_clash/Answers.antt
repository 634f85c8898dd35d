use Rattle.std.proofs.Common.{refl}
use Rattle.std.proofs.lemmas.Slice.Zip.{either_empty_from_Zip}
use Rattle.std.specs.Iterator.Adapters.{zip_first, zip_second}
use Rattle.std.specs.Slice.Iter.{iter_rest}
use Rattle.token_cells.specs.Breaks.{clashes_from, names_on}
use Rattle.refusals.specs.Refusal.{report_text}
use Rattle.token_cells.specs.inner.Kept.{rows_view, texts_of}
use Rattle.token_cells.proofs.Sides.{none_left, none_shown}
use Rattle.token_cells.proofs.verdict.told_clash.Goals as goal

pub returns : goal.returns
returns c =
    none_left (report_text c.args.files.now) (clashes_from c.args.platform (names_on c.args.platform) c.loop-token.clash) (iter_rest (zip_first c.loop-token.token-iterator)) (rows_view (texts_of c.args.pages.now) (iter_rest (zip_second c.loop-token.token-iterator))) _ refl
    c.loop-token.invariant (none_shown (texts_of c.args.pages.now) _ _ (either_empty_from_Zip _ c.next.new.self _ c.in-None.is c.next.ensures.steps))
