use Rattle.std.proofs.Common.{refl, subst, length}
use Rattle.std.proofs.lemmas.Option.{slice_get_read}
use Rattle.token_cells.specs.inner.Earlier.{IsWithin}
use Rattle.token_cells.specs.inner.Kept.{texts_of}
use Rattle.token_cells.proofs.Known.{shown_at}
use Rattle.token_cells.proofs.earlier.kept_at.Goals as goal

pub bounds-rows-i : goal.bounds-rows-i
bounds-rows-i c = subst (IsWithin (length c.args.rows.now)) c.in-Some.is c.requires

pub returns-clause-kept : goal.returns-clause-kept
returns-clause-kept c =
    let i = c.in-Some.i in
    let row = c.index-rows-i.result in
    let within = subst (IsWithin (length c.args.rows.now)) c.in-Some.is c.requires in (
      i,
      c.in-Some.is,
      shown_at (texts_of c.args.pages.now) c.args.rows.now i row (slice_get_read c.args.rows.now (length c.args.rows.now) i row refl within c.index-rows-i.is),
      refl,
    )
