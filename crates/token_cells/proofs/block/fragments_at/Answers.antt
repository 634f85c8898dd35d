use Rattle.std.proofs.Common.{length, refl}
use Rattle.std.proofs.lemmas.Option.{slice_get_read}
use Rattle.token_cells.proofs.KeptRows.{shows_at}
use Rattle.token_cells.proofs.block.fragments_at.Goals as goal

pub returns-in-Some : goal.returns-in-Some
returns-in-Some c =
    let kept = c.in-Some.kept.now in
    let found = c.in-Some.ensures.lookup in
    shows_at c.args.kepts.now c.args.i kept c.fragments_of.result (slice_get_read c.args.kepts.now (length c.args.kepts.now) c.args.i kept refl found.3.0 found.1)
    c.fragments_of.ensures.some
