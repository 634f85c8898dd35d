use Rattle.std.proofs.Common.{ap}
use Rattle.std.proofs.lemmas.Result.{on_ok_weaker}
use Rattle.token_cells.specs.inner.Kept.{fragments_view, texts_of}
use Rattle.token_cells.proofs.CopiedBlocks.{added_rows, adds_rows, cells_come, copied_room}
use Rattle.token_cells.proofs.gathering.Growing.add_block.Goals as goal

pub push_moved-requires : goal.push_moved-requires
push_moved-requires c = record {
  shows = (texts_of c.args.pages.now, c.requires.run.fs, c.requires.run.shows, c.requires.run.block.stand);
  room = copied_room c.args.self.now.pages c.keep_block.new.pages c.in_ok-own.own (texts_of c.args.pages.now) c.args.block.now c.in_ok-own.ensures c.requires.fits;
}

pub returns : goal.returns
returns c =
    let others = texts_of c.args.pages.now in
    let run = c.requires.run in
    on_ok_weaker c.push_moved.result
    (λ pushed. λ flat settings so_far tokens comes h.
    added_rows flat settings so_far tokens c.args.self.now _ _ _ h (cells_come flat settings others tokens run.fs c.args.kepts.now run.shows comes)
    (adds_rows c.args.self.now.pages c.keep_block.new.pages c.in_ok-own.own others c.args.block.now c.in_ok-own.ensures c.requires.fits run.fs run.block) (pushed others run.fs run.shows) h.typed)
    c.push_moved.ensures
