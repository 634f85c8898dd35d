use Rattle.std.proofs.Common.{◌≡◌, ◌++◌, ℕ, List, Option, Some, length, map, take, arith, refl, sym, ap, ◌∙◌}
use Rattle.std.proofs.lemmas.List.{append-nil, take_all}
use Rattle.std.proofs.lemmas.Option.{slice_get_read}
use Rattle.std.proofs.lemmas.Slice.Zip.{AllZip-long}
use Rattle.std.specs.List.{slice_get}
use Rattle.token_cells.specs.declared.keeping.Kept.{Kept}
use Rattle.token_cells.specs.declared.row.Fragments.{Fragments}
use Rattle.token_cells.specs.declared.row.Row.{Row}
use Rattle.token_cells.specs.declared.row.Row.TheVariants.{Unbroken}
use Rattle.token_cells.specs.inner.Blocks.{Shows, StandsIn, moved_fragments}
use Rattle.token_cells.proofs.KeptRows.{all_at, its_fragments, one_taken, some_fragments}
use Rattle.token_cells.proofs.moving.push_moved.Goals as goal

pub loop-kept-init : goal.loop-kept-init
loop-kept-init c = record {
  room = omega (arith, c.in_ok-reserve.ensures.ok, c.in_ok-reserve.ensures.len);
  rows = λ pages fs shows. c.in_ok-reserve.ensures.items ∙ sym (append-nil c.args.rows.now.items);
}

pub moved_fragments-requires : goal.moved_fragments-requires
moved_fragments-requires c =
    let (pages, fs, shows, stand) = c.requires.shows in
    let k = c.loop-kept.kept-index in
    let there : slice_get c.args.kepts.now k ≡ Some c.kept-item.result = slice_get_read c.args.kepts.now (length c.args.kepts.now) k c.kept-item.result refl c.loop-kept-test.true c.kept-item.is in
    record {
      stands = all_at (StandsIn c.args.from.now) fs k c.in-Some.fragments.now stand
          (its_fragments pages fs c.args.kepts.now k c.kept-item.result c.fragments_of.result c.in-Some.fragments shows there c.fragments_of.ensures.shown c.in-Some.is);
      room = c.requires.room;
    }

pub loop-kept-preserved : goal.loop-kept-preserved
loop-kept-preserved c =
    let k = c.loop-kept.kept-index in
    let there : slice_get c.args.kepts.now k ≡ Some c.kept-item.result = slice_get_read c.args.kepts.now (length c.args.kepts.now) k c.kept-item.result refl c.loop-kept-test.true c.kept-item.is in
    record {
      room = omega (arith, c.loop-kept.invariant.room, c.loop-kept-test.true, c.push_reserved.ensures.len, c.push_reserved.ensures.capacity);
      rows = λ pages fs shows.
          one_taken (λ (f : Fragments). Unbroken (moved_fragments c.args.from.now c.args.to.now f)) c.args.rows.now.items c.loop-kept.rows.items c.push_reserved.new.self.items fs k
          c.in-Some.fragments.now (Unbroken c.moved_fragments.result) (c.loop-kept.invariant.rows pages fs shows)
          (its_fragments pages fs c.args.kepts.now k c.kept-item.result c.fragments_of.result c.in-Some.fragments shows there c.fragments_of.ensures.shown c.in-Some.is)
          c.push_reserved.ensures.items (ap (λ f. Unbroken f) c.moved_fragments.ensures);
    }

pub returns-in_default : goal.returns-in_default
returns-in_default c = λ pages fs shows.
    let k = c.loop-kept.kept-index in
    let there : slice_get c.args.kepts.now k ≡ Some c.kept-item.result = slice_get_read c.args.kepts.now (length c.args.kepts.now) k c.kept-item.result refl c.loop-kept-test.true c.kept-item.is in
    absurd (some_fragments pages fs c.args.kepts.now k c.kept-item.result c.fragments_of.result shows there c.fragments_of.ensures.shown c.in_default.is)

pub returns : goal.returns
returns c = λ pages fs shows.
    c.loop-kept.invariant.rows pages fs shows
    ∙ ap (λ (xs : List Fragments). c.args.rows.now.items ++ map (λ f. Unbroken (moved_fragments c.args.from.now c.args.to.now f)) xs)
    (take_all c.loop-kept.kept-index fs (omega (arith, c.loop-kept-test.false, AllZip-long (Shows pages) fs c.args.kepts.now shows)))
