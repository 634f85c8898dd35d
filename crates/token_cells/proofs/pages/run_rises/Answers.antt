use Rattle.std.proofs.Common.{◌++◌, ◌∷◌, [], refl, sym, subst}
use Rattle.transforms.specs.Rising.{RiseTo}
use Rattle.token_cells.proofs.Runs.{one_pushed, none_pushed, all_pushed}
use Rattle.token_cells.proofs.pages.run_rises.Goals as goal

pub loop-i-init : goal.loop-i-init
loop-i-init c = λ names rise. (names, rise, refl)

pub loop-i-preserved : goal.loop-i-preserved
loop-i-preserved c = λ names rise.
    let (so_far, risen, is) = c.loop-i.invariant names rise in
    let name = c.in-Some.name.now in (
      so_far ++ name ∷ [],
      c.add.ensures.names so_far risen c.if-not-add.false,
      one_pushed so_far c.args.texts.now _ c.loop-i.i c.args.run.end name c.loop-i-test.true (sym c.in-Some.ensures) is,
    )

pub returns-in_default : goal.returns-in_default
returns-in_default c = λ names rise _.
    let (so_far, risen, is) = c.loop-i.invariant names rise in
    subst (λ ns. RiseTo ns c.loop-i.rising) (none_pushed so_far c.args.texts.now _ c.loop-i.i c.args.run.end (sym c.in_default.ensures) is) risen

pub returns : goal.returns
returns c = λ names rise _.
    let (so_far, risen, is) = c.loop-i.invariant names rise in
    subst (λ ns. RiseTo ns c.loop-i.rising) (all_pushed so_far c.args.texts.now _ c.loop-i.i c.args.run.end c.loop-i-test.false is) risen
