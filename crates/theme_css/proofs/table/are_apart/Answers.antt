use Rattle.std.proofs.Common.{◌≡◌, false, [], get_or}
use Rattle.theme_css.specs.declared.offers.Declared.{Declared}
use Rattle.theme_css.proofs.Apart.{one_seen}
use Rattle.theme_css.proofs.table.are_apart.Goals as goal

pub loop-each-preserved : goal.loop-each-preserved
loop-each-preserved c =
    let d : Declared = record { rank = 0; value = record { ref_ptr = (0, 0); now = [] } } in
    let seen = c.loop-each.seen.items in
    let ds = c.args.declared.now in
    let new : get_or seen (get_or ds c.loop-each.each-index d).rank false ≡ false = cc in
    one_seen c.args.count ds seen c.loop-each.each-index d c.loop-each-test.true c.loop-each.invariant new
