use Rattle.std.proofs.lemmas.Result.{on_ok_weaker}
use Rattle.build_plain.proofs.Gives.{four_put}
use Rattle.build_plain.proofs.permutation.put_sheets.Goals as goal

pub returns : goal.returns
returns c =
    on_ok_weaker c.put_shared-4.result
    (λ last. four_put c.args.name.now c.args.cells.now c.in_ok-swift.swift c.in_ok-css.css c.in_ok-json.json c.in_ok-android.android
    c.args.outputs.now c.put_shared.new.outputs c.put_shared-2.new.outputs c.put_shared-3.new.outputs c.put_shared-4.new.outputs
    c.in_ok-swift.ensures c.in_ok-css.ensures c.in_ok-json.ensures c.in_ok-android.ensures
    c.in_ok-put_shared.ensures c.in_ok-put_shared-2.ensures c.in_ok-put_shared-3.ensures last) c.put_shared-4.ensures
