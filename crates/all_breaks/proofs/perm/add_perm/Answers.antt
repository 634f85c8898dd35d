use Rattle.std.proofs.Common.{◌∙◌, ap}
use Rattle.std.proofs.lemmas.Result.{on_ok_weaker}
use Rattle.all_breaks.specs.Told.{with_breaks}
use Rattle.all_breaks.proofs.perm.add_perm.Goals as goal

pub returns : goal.returns
returns c =
    on_ok_weaker c.add_all.result
    (λ is. (c.in_ok-texts.texts, c.in_ok-texts.ensures, is ∙ ap (with_breaks c.args.told.now c.args.perm.now.name) c.as_slice.ensures)) c.add_all.ensures
