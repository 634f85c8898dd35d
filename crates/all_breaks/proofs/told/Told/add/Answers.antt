use Rattle.std.proofs.Common.{◌∙◌, ap}
use Rattle.std.proofs.lemmas.Result.{on_ok_weaker}
use Rattle.all_breaks.specs.inner.Putting.{with_names}
use Rattle.all_breaks.proofs.Listings.{break_put}
use Rattle.all_breaks.proofs.told.Told.add.Goals as goal

pub returns : goal.returns
returns c =
    on_ok_weaker c.put.result
    (λ is. is ∙ (ap (with_names c.args.self.now c.args.text.now) c.in_ok-names.ensures ∙ break_put c.args.self.now c.args.name.now c.args.text.now)) c.put.ensures
