use Rattle.std.proofs.Common.{ap, ◌∙◌}
use Rattle.std.specs.FinMap as map
use Rattle.resolver_doc.proofs.NumbersByTexts.{text_get}
use Rattle.resolver_doc.proofs.pointers.Pointers.get.Goals as goal

pub returns : goal.returns
returns c =
    c.copied.ensures
    ∙ (c.get.ensures.value ∙ (text_get c.self.inside.numbers.entries c.args.text.now ∙ ap (λ m. map.get m c.args.text.now) c.self.view_is))
