use Rattle.std.proofs.Common.{sym, ap, ◌∙◌}
use Rattle.transforms.specs.Rising.{stands_behind}
use Rattle.transforms.proofs.Risen.{risen}
use Rattle.transforms.proofs.rising.Rising.add.Goals as goal

pub returns-clause-names : goal.returns-clause-names
returns-clause-names c = λ names rise _.
    let name = c.args.name.now in
    risen names c.args.self.now name rise (ap (λ l. stands_behind l name) (sym c.self.view_is) ∙ (sym c.is_behind.ensures ∙ c.if-not-is_behind.false))
