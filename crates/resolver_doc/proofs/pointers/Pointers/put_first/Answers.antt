use Rattle.std.proofs.Common.{is_some, ap, sym, subst, ◌∙◌}
use Rattle.resolver_doc.specs.inner.Pointers.{AddsFirst}
use Rattle.resolver_doc.proofs.NumbersByTexts.{adds_new, puts_back}
use Rattle.resolver_doc.proofs.pointers.Pointers.put_first.Goals as goal

pub returns-in_ok-put : goal.returns-in_ok-put
returns-in_ok-put c =
    puts_back c.args.self.now c.put.new.self c.put-in-Some.new.self c.args.text.now c.args.number c.in-Some.earlier (sym c.in-Some.is ∙ c.in_ok-earlier.ensures.old) c.in_ok-earlier.ensures.new c.in_ok-put.ensures.new

pub returns-in_default : goal.returns-in_default
returns-in_default c =
    subst (λ m. AddsFirst c.args.self.now m c.args.text.now c.args.number) (sym c.in_ok-earlier.ensures.new)
    (adds_new c.args.self.now c.args.text.now c.args.number (ap is_some (sym c.in_ok-earlier.ensures.old ∙ c.in_default.is)))
