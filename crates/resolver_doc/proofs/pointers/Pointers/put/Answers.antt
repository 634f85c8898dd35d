use Rattle.std.proofs.Common.{◌++◌, ap, ◌∙◌}
use Rattle.std.specs.FinMap as map
use Rattle.resolver_doc.proofs.NumbersByTexts.{by_text, text_get, text_put}
use Rattle.resolver_doc.proofs.pointers.Pointers.put.Goals as goal

pub returns-clause-new : goal.returns-clause-new
returns-clause-new c =
    let key = c.in_ok-extend_from_slice.ensures.items ∙ ap (λ items. items ++ c.args.text.now) c.new-key.ensures.items in
    text_put c.self.inside.numbers.entries c.insert.new.self.entries c.extend_from_slice.new.self c.args.number c.in_ok-insert.ensures.entries
    ∙ (ap (λ text. map.insert (by_text c.self.inside.numbers.entries) text c.args.number) key
    ∙ ap (λ m. map.insert m c.args.text.now c.args.number) c.self.view_is)

pub returns-clause-old : goal.returns-clause-old
returns-clause-old c =
    let key = c.in_ok-extend_from_slice.ensures.items ∙ ap (λ items. items ++ c.args.text.now) c.new-key.ensures.items in
    c.in_ok-insert.ensures.old
    ∙ (text_get c.self.inside.numbers.entries c.extend_from_slice.new.self.items
    ∙ (ap (map.get (by_text c.self.inside.numbers.entries)) key
    ∙ ap (λ m. map.get m c.args.text.now) c.self.view_is))
