use Rattle.std.proofs.Common.{rules, ◌≡◌, ◌∷◌, length, sym, ap, ◌∙◌}
use Rattle.json_span.specs.Tree.{elements_in}
use Rattle.json_span.specs.View.{ref_view, items_view}
use Rattle.json_span.proofs.CursorsGoOn.{element_ahead, elements_after, no_element_ahead}
use Rattle.json_span.proofs.items.ItemsIterator.next.Goals as goal

pub returns-then-self-clause-steps : goal.returns-then-self-clause-steps
returns-then-self-clause-steps c =
    let none = no_element_ahead c.args.self.now (search rules) in
    (none, none)

pub new-node-requires : goal.new-node-requires
new-node-requires c =
    let first = element_ahead c.args.self.now (search rules) in
    ((0, (0, first.element)), first.lies)

pub span_at-next-requires : goal.span_at-next-requires
span_at-next-requires c =
    let first = element_ahead c.args.self.now (search rules) in
    ((0, (0, first.element)), first.lies)

pub new-requires : goal.new-requires
new-requires c =
    let i = c.args.self.now in
    let first = element_ahead i (search rules) in
    let next = ap (λ s. s.next) (c.span_at-next.ensures 0 0 first.element first.lies) in
    (first.others, elements_after i c.span_at-next.result.next first next)

pub returns-clause-steps : goal.returns-clause-steps
returns-clause-steps c =
    let i = c.args.self.now in
    let first = element_ahead i (search rules) in
    let next = ap (λ s. s.next) (c.span_at-next.ensures 0 0 first.element first.lies) in
    let left = c.new.ensures first.others (elements_after i _ first next) in
    ap elements_in first.whole ∙ sym (λ k. c.new-node.ensures 0 0 first.element first.lies k ∷ left k)

pub returns-clause-goes : goal.returns-clause-goes
returns-clause-goes c =
    let i = c.args.self.now in
    let first = element_ahead i (search rules) in
    let next = ap (λ s. s.next) (c.span_at-next.ensures 0 0 first.element first.lies) in
    let left = c.new.ensures first.others (elements_after i _ first next) in
    let step : items_view i ≡ ref_view c.new-node.result ∷ items_view c.new.result =
    ap elements_in first.whole ∙ sym (λ k. c.new-node.ensures 0 0 first.element first.lies k ∷ left k) in
    let shorter = ap length step in
    search rules
