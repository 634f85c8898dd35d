use Rattle.std.proofs.Common.{List, ℕ, ◌++◌, ap, ◌∙◌}
use Rattle.std.proofs.lemmas.List.{append_assoc}
use Rattle.transforms.specs.Sheet.{OpenSheet}
use Rattle.transforms.proofs.sheet.Sheet.finish.Goals.{then-self+in_ok-append, else-self}
use Rattle.transforms.proofs.sheet.Sheet.finish.Goals as goal

pub returns-clause-grows : goal.returns-clause-grows
returns-clause-grows c =
    let text = ap (λ (s : OpenSheet). s.text) c.self.view_is in
    let last = c.self.inside.frame.last.now in
    let tail = c.self.inside.frame.tail.now in
    elim c.if-self.branch [
      | then-self+in_ok-append w ↦ (
        last ++ tail,
        c.in_ok-append-2.ensures.ok ∙ (ap (λ (t : List ℕ). t ++ tail) (w.text-is ∙ (w.in_ok-append.ensures.ok ∙ ap (λ (t : List ℕ). t ++ last) text)) ∙ append_assoc c.args.self.text last tail),
      )
      | else-self w ↦ (tail, c.in_ok-append-2.ensures.ok ∙ ap (λ (t : List ℕ). t ++ tail) (w.text-is ∙ text))
    ]
