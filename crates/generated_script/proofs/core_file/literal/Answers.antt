use Rattle.std.proofs.Common.{◌≡◌, ◌∙◌, ◌+◌, ◌-◌, ap, arith, refl, sym}
use Rattle.generated_script.specs.Tokens.{literal}
use Rattle.generated_script.proofs.LiteralsLast.{changed, left}
use Rattle.generated_script.proofs.core_file.literal.Goals as goal
use Rattle.generated_script.proofs.core_file.literal.Goals.{then-edited-i, else-edited-i}

pub loop-edit-init : goal.loop-edit-init
unfolding literal
loop-edit-init c = refl

pub loop-edit-preserved : goal.loop-edit-preserved
loop-edit-preserved c =
    let seed = c.args.seed in
    let size = c.args.size in
    let i = c.args.i in
    let edit = c.loop-edit.edit in
    let next : edit ≡ (edit + 1) - 1 = omega arith in
    elim c.if-edited-i.branch [
      | then-edited-i w ↦
          w.number-is ∙ (sym (changed seed size edit i c.loop-edit.auto.edit (sym c.edited.ensures ∙ w.if-edited-i.true)) ∙ ap (λ n. literal seed size n i) next)
      | else-edited-i w ↦
          w.number-is ∙ (c.loop-edit.invariant ∙ (sym (left seed size edit i c.loop-edit.auto.edit (λ e. w.if-edited-i.false (c.edited.ensures ∙ e))) ∙ ap (λ n. literal seed size n i) next))
    ]
