use Rattle.std.proofs.Common.{◌∙◌, ◌++◌, ap, codes, flat_map}
use Rattle.std.proofs.lemmas.List.{take_all}
use Rattle.refusals.specs.Refusal.{quoted_line}
use Rattle.all_breaks.proofs.writing.append_names.Goals as goal

pub returns : goal.returns
returns c =
    c.loop-name.invariant
    ∙ ap (λ names. c.args.out.now ++ flat_map (quoted_line (codes "in ")) names) (take_all c.loop-name.name-index c.as_slice-name-items.result.now c.loop-name-test.false ∙ c.as_slice-name-items.ensures)
