use Rattle.std.proofs.Common.{◌∙◌, ◌++◌, codes, ap}
use Rattle.edit_script.specs.Script.{event_text, put}
use Rattle.generated_script.proofs.events.add_core.Goals as goal

pub returns : goal.returns
returns c =
    c.in_ok-add_put.ensures
    ∙ ap (λ text. c.args.out.now ++ event_text (put (codes "core.json") text)) (c.as_slice.ensures ∙ c.in_ok-text.ensures)
