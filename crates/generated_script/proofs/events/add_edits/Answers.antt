use Rattle.std.proofs.Common.{◌≡◌, ◌∙◌, ◌+◌, ◌-◌, ◌++◌, ap, arith}
use Rattle.std.specs.List.{flat_map, range_with_len}
use Rattle.edit_script.specs.Script.{event_text}
use Rattle.generated_script.specs.Script.{edit_events}
use Rattle.generated_script.proofs.ListsGrow.{grown_twice}
use Rattle.generated_script.proofs.events.add_edits.Goals as goal

pub loop-edit-preserved : goal.loop-edit-preserved
loop-edit-preserved c =
    let edit = c.loop-edit.edit in
    let f = edit_events c.args.seed c.args.size in
    c.in_ok-add_edit.ensures
    ∙ (ap (λ t. t ++ flat_map event_text (f edit)) c.loop-edit.invariant
    ∙ grown_twice event_text f c.args.out.now 1 (edit - 1) edit ((edit + 1) - 1) (omega (arith, c.loop-edit.auto.edit)) (omega (arith, c.loop-edit.auto.edit)))

pub returns : goal.returns
returns c =
    let last : c.loop-edit.edit - 1 ≡ 20 = omega arith in
    c.loop-edit.invariant
    ∙ ap (λ n. c.args.out.now ++ flat_map event_text (flat_map (edit_events c.args.seed c.args.size) (range_with_len 1 n))) last
