use Rattle.std.proofs.Common.{rules, ◌≡◌, ◌&&◌, true, false, ap, sym, ◌∙◌}
use Rattle.std.specs.List.{list_all}
use Rattle.edit_script.specs.Script.{is_segment}
use Rattle.edit_script.proofs.Segments.{segments, one_segment, first_segment}
use Rattle.edit_script.proofs.path.has_segments.Goals as goal

pub returns-then-not-is_segment : goal.returns-then-not-is_segment
returns-then-not-is_segment c =
    let front = c.in-Some.segment.now in
    let back = c.in-Some.after.now in
    let bad : is_segment front ≡ false = cc in
    ap (λ b. b && list_all is_segment (segments back)) (sym bad) ∙ (sym (first_segment c.loop-segment.rest.now front back c.in-Some.ensures) ∙ c.loop-segment.invariant.1)

pub loop-segment-preserved : goal.loop-segment-preserved
loop-segment-preserved c =
    let front = c.in-Some.segment.now in
    let back = c.in-Some.after.now in
    let good : is_segment front ≡ true = cc in
    (search rules, ap (λ b. b && list_all is_segment (segments back)) (sym good) ∙ (sym (first_segment c.loop-segment.rest.now front back c.in-Some.ensures) ∙ c.loop-segment.invariant.1))

pub returns : goal.returns
returns c = c.is_segment-2.ensures ∙ (sym (one_segment c.loop-segment.rest.now c.in_default.ensures) ∙ c.loop-segment.invariant.1)
