use Rattle.std.proofs.Common.{rules, ◌≡◌, Some}
use Rattle.alias_ref.specs.Written.{part_under}
use Rattle.alias_ref.specs.inner.Contents.{content_parts}
use Rattle.json_span.specs.View.{ref_view}
use Rattle.alias_ref.proofs.SpotsStand.{spot_part}
use Rattle.alias_ref.proofs.spot.Spot.part.Goals as goal

pub returns-clause-at : goal.returns-clause-at
returns-clause-at c = λ flat k h.
    let there : part_under c.args.step.now (content_parts c.args.self.now.content) ≡ Some (ref_view c.in-Some.node) = search rules in
    c.in_ok-spot.ensures.at flat (spot_part flat c.args.self.now c.args.step.now (ref_view c.in-Some.node) k h there) c.in_ok-content.ensures
