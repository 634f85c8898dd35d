-- The sources so far hold the same.
use Rattle.std.proofs.Common.{◌≡◌, take}
use Rattle.std.specs.Prelude.{map}
use Rattle.file_plan.specs.View.{plan_source_view}
use Rattle.source_trees.specs.Contents.{source_content}
use Rattle.source_trees.specs.View.{home_view}
use Rattle.rebuild_core.proofs.contents.are_same.Given as goal

abbrev pub invariant-loop-i : goal.invariant-loop-i
invariant-loop-i l =
    map (λ s. source_content l.files (home_view l.home) (plan_source_view s)) (take l.i l.sources)
    ≡ map (λ s. source_content l.others (home_view l.origin) (plan_source_view s)) (take l.i l.more)
