-- The laws of the layers below that are needed.
use Rattle.group_inherit.specs.Laws.{OneFlat, OneBreak, SoundIsUnbroken, EachTreeAnswers}
use Rattle.file_plan.specs.Laws.{OnePlan, EachPlan}
use Rattle.source_trees.specs.Laws.{OneFound, EachFound, MergedIsOrdered}

-- what has one answer
pub record OneLaws : Type 0 where
  pub plan : OnePlan
  pub found : OneFound
  pub flat : OneFlat
  pub broken : OneBreak
  pub sound : SoundIsUnbroken

-- what has an answer
pub record EachLaws : Type 0 where
  pub plan : EachPlan
  pub found : EachFound
  pub ordered : MergedIsOrdered
  pub tree : EachTreeAnswers
