use Rattle.rebuild_core.specs.inner.Below.{OneLaws, EachLaws}
use Rattle.rebuild_core.proofs.EachWork.{each_work}
use Rattle.rebuild_core.proofs.FromNone.{from_none}
use Rattle.rebuild_core.proofs.FromTheSame.{from_the_same}
use Rattle.rebuild_core.proofs.OneWork.{one_work}
use Rattle.rebuild_core.proofs.laws.work_laws.Goals as goal

pub returns : goal.returns
returns c =
    let one : OneLaws = record {
      plan = c.file_plan_laws.ensures.one;
      found = c.one_merge.ensures.found;
      flat = c.one_answer.ensures.flat;
      broken = c.one_answer.ensures.broken;
      sound = c.one_answer.ensures.sound;
    } in
    let each : EachLaws = record {
      plan = c.each_plan.ensures;
      found = c.each_merge.ensures.found;
      ordered = c.each_merge.ensures.ordered;
      tree = c.each_tree_answers.ensures;
    } in
    record {
      none = from_none each c.one_build.ensures.work;
      same = from_the_same one c.differ_decides.ensures each c.file_plan_laws.ensures.apart;
      one = one_work one;
      each = each_work each;
    }
