use Rattle.file_plan.specs.View.{plan_view}
use Rattle.build_plain.proofs.Shapes.{all_known}
use Rattle.build_plain.proofs.Stands.{all_stand}
use Rattle.rebuild_core.proofs.renewing.perms_under.Goals as goal

pub renewed_perms-requires : goal.renewed_perms-requires
renewed_perms-requires g c =
    let files = c.args.files.now in
    let perms = plan_view c.args.plan.now in
    record {
      stand = all_stand files perms c.file_plan_laws.ensures.stand c.requires.plan;
      known = all_known c.shapes_known.ensures files perms c.args.shapes.now c.requires.shapes;
      past = c.requires.past;
    }
