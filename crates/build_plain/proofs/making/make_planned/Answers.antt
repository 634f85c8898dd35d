use Rattle.std.proofs.Common.{refl}
use Rattle.std.specs.FinMap as map
use Rattle.file_plan.specs.InUse.{resolver_path}
use Rattle.file_plan.specs.View.{plan_view}
use Rattle.build_plain.specs.Work.{work, PermsWork}
use Rattle.build_plain.proofs.Stands.{all_stand}
use Rattle.build_plain.proofs.Works.{any_ok, no_rise}
use Rattle.build_plain.proofs.making.make_planned.Goals as goal

pub make_perms-requires : goal.make_perms-requires
make_perms-requires g c = λ k.
    let files = c.args.files.now in
    let perms = plan_view c.args.plan.now in
    let stand = all_stand files perms c.file_plan_laws.ensures.stand c.requires.plan in
    let apart = c.file_plan_laws.ensures.apart (map.get files resolver_path) perms c.requires.plan in
    ((refl, tt), (c.requires.plan, (stand, (c.in_ok-shapes.ensures.known, (apart, c.in_ok-shapes.ensures.trees)))))

pub returns-clause-ok : goal.returns-clause-ok
returns-clause-ok g c = c.make_perms.ensures.ok

pub returns-clause-steps : goal.returns-clause-steps
returns-clause-steps g c = any_ok c.make_perms.result c.in_ok-shapes.ensures.steps

pub returns-clause-work : goal.returns-clause-work
returns-clause-work g c = c.make_perms.ensures.work

pub returns-clause-most_steps : goal.returns-clause-most_steps
returns-clause-most_steps g c = c.read_shapes.ensures.at_most

pub returns-clause-at_most : goal.returns-clause-at_most
returns-clause-at_most g c = c.make_perms.ensures.at_most

pub returns-in_err-shapes-clause-most_steps : goal.returns-in_err-shapes-clause-most_steps
returns-in_err-shapes-clause-most_steps g c = c.read_shapes.ensures.at_most

pub returns-in_err-shapes-clause-at_most : goal.returns-in_err-shapes-clause-at_most
returns-in_err-shapes-clause-at_most g c =
    no_rise (PermsWork c.args.files.now (plan_view c.args.plan.now)) (work 0 c.args.merges.now c.args.evals.now)
