use Rattle.std.proofs.lemmas.Result.{IfOk-weaker}
use Rattle.std.specs.FinMap as map
use Rattle.file_plan.specs.InUse.{resolver_in, files_in_use}
use Rattle.file_plan.specs.View.{plan_view}
use Rattle.file_plan.proofs.FilesInUse.{in_use_among}
use Rattle.build_plain.specs.inner.Making.{AllKnown}
use Rattle.build_plain.proofs.Planned.{steps_counted, steps_at_most}
use Rattle.build_plain.proofs.Shapes.{resolver_among, all_known}
use Rattle.build_plain.proofs.Works.{any_ok}
use Rattle.build_plain.proofs.making.read_shapes.Goals as goal

pub shapes_of-requires : goal.shapes_of-requires
shapes_of-requires g c =
    let files = c.args.files.now in
    let perms = plan_view c.args.plan.now in
    (files_in_use files perms, in_use_among files perms, c.in_ok-read_named.ensures.trees (resolver_in files) (resolver_among files) c.requires.trees)

pub returns-clause-trees : goal.returns-clause-trees
returns-clause-trees g c =
    let files = c.args.files.now in
    any_ok c.shapes_of.result (c.in_ok-read_named.ensures.trees (resolver_in files) (resolver_among files) c.requires.trees)

pub returns-clause-known : goal.returns-clause-known
returns-clause-known g c =
    let files = c.args.files.now in
    let perms = plan_view c.args.plan.now in
    IfOk-weaker c.shapes_of.result _ (λ shapes. AllKnown files shapes perms)
    (λ shapes are. all_known c.shapes_known.ensures files perms shapes
    (are (files_in_use files perms) (in_use_among files perms) (c.in_ok-read_named.ensures.trees (resolver_in files) (resolver_among files) c.requires.trees))) c.shapes_of.ensures

pub returns-clause-steps : goal.returns-clause-steps
returns-clause-steps g c =
    let files = c.args.files.now in
    any_ok c.shapes_of.result
    (steps_counted files c.args.parses.now c.read_named.new.parses (map.len (files_in_use files (plan_view c.args.plan.now)))
    (c.in_ok-read_named.ensures.steps (resolver_in files) (resolver_among files) c.requires.trees))

pub returns-clause-at_most : goal.returns-clause-at_most
returns-clause-at_most g c =
    let files = c.args.files.now in
    steps_at_most files c.args.parses.now c.read_named.new.parses (map.len (files_in_use files (plan_view c.args.plan.now)))
    (c.read_named.ensures.at_most (resolver_in files) (resolver_among files) c.requires.trees)

pub returns-in_err-read_named-clause-at_most : goal.returns-in_err-read_named-clause-at_most
returns-in_err-read_named-clause-at_most g c =
    let files = c.args.files.now in
    steps_at_most files c.args.parses.now c.read_named.new.parses (map.len (files_in_use files (plan_view c.args.plan.now)))
    (c.read_named.ensures.at_most (resolver_in files) (resolver_among files) c.requires.trees)
