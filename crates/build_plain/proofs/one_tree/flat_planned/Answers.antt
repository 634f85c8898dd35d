use Rattle.std.proofs.Common.{arith}
use Rattle.std.proofs.lemmas.Result.{IfOk-weaker}
use Rattle.file_plan.specs.View.{plan_perm_view, plan_view}
use Rattle.permutations.specs.Permutation.{Permutation}
use Rattle.source_trees.specs.Merging.{AllInlineStand, AreKnown}
use Rattle.build_plain.specs.Breaks.{home_of}
use Rattle.build_plain.specs.OneTree.{ComesToIn, has_tree}
use Rattle.build_plain.proofs.Answered.{each_of}
use Rattle.build_plain.proofs.NamedTree.{perm_stops}
use Rattle.build_plain.proofs.Planned.{counted_first}
use Rattle.build_plain.proofs.Stands.{all_stand}
use Rattle.build_plain.proofs.one_tree.flat_planned.Goals as goal

pub flat_of_perm-requires : goal.flat_of_perm-requires
flat_of_perm-requires g c =
    let files = c.args.files.now in
    let perms = plan_view c.args.plan.now in
    let p = plan_perm_view c.in-Some.perm.now in
    let among = c.in-Some.ensures.found.among in
    record {
      stand = each_of (λ (q : Permutation). AllInlineStand (home_of files).text q.sources) perms p (all_stand files perms c.file_plan_laws.ensures.stand c.requires.plan) among;
      known = each_of (λ (q : Permutation). AreKnown files c.in_ok-shapes.shapes q.sources) perms p c.in_ok-shapes.ensures.known among;
    }

pub returns-in_default-clause-parses : goal.returns-in_default-clause-parses
returns-in_default-clause-parses g c = omega (arith, counted_first c.args.files.now (plan_view c.args.plan.now))

pub returns-clause-ok : goal.returns-clause-ok
returns-clause-ok g c =
    let perms = plan_view c.args.plan.now in
    IfOk-weaker c.flat_of_perm.result _ (λ flat. ComesToIn c.args.files.now perms c.args.name.now (has_tree flat))
    (λ flat has. (plan_perm_view c.in-Some.perm.now, c.in-Some.ensures.found, has)) c.flat_of_perm.ensures.ok

pub returns-clause-stop : goal.returns-clause-stop
returns-clause-stop g c =
    let perms = plan_view c.args.plan.now in
    perm_stops c.args.files.now perms c.args.name.now (plan_perm_view c.in-Some.perm.now) c.in-Some.ensures.found c.flat_of_perm.result c.flat_of_perm.ensures.broken c.flat_of_perm.ensures.no_other
