use Rattle.std.proofs.Common.{◌+◌, drop, sym, subst}
use Rattle.file_plan.specs.View.{plan_perm_view, plan_sources_view, plan_view}
use Rattle.source_trees.specs.Merging.{AllInlineStand}
use Rattle.source_trees.specs.Sources.{HomeAt}
use Rattle.build_plain.specs.Parts.{AreEachKept}
use Rattle.build_plain.specs.inner.Making.{AllKnown, AllStand}
use Rattle.source_trees.proofs.NamedTrees.{next_perms, no_perms}
use Rattle.build_plain.proofs.Perms.{given_start, given_next, given_end}
use Rattle.build_plain.proofs.assembling.assemble_perms.Goals as goal

pub assemble_perm-requires : goal.assemble_perm-requires
assemble_perm-requires c =
    let files = c.args.files.now in
    let next = next_perms c.args.plan.now c.loop-perm.perm-index c.perm-item.result c.loop-perm-test.true c.perm-item.is in
    record {
      home = c.home_of-home.ensures;
      stand = subst (λ (h : HomeAt). AllInlineStand h.text (plan_sources_view c.perm-item.result.sources)) (sym c.home_of-home.ensures)
          (subst (AllStand files) next c.loop-perm.invariant.stand).0;
      known = (subst (AllKnown files c.args.shapes.now) next c.loop-perm.invariant.known).0;
      kept = (subst (λ ps. AreEachKept c.args.cfg.now files ps c.args.parts.now) next c.loop-perm.invariant.kept).0;
    }

pub loop-perm-init : goal.loop-perm-init
loop-perm-init c = record {
  stand = c.requires.stand;
  known = c.requires.known;
  kept = c.requires.kept;
  given = given_start c.args.cfg.now c.args.files.now (plan_view c.args.plan.now) c.new-outputs.result c.new-outputs.ensures;
}

pub loop-perm-preserved : goal.loop-perm-preserved
loop-perm-preserved c =
    let files = c.args.files.now in
    let plan = c.args.plan.now in
    let i = c.loop-perm.perm-index in
    let p = c.perm-item.result in
    let next = next_perms plan i p c.loop-perm-test.true c.perm-item.is in
    record {
      stand = (subst (AllStand files) next c.loop-perm.invariant.stand).1;
      known = (subst (AllKnown files c.args.shapes.now) next c.loop-perm.invariant.known).1;
      kept = (subst (λ ps. AreEachKept c.args.cfg.now files ps c.args.parts.now) next c.loop-perm.invariant.kept).1;
      given = given_next c.args.cfg.now files (plan_view plan) (plan_view (drop i plan)) (plan_perm_view p) (plan_view (drop (i + 1) plan)) c.loop-perm.outputs c.assemble_perm.new.outputs next
          c.loop-perm.invariant.given c.in_ok-assemble_perm.ensures;
    }

pub returns : goal.returns
returns c =
    let plan = c.args.plan.now in
    let i = c.loop-perm.perm-index in
    given_end c.args.cfg.now c.args.files.now (plan_view plan) (plan_view (drop i plan)) c.loop-perm.outputs (no_perms plan i c.loop-perm-test.false) c.loop-perm.invariant.given
