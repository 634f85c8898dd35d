use Rattle.std.proofs.Common.{◌+◌, [], drop, sym, subst, ap}
use Rattle.file_plan.specs.InUse.{names_in, file_names}
use Rattle.file_plan.specs.View.{plan_sources_view, plan_view}
use Rattle.source_trees.specs.Reading.{AddsFront, AddsTrees, CountsAdded, CountsAtMost}
use Rattle.source_trees.proofs.NamedTrees.{next_perms, no_perms, adds_none, counts_none, adds_more, front_more, front_first, on_err, counts_more, most_more, most_first, at_most}
use Rattle.source_trees.proofs.reading.read_named.Goals as goal

pub loop-perm-init : goal.loop-perm-init
loop-perm-init g c = record { trees = λ new a. a; front = λ new a. a; steps = λ n a. a; most = λ n a. a }

pub loop-perm-preserved : goal.loop-perm-preserved
loop-perm-preserved g c =
    let files = c.args.files.now in
    let plan = c.args.plan.now in
    let i = c.loop-perm.perm-index in
    let x = names_in (plan_sources_view c.perm-item.result.sources) in
    let xs = file_names (plan_view (drop (i + 1) plan)) in
    let next = ap file_names (next_perms plan i c.perm-item.result c.loop-perm-test.true c.perm-item.is) in
    let adds = subst (λ l. AddsTrees files (names_in (plan_sources_view l)) c.loop-perm.trees c.read_sources.new.trees) c.as_slice.ensures c.in_ok-read_sources.ensures.trees in
    let counts = subst (λ l. CountsAdded files (names_in (plan_sources_view l)) c.loop-perm.trees c.loop-perm.parses c.read_sources.new.parses) c.as_slice.ensures c.in_ok-read_sources.ensures.steps in
    record {
      trees = λ new a. c.loop-perm.invariant.trees new
          (subst (λ ns. AddsTrees files ns c.loop-perm.trees new) (sym next) (adds_more files x xs c.loop-perm.trees c.read_sources.new.trees new adds a));
      front = λ new a. c.loop-perm.invariant.front new
          (subst (λ ns. AddsFront files ns c.loop-perm.trees new) (sym next) (front_more files x xs c.loop-perm.trees c.read_sources.new.trees new adds a));
      steps = λ n a. c.loop-perm.invariant.steps n
          (subst (λ ns. CountsAdded files ns c.loop-perm.trees c.loop-perm.parses n) (sym next) (counts_more files x xs c.loop-perm.trees c.read_sources.new.trees c.loop-perm.parses c.read_sources.new.parses n adds counts a));
      most = λ n a. c.loop-perm.invariant.most n
          (subst (λ ns. CountsAtMost files ns c.loop-perm.trees c.loop-perm.parses n) (sym next) (most_more files x xs c.loop-perm.trees c.read_sources.new.trees c.loop-perm.parses c.read_sources.new.parses n adds counts a));
    }

pub returns-in_err-read_sources-clause-at_most : goal.returns-in_err-read_sources-clause-at_most
returns-in_err-read_sources-clause-at_most g c =
    let files = c.args.files.now in
    let plan = c.args.plan.now in
    let i = c.loop-perm.perm-index in
    let x = names_in (plan_sources_view c.perm-item.result.sources) in
    let xs = file_names (plan_view (drop (i + 1) plan)) in
    let next = ap file_names (next_perms plan i c.perm-item.result c.loop-perm-test.true c.perm-item.is) in
    c.loop-perm.invariant.most c.read_sources.new.parses
    (subst (λ ns. CountsAtMost files ns c.loop-perm.trees c.loop-perm.parses c.read_sources.new.parses) (sym next)
    (most_first files x xs c.loop-perm.trees c.loop-perm.parses c.read_sources.new.parses
    (subst (λ l. CountsAtMost files (names_in (plan_sources_view l)) c.loop-perm.trees c.loop-perm.parses c.read_sources.new.parses) c.as_slice.ensures c.in_err-read_sources.ensures.at_most)))

pub returns-in_err-read_sources-clause-err : goal.returns-in_err-read_sources-clause-err
returns-in_err-read_sources-clause-err g c =
    let files = c.args.files.now in
    let plan = c.args.plan.now in
    let i = c.loop-perm.perm-index in
    let x = names_in (plan_sources_view c.perm-item.result.sources) in
    let xs = file_names (plan_view (drop (i + 1) plan)) in
    let next = ap file_names (next_perms plan i c.perm-item.result c.loop-perm-test.true c.perm-item.is) in
    on_err c.from_residual.result
    (c.loop-perm.invariant.front c.read_sources.new.trees
    (subst (λ ns. AddsFront files ns c.loop-perm.trees c.read_sources.new.trees) (sym next)
    (front_first files x xs c.loop-perm.trees c.read_sources.new.trees (subst (λ l. AddsFront files (names_in (plan_sources_view l)) c.loop-perm.trees c.read_sources.new.trees) c.as_slice.ensures c.in_err-read_sources.ensures.err))))

pub returns-clause-trees : goal.returns-clause-trees
returns-clause-trees g c =
    let none = ap file_names (no_perms c.args.plan.now c.loop-perm.perm-index c.loop-perm-test.false) in
    c.loop-perm.invariant.trees c.loop-perm.trees
    (subst (λ ns. AddsTrees c.args.files.now ns c.loop-perm.trees c.loop-perm.trees) (sym none) (adds_none c.args.files.now c.loop-perm.trees))

pub returns-clause-steps : goal.returns-clause-steps
returns-clause-steps g c =
    let none = ap file_names (no_perms c.args.plan.now c.loop-perm.perm-index c.loop-perm-test.false) in
    c.loop-perm.invariant.steps c.loop-perm.parses
    (subst (λ ns. CountsAdded c.args.files.now ns c.loop-perm.trees c.loop-perm.parses c.loop-perm.parses) (sym none) (counts_none c.args.files.now c.loop-perm.trees c.loop-perm.parses))

pub returns-clause-at_most : goal.returns-clause-at_most
returns-clause-at_most g c =
    let none = ap file_names (no_perms c.args.plan.now c.loop-perm.perm-index c.loop-perm-test.false) in
    c.loop-perm.invariant.most c.loop-perm.parses
    (subst (λ ns. CountsAtMost c.args.files.now ns c.loop-perm.trees c.loop-perm.parses c.loop-perm.parses) (sym none)
    (at_most c.args.files.now [] c.loop-perm.trees c.loop-perm.parses c.loop-perm.parses (counts_none c.args.files.now c.loop-perm.trees c.loop-perm.parses)))
