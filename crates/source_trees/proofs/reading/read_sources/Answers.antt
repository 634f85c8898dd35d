use Rattle.std.proofs.Common.{◌+◌, [], drop, sym, subst, ap}
use Rattle.file_plan.specs.InUse.{source_names, names_in}
use Rattle.file_plan.specs.View.{plan_source_view, plan_sources_view}
use Rattle.source_trees.specs.Reading.{AddsFront, AddsTrees, CountsAdded, CountsAtMost}
use Rattle.source_trees.proofs.Laid.{next_sources, no_sources}
use Rattle.source_trees.proofs.NamedTrees.{adds_none, counts_none, adds_more, front_more, front_first, on_err, counts_more, most_more, most_first, at_most}
use Rattle.source_trees.proofs.reading.read_sources.Goals as goal

pub loop-source-init : goal.loop-source-init
loop-source-init g c = record { trees = λ new a. a; front = λ new a. a; steps = λ n a. a; most = λ n a. a }

pub loop-source-preserved : goal.loop-source-preserved
loop-source-preserved g c =
    let files = c.args.files.now in
    let sources = c.args.sources.now in
    let i = c.loop-source.source-index in
    let x = source_names (plan_source_view c.source-item.result) in
    let xs = names_in (plan_sources_view (drop (i + 1) sources)) in
    let next = ap names_in (next_sources sources i c.source-item.result c.loop-source-test.true c.source-item.is) in
    let adds = c.in_ok-read_source.ensures.trees in
    let counts = c.in_ok-read_source.ensures.steps in
    record {
      trees = λ new a. c.loop-source.invariant.trees new
          (subst (λ ns. AddsTrees files ns c.loop-source.trees new) (sym next) (adds_more files x xs c.loop-source.trees c.read_source.new.trees new adds a));
      front = λ new a. c.loop-source.invariant.front new
          (subst (λ ns. AddsFront files ns c.loop-source.trees new) (sym next) (front_more files x xs c.loop-source.trees c.read_source.new.trees new adds a));
      steps = λ n a. c.loop-source.invariant.steps n
          (subst (λ ns. CountsAdded files ns c.loop-source.trees c.loop-source.parses n) (sym next) (counts_more files x xs c.loop-source.trees c.read_source.new.trees c.loop-source.parses c.read_source.new.parses n adds counts a));
      most = λ n a. c.loop-source.invariant.most n
          (subst (λ ns. CountsAtMost files ns c.loop-source.trees c.loop-source.parses n) (sym next) (most_more files x xs c.loop-source.trees c.read_source.new.trees c.loop-source.parses c.read_source.new.parses n adds counts a));
    }

pub returns-in_err-read_source-clause-at_most : goal.returns-in_err-read_source-clause-at_most
returns-in_err-read_source-clause-at_most g c =
    let files = c.args.files.now in
    let sources = c.args.sources.now in
    let i = c.loop-source.source-index in
    let x = source_names (plan_source_view c.source-item.result) in
    let xs = names_in (plan_sources_view (drop (i + 1) sources)) in
    let next = ap names_in (next_sources sources i c.source-item.result c.loop-source-test.true c.source-item.is) in
    c.loop-source.invariant.most c.read_source.new.parses
    (subst (λ ns. CountsAtMost files ns c.loop-source.trees c.loop-source.parses c.read_source.new.parses) (sym next)
    (most_first files x xs c.loop-source.trees c.loop-source.parses c.read_source.new.parses c.in_err-read_source.ensures.at_most))

pub returns-in_err-read_source-clause-err : goal.returns-in_err-read_source-clause-err
returns-in_err-read_source-clause-err g c =
    let files = c.args.files.now in
    let sources = c.args.sources.now in
    let i = c.loop-source.source-index in
    let x = source_names (plan_source_view c.source-item.result) in
    let xs = names_in (plan_sources_view (drop (i + 1) sources)) in
    let next = ap names_in (next_sources sources i c.source-item.result c.loop-source-test.true c.source-item.is) in
    on_err c.from_residual.result
    (c.loop-source.invariant.front c.read_source.new.trees
    (subst (λ ns. AddsFront files ns c.loop-source.trees c.read_source.new.trees) (sym next)
    (front_first files x xs c.loop-source.trees c.read_source.new.trees c.in_err-read_source.ensures.err)))

pub returns-clause-trees : goal.returns-clause-trees
returns-clause-trees g c =
    let none = ap names_in (no_sources c.args.sources.now c.loop-source.source-index c.loop-source-test.false) in
    c.loop-source.invariant.trees c.loop-source.trees
    (subst (λ ns. AddsTrees c.args.files.now ns c.loop-source.trees c.loop-source.trees) (sym none) (adds_none c.args.files.now c.loop-source.trees))

pub returns-clause-steps : goal.returns-clause-steps
returns-clause-steps g c =
    let none = ap names_in (no_sources c.args.sources.now c.loop-source.source-index c.loop-source-test.false) in
    c.loop-source.invariant.steps c.loop-source.parses
    (subst (λ ns. CountsAdded c.args.files.now ns c.loop-source.trees c.loop-source.parses c.loop-source.parses) (sym none) (counts_none c.args.files.now c.loop-source.trees c.loop-source.parses))

pub returns-clause-at_most : goal.returns-clause-at_most
returns-clause-at_most g c =
    let none = ap names_in (no_sources c.args.sources.now c.loop-source.source-index c.loop-source-test.false) in
    c.loop-source.invariant.most c.loop-source.parses
    (subst (λ ns. CountsAtMost c.args.files.now ns c.loop-source.trees c.loop-source.parses c.loop-source.parses) (sym none)
    (at_most c.args.files.now [] c.loop-source.trees c.loop-source.parses c.loop-source.parses (counts_none c.args.files.now c.loop-source.trees c.loop-source.parses)))
