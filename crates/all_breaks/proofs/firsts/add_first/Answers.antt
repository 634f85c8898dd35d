use Rattle.std.proofs.lemmas.Result.{on_ok_weaker}
use Rattle.source_trees.specs.View.{home_view}
use Rattle.all_breaks.proofs.FirstBreaks.{none_added, one_added}
use Rattle.all_breaks.proofs.firsts.add_first.Goals as goal

pub returns-in-Tree : goal.returns-in-Tree
returns-in-Tree c =
    none_added c.args.files.now (home_view c.args.home) c.requires.home c.args.shapes.now c.from_ref.result.now c.args.source.now c.from_ref.ensures.value c.requires.known
    c.in_ok-_tree.field-0 c.in_ok-_tree.ensures c.in-Tree._tree c.in-Tree.is c.args.texts.now

pub returns-in_ok-text-in-Broken : goal.returns-in_ok-text-in-Broken
returns-in_ok-text-in-Broken c =
    on_ok_weaker c.push.result
    (one_added c.args.files.now (home_view c.args.home) c.requires.home c.args.shapes.now c.from_ref.result.now c.args.source.now c.from_ref.ensures.value c.requires.known
    c.in_ok-_tree.field-0 c.in_ok-_tree.ensures c.in-Broken.found c.in-Broken.is c.in_ok-text-in-Broken.text c.in_ok-text-in-Broken.ensures c.args.texts.now c.push.new.self) c.push.ensures.ok
