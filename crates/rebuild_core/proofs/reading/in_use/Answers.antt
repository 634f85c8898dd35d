use Rattle.std.proofs.Common.{List, ℕ, Option, sym, ap, subst, ◌∙◌}
use Rattle.std.specs.FinMap as finite
use Rattle.tk_io.specs.FilesData.{FilesData}
use Rattle.file_plan.specs.InUse.{AreAmong, resolver_path}
use Rattle.file_plan.specs.Trees.{IsRead}
use Rattle.file_plan.specs.View.{plan_view}
use Rattle.file_plan.proofs.FilesInUse.{in_use_among}
use Rattle.build_plain.proofs.Trees.{document_read}
use Rattle.rebuild_core.specs.inner.Reading.{ReadOthers}
use Rattle.rebuild_core.proofs.NamedPlaces.{resolver_in_use}
use Rattle.rebuild_core.proofs.TreesAdded.{first_only}
use Rattle.rebuild_core.proofs.reading.in_use.Goals as goal

pub add_trees-requires : goal.add_trees-requires
add_trees-requires g c =
    let files = c.args.files.now in
    let used = c.in_ok-used.used in
    let perms = plan_view c.args.plan.now in
    let same = ap (λ (m : FilesData). finite.get m resolver_path) c.in_ok-used.ensures ∙ resolver_in_use files perms in
    record {
      past = c.requires.past;
      used = subst (λ (m : FilesData). AreAmong m files) (sym c.in_ok-used.ensures) (in_use_among files perms);
      first = subst (λ (o : Option (List ℕ)). IsRead o (finite.get c.args.trees resolver_path)) (sym same) (document_read files c.args.trees c.requires.trees);
      only = first_only files used c.args.trees c.requires.trees same;
    }

pub shapes_since-requires : goal.shapes_since-requires
shapes_since-requires g c =
    let files = c.args.files.now in
    record {
      trees = (c.in_ok-used.used, subst (λ (m : FilesData). AreAmong m files) (sym c.in_ok-used.ensures) (in_use_among files (plan_view c.args.plan.now)), c.in_ok-read.ensures.trees);
      past = c.requires.shapes;
    }

pub returns-clause-are : goal.returns-clause-are
returns-clause-are g c = record {
  used = c.in_ok-used.ensures;
  trees = c.in_ok-read.ensures.trees;
  shapes = c.in_ok-shapes.ensures c.in_ok-used.used (subst (λ (m : FilesData). AreAmong m c.args.files.now) (sym c.in_ok-used.ensures) (in_use_among c.args.files.now (plan_view c.args.plan.now))) c.in_ok-read.ensures.trees;
}

pub returns-clause-count : goal.returns-clause-count
returns-clause-count g c = subst (λ (m : FilesData). ReadOthers c.args.past.now.used m c.in_ok-read.read) c.in_ok-used.ensures c.in_ok-read.ensures.count

pub returns-clause-at_most : goal.returns-clause-at_most
returns-clause-at_most g c = λ n others. c.add_trees.ensures.at_most n (subst (λ (m : FilesData). ReadOthers c.args.past.now.used m n) (sym c.in_ok-used.ensures) others)

pub returns-in_err-read-clause-at_most : goal.returns-in_err-read-clause-at_most
returns-in_err-read-clause-at_most g c = λ n others. c.add_trees.ensures.at_most n (subst (λ (m : FilesData). ReadOthers c.args.past.now.used m n) (sym c.in_ok-used.ensures) others)

pub returns-in_err-shapes-clause-at_most : goal.returns-in_err-shapes-clause-at_most
returns-in_err-shapes-clause-at_most g c = λ n others. c.add_trees.ensures.at_most n (subst (λ (m : FilesData). ReadOthers c.args.past.now.used m n) (sym c.in_ok-used.ensures) others)
