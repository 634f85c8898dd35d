use Rattle.std.proofs.Common.{sym, subst}
use Rattle.std.specs.FinMap as map
use Rattle.file_plan.specs.InUse.{resolver_path}
use Rattle.file_plan.specs.Trees.{IsRead}
use Rattle.build_plain.proofs.Trees.{document_read}
use Rattle.rebuild_core.proofs.FilesRead.{first_one}
use Rattle.rebuild_core.proofs.FilesWork.{first_within}
use Rattle.rebuild_core.proofs.renewing.renewed_under.Goals as goal

pub resolver_tree-requires : goal.resolver_tree-requires
resolver_tree-requires g c = c.requires.1.trees

pub renewed_plan-requires : goal.renewed_plan-requires
renewed_plan-requires g c =
    let text = map.get c.args.files.now resolver_path in
    record {
      past = c.requires;
      plan = c.in-Ok.ensures.plan text (subst (IsRead text) (sym c.get.ensures) (document_read c.args.files.now c.in_ok-made.made.0 c.in_ok-made.ensures.trees));
      trees = c.in_ok-made.ensures.trees;
      first = c.in_ok-made.ensures.count;
    }

pub unplanned-requires : goal.unplanned-requires
unplanned-requires g c =
    let text = map.get c.args.files.now resolver_path in
    record {
      past = c.requires;
      refused = c.in-Err.ensures.refused text (subst (IsRead text) (sym c.get.ensures) (document_read c.args.files.now c.in_ok-made.made.0 c.in_ok-made.ensures.trees));
      trees = c.in_ok-made.ensures.trees;
      first = c.in_ok-made.ensures.count;
    }

pub returns-in-Ok-clause-counted : goal.returns-in-Ok-clause-counted
returns-in-Ok-clause-counted g c = c.renewed_plan.ensures.counted c.args.parses.now c.in_ok-made.ensures.step

pub returns-in-Ok-clause-at_most : goal.returns-in-Ok-clause-at_most
returns-in-Ok-clause-at_most g c = λ before is. c.renewed_plan.ensures.at_most before c.args.parses.now is c.in_ok-made.ensures.step

pub returns-in-Err-clause-counted : goal.returns-in-Err-clause-counted
returns-in-Err-clause-counted g c = c.unplanned.ensures.counted c.args.parses.now c.args.merges.now c.args.evals.now c.in_ok-made.ensures.step

pub returns-in-Err-clause-at_most : goal.returns-in-Err-clause-at_most
returns-in-Err-clause-at_most g c = λ before is. c.unplanned.ensures.at_most before c.args.parses.now c.args.merges.now c.args.evals.now is c.in_ok-made.ensures.step

pub returns-in_err-made-clause-at_most : goal.returns-in_err-made-clause-at_most
returns-in_err-made-clause-at_most g c = λ before is.
    let (r, reads) = first_one c.args.past.now.used (map.get c.args.files.now resolver_path) in
    first_within before c.args.cfg c.args.files.now c.args.past.now.used is.used c.laws_below.ensures.one c.args.parses.now c.resolver_tree.new.parses c.args.merges.now c.args.evals.now r reads
    (c.resolver_tree.ensures.at_most r reads)
