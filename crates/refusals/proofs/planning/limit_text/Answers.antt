use Rattle.std.proofs.Common.{◌∷◌, []}
use Rattle.file_plan.specs.InUse.{resolver_path}
use Rattle.refusals.specs.Refusal.{counted, detail_line}
use Rattle.refusals.proofs.Reports.{told, one_more}
use Rattle.refusals.proofs.planning.limit_text.Goals as goal

pub returns : goal.returns
returns c =
    told c.args.files.now c.args.rule resolver_path c.args.start c.args.end c.in_ok-out.out c.append_count.new.out (counted c.args.count ∷ []) c.in_ok-out.ensures
    (one_more c.in_ok-out.out c.append_count.new.out (detail_line (counted c.args.count)) c.in_ok-append_count.ensures.ok)
