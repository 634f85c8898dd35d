use Rattle.std.proofs.Common.{◌≡◌, []}
use Rattle.std.proofs.lemmas.Result.{IfOk-weaker}
use Rattle.refusals.specs.Refusal.{report, report_text}
use Rattle.refusals.proofs.Reports.{bare}
use Rattle.refusals.proofs.refusal.refuse.Goals as goal

pub returns : goal.returns
returns c =
    IfOk-weaker c.refusal_text.result _ (λ b. b ≡ report_text c.args.files.now (report c.args.rule c.args.file.now c.args.start c.args.end []))
    (λ b is. bare c.args.files.now c.args.rule c.args.file.now c.args.start c.args.end c.file_text.result.now b c.file_text.ensures is) c.refusal_text.ensures
