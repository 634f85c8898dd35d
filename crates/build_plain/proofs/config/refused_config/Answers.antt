use Rattle.std.proofs.Common.{length}
use Rattle.std.proofs.lemmas.Result.{IfOk-weaker}
use Rattle.refusals.specs.Refusal.{file_text}
use Rattle.build_plain.specs.Out.{config_path, config_reports, refused_config}
use Rattle.build_plain.proofs.Planned.{config_told}
use Rattle.build_plain.proofs.config.refused_config.Goals as goal

pub returns : goal.returns
returns c =
    let files = c.args.files.now in
    let end = length (file_text files config_path) in
    IfOk-weaker c.one_output.result _ (refused_config files (config_reports end c.args.fault.now))
    (λ o is. config_told files end c.args.fault.now c.in_ok-body.body o c.in_ok-body.ensures is) c.one_output.ensures
