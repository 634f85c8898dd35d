use Rattle.std.proofs.Common.{Result, subst}
use Rattle.std.proofs.lemmas.Result.{IfOk-weaker}
use Rattle.transforms.specs.Config.{Settings}
use Rattle.transforms.specs.declared.config.ConfigFault.{ConfigFault}
use Rattle.build_plain.specs.Out.{Builds}
use Rattle.build_plain.specs.Parts.{ArePartsUnder}
use Rattle.build_plain.proofs.Planned.{built, built_config}
use Rattle.build_plain.proofs.assembling.assemble.Goals as goal

pub assemble_under-requires : goal.assemble_under-requires
assemble_under-requires c = subst (λ (r : Result Settings ConfigFault). ArePartsUnder c.args.files.now r c.args.parts.now) c.in-Ok.ensures.ok c.requires

pub returns-in-Ok : goal.returns-in-Ok
returns-in-Ok c =
    IfOk-weaker c.assemble_under.result _ (Builds c.args.files.now) (λ o is. built c.args.files.now c.in-Ok.cfg o c.in-Ok.ensures.ok is) c.assemble_under.ensures

pub returns-in-Err : goal.returns-in-Err
returns-in-Err c =
    IfOk-weaker c.refused_config.result _ (Builds c.args.files.now) (λ o is. built_config c.args.files.now c.in-Err.fault o c.in-Err.ensures.refused is) c.refused_config.ensures
