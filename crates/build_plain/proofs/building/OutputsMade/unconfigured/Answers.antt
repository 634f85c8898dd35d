use Rattle.build_plain.proofs.Planned.{told_fault}
use Rattle.build_plain.proofs.Works.{on_ok_if}
use Rattle.build_plain.proofs.building.OutputsMade.unconfigured.Goals as goal

pub returns-clause-broken : goal.returns-clause-broken
returns-clause-broken c = on_ok_if c.refused_config.result (told_fault c.args.files.now c.args.fault.now) c.refused_config.ensures
