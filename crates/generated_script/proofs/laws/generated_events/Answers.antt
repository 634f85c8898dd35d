use Rattle.generated_script.proofs.EventsFit.{commits, every_fits, script}
use Rattle.generated_script.proofs.laws.generated_events.Goals as goal

pub returns-clause-script : goal.returns-clause-script
returns-clause-script c seed size small = script seed size small

pub returns-clause-fits : goal.returns-clause-fits
returns-clause-fits c seed size small = every_fits seed size small

pub returns-clause-commits : goal.returns-clause-commits
returns-clause-commits c seed size = commits seed size
