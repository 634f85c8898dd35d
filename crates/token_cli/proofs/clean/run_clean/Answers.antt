use Rattle.std.proofs.Common.{arith}
use Rattle.tk_io.specs.Causes.{Rose}
use Rattle.token_cli.proofs.clean.run_clean.Goals as goal

-- a count that stands at 0 does not rise
stands : Rose 0 0 → ⊥
stands rose = omega (arith, rose)

pub returns-clause-read : goal.returns-clause-read
returns-clause-read c e = stands (c.run.ensures.runs.read_fault e).0

pub returns-clause-write : goal.returns-clause-write
returns-clause-write c e = stands (c.run.ensures.runs.write_fault e).0

pub returns-clause-decided : goal.returns-clause-decided
returns-clause-decided c memory = c.run.ensures.runs.decided memory stands stands
