-- The sink behind is as it is given.
use Rattle.token_cli.proofs.gathered.run_gathered.Given as goal

abbrev pub ghosts-gathered_job : goal.ghosts-gathered_job
ghosts-gathered_job g a = record { written = g.K.Sink.written a.out; faults = g.K.Sink.faults a.out }
