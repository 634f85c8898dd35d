use Rattle.transforms.proofs.QuotedReadsBack.{reads_on, string_again}
use Rattle.transforms.proofs.RunsAreFirst.{numbers_pass, numbers_start, runs_are_first}
use Rattle.transforms.proofs.ScaledAreWritten.{scaled_dec}
use Rattle.transforms.proofs.laws.spelling_laws.Goals as goal

pub returns-clause-back : goal.returns-clause-back
returns-clause-back c = string_again

pub returns-clause-on : goal.returns-clause-on
returns-clause-on c = reads_on

pub returns-clause-runs : goal.returns-clause-runs
returns-clause-runs c = runs_are_first

pub returns-clause-start : goal.returns-clause-start
returns-clause-start c = numbers_start

pub returns-clause-pass : goal.returns-clause-pass
returns-clause-pass c = numbers_pass

pub returns-clause-scaled : goal.returns-clause-scaled
returns-clause-scaled c = scaled_dec
