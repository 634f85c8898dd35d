use Rattle.dec_fix.proofs.ReadingBack.{written_spells, written_read, written_again}
use Rattle.dec_fix.proofs.laws.written_is_read.Goals as goal

pub returns-clause-spells : goal.returns-clause-spells
returns-clause-spells c = written_spells

pub returns-clause-reads : goal.returns-clause-reads
returns-clause-reads c = written_read

pub returns-clause-front : goal.returns-clause-front
returns-clause-front c = written_again
