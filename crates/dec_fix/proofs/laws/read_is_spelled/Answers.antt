use Rattle.dec_fix.proofs.ReadingBack.{read_exact, read_spells, spelled_read}
use Rattle.dec_fix.proofs.laws.read_is_spelled.Goals as goal

pub returns-clause-exact : goal.returns-clause-exact
returns-clause-exact c = read_exact

pub returns-clause-spells : goal.returns-clause-spells
returns-clause-spells c = read_spells

pub returns-clause-all : goal.returns-clause-all
returns-clause-all c = spelled_read
