use Rattle.alias_ref.proofs.RefsAreWritten.{written_listed, listed_written}
use Rattle.alias_ref.proofs.laws.refs_are_written.Goals as goal

pub returns-clause-written : goal.returns-clause-written
returns-clause-written c = λ d trail token steps h. written_listed d trail token steps h

pub returns-clause-listed : goal.returns-clause-listed
returns-clause-listed c = λ d token h. listed_written d token h
