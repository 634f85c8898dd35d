use Rattle.ios_out.proofs.BlocksJoin.{joined}
use Rattle.ios_out.proofs.OneReading.{read_once}
use Rattle.ios_out.proofs.TextsRead.{texts_read}
use Rattle.ios_out.proofs.laws.reading_laws.Goals as goal

pub returns-clause-join : goal.returns-clause-join
returns-clause-join c = λ s t vs ws a b. joined a b

pub returns-clause-sheet : goal.returns-clause-sheet
returns-clause-sheet c = texts_read

pub returns-clause-once : goal.returns-clause-once
returns-clause-once c = read_once
