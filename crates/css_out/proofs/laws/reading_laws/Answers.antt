use Rattle.css_out.proofs.BlocksJoin.{joined}
use Rattle.css_out.proofs.OneReading.{read_once}
use Rattle.css_out.proofs.TextsRead.{texts_read}
use Rattle.css_out.proofs.laws.reading_laws.Goals as goal

pub returns-clause-join : goal.returns-clause-join
returns-clause-join c = λ s t ds es a b. joined a b

pub returns-clause-once : goal.returns-clause-once
returns-clause-once c = read_once

pub returns-clause-sheet : goal.returns-clause-sheet
returns-clause-sheet c = texts_read
