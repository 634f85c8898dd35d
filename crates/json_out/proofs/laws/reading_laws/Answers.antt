use Rattle.json_out.proofs.SheetsRead.{members_read, read_once}
use Rattle.json_out.proofs.NumbersSpell.{numbers_read}
use Rattle.json_out.proofs.laws.reading_laws.Goals as goal

pub returns-clause-sheet : goal.returns-clause-sheet
returns-clause-sheet c = members_read

pub returns-clause-once : goal.returns-clause-once
returns-clause-once c = read_once

pub returns-clause-numbers : goal.returns-clause-numbers
returns-clause-numbers c = numbers_read
