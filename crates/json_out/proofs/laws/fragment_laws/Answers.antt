use Rattle.json_span.proofs.SliceSaid.{slice_says}
use Rattle.json_out.specs.Reading.{number_of_text}
use Rattle.json_out.proofs.TokensRead.{fragment_read}
use Rattle.json_out.proofs.SheetsRead.{paths_apart}
use Rattle.json_out.proofs.ValuesDiffer.{one_typed}
use Rattle.json_out.proofs.laws.fragment_laws.Goals as goal

pub returns-clause-read : goal.returns-clause-read
returns-clause-read c = fragment_read

pub returns-clause-slices : goal.returns-clause-slices
returns-clause-slices c = λ source root n s i. slice_says number_of_text source root n s i

pub returns-clause-apart : goal.returns-clause-apart
returns-clause-apart c = paths_apart

pub returns-clause-differ : goal.returns-clause-differ
returns-clause-differ c = one_typed
