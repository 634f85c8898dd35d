use Rattle.ios_out.specs.Spelling.{swift_name}
use Rattle.ios_out.proofs.OwnNamesApart.{own_apart}
use Rattle.ios_out.proofs.SheetsDenote.{fragments_read}
use Rattle.ios_out.proofs.laws.fragment_laws.Goals as goal

pub returns-clause-read : goal.returns-clause-read
returns-clause-read c = fragments_read

pub returns-clause-apart : goal.returns-clause-apart
returns-clause-apart c = λ settings path v. own_apart settings (swift_name settings path) v
