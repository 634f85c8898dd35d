use Rattle.ios_out.proofs.SheetsDenote.{sheet_denotes}
use Rattle.ios_out.proofs.laws.sheet_laws.Goals as goal

pub returns : goal.returns
returns c = record { denote = sheet_denotes }
