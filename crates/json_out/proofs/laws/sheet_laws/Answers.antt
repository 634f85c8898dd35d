use Rattle.json_out.proofs.SheetsRead.{sheet_denotes}
use Rattle.json_out.proofs.laws.sheet_laws.Goals as goal

pub returns : goal.returns
returns c = record { denote = sheet_denotes }
