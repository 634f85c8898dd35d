use Rattle.css_out.proofs.SheetsDenote.{sheet_denotes, references}
use Rattle.css_out.proofs.laws.sheet_laws.Goals as goal

pub returns-clause-denote : goal.returns-clause-denote
returns-clause-denote c = sheet_denotes

pub returns-clause-references : goal.returns-clause-references
returns-clause-references c = references
