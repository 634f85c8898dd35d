use Rattle.css_out.proofs.OwnValues.{own_values, lines_named}
use Rattle.css_out.proofs.OwnNamesApart.{own_apart}
use Rattle.css_out.proofs.NamesComeFromLinks.{come_from}
use Rattle.css_out.proofs.LinesAreSpellable.{entries_sound}
use Rattle.css_out.proofs.SpelledIsRead.{body_read}
use Rattle.css_out.proofs.NoReferences.{no_references}
use Rattle.css_out.proofs.ValuesDiffer.{equal_values}
use Rattle.css_out.proofs.laws.fragment_laws.Goals as goal

pub returns-clause-values : goal.returns-clause-values
returns-clause-values c = λ prefix name links v. own_values prefix links name v

pub returns-clause-apart : goal.returns-clause-apart
returns-clause-apart c = own_apart

pub returns-clause-read : goal.returns-clause-read
returns-clause-read c = λ prefix name links v typed named targets. body_read name _ named (entries_sound prefix links targets name v named typed)

pub returns-clause-links : goal.returns-clause-links
returns-clause-links c = λ prefix name links v room. come_from prefix links name v room

pub returns-clause-without : goal.returns-clause-without
returns-clause-without c = no_references

pub returns-clause-differ : goal.returns-clause-differ
returns-clause-differ c = equal_values

pub returns-clause-named : goal.returns-clause-named
returns-clause-named c = lines_named
