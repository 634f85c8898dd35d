use Rattle.resolver_doc.proofs.ApartContexts.{contexts_are_apart}
use Rattle.resolver_doc.proofs.Dots.{dots_are_taken}
use Rattle.resolver_doc.proofs.PointersNamed.{pointers_spell, pointers_find}
use Rattle.resolver_doc.proofs.laws.naming_laws.Goals as goal

pub returns-clause-files : goal.returns-clause-files
returns-clause-files c = dots_are_taken

pub returns-clause-spelled : goal.returns-clause-spelled
returns-clause-spelled c = pointers_spell

pub returns-clause-found : goal.returns-clause-found
returns-clause-found c = pointers_find

pub returns-clause-apart : goal.returns-clause-apart
returns-clause-apart c = contexts_are_apart
