use Rattle.alias_ref.proofs.ReferencesNamed.{alias_found, alias_spelled, pointer_found, pointer_spelled}
use Rattle.alias_ref.proofs.laws.references_named.Goals as goal

pub returns-clause-aliases : goal.returns-clause-aliases
returns-clause-aliases c = λ text path. (alias_spelled text path, alias_found text path)

pub returns-clause-pointers : goal.returns-clause-pointers
returns-clause-pointers c = λ text place. (pointer_spelled text place, pointer_found text place)
