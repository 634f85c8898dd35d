use Rattle.name_path.proofs.Spellings as spellings
use Rattle.name_path.proofs.laws.one_place.Goals as goal

pub returns : goal.returns
returns c = λ text place other s t. spellings.one_place text place other s t
