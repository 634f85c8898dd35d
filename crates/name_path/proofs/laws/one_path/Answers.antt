use Rattle.name_path.proofs.Spellings as spellings
use Rattle.name_path.proofs.laws.one_path.Goals as goal

pub returns : goal.returns
returns c = λ text path other s t. spellings.one_path text path other s t
