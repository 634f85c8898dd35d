use Rattle.std.proofs.Common.{inl, refl}
use Rattle.name_path.specs.Reference.{place_text}
use Rattle.name_path.proofs.Spellings as spellings
use Rattle.name_path.proofs.laws.place_reads_back.Goals as goal

pub returns-clause-alone : goal.returns-clause-alone
returns-clause-alone c = λ place other t s. spellings.one_place (place_text place) place other (t, inl refl) s
