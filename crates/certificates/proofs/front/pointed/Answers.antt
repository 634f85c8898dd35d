use Rattle.std.proofs.Common.{inl}
use Rattle.name_path.proofs.Spellings.{one_place}
use Rattle.certificates.proofs.front.pointed.Goals as goal

pub returns-in-Ok-clause-found : goal.returns-in-Ok-clause-found
returns-in-Ok-clause-found c place token e = one_place c.args.pointer.now c.in-Ok.place place c.in-Ok.ensures.place (token, inl e)
