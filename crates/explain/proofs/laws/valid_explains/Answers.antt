use Rattle.explain.proofs.ValidExplains.{hops_lead, origin_settles}
use Rattle.explain.proofs.laws.valid_explains.Goals as goal

pub returns-clause-hops : goal.returns-clause-hops
returns-clause-hops c = λ flat cert valid hop is. hops_lead flat cert valid hop is

pub returns-clause-origin : goal.returns-clause-origin
returns-clause-origin c = λ flat cert valid. origin_settles flat cert valid

pub returns-clause-end : goal.returns-clause-end
returns-clause-end c = λ flat cert valid. valid.end.no_reference
