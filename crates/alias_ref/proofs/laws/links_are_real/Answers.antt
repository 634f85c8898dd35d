use Rattle.alias_ref.proofs.LinksAreReal.{links_real, links_all}
use Rattle.alias_ref.proofs.laws.links_are_real.Goals as goal

pub returns-clause-real : goal.returns-clause-real
returns-clause-real c = λ T own group p ls k l i. links_real T own group k l i

pub returns-clause-all : goal.returns-clause-all
returns-clause-all c = λ T own group p q trail target ls k b e. links_all T own group b ls k target e
