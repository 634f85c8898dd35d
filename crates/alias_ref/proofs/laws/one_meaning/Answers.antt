use Rattle.alias_ref.proofs.OneMeaning.{lead_once, settle_once, means_once}
use Rattle.alias_ref.proofs.LinksOfParts.{kind_once, links_once}
use Rattle.alias_ref.proofs.laws.one_meaning.Goals as goal

pub returns-clause-lead : goal.returns-clause-lead
returns-clause-lead c = λ T p q r a b. lead_once T a b

pub returns-clause-end : goal.returns-clause-end
returns-clause-end c = λ T p q r a b. settle_once T a b

pub returns-clause-meaning : goal.returns-clause-meaning
returns-clause-meaning c = λ T p v w a b. means_once T a b

pub returns-clause-kind : goal.returns-clause-kind
returns-clause-kind c = λ T own group token k l a b. kind_once T own group a b

pub returns-clause-links : goal.returns-clause-links
returns-clause-links c = λ T own group p ls ms a b. links_once T own group a b
