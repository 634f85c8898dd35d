use Rattle.resolver_doc.proofs.FormRules.{form_breaks_break}
use Rattle.resolver_doc.proofs.FormsListed.{broken_forms_are_listed}
use Rattle.resolver_doc.proofs.NamingRules.{naming_breaks_break}
use Rattle.resolver_doc.proofs.NamesListed.{broken_names_are_listed}
use Rattle.resolver_doc.proofs.laws.rule_laws.Goals as goal

pub returns-clause-forms : goal.returns-clause-forms
returns-clause-forms c = form_breaks_break

pub returns-clause-all_forms : goal.returns-clause-all_forms
returns-clause-all_forms c = broken_forms_are_listed

pub returns-clause-naming : goal.returns-clause-naming
returns-clause-naming c = naming_breaks_break

pub returns-clause-all_naming : goal.returns-clause-all_naming
returns-clause-all_naming c = broken_names_are_listed
