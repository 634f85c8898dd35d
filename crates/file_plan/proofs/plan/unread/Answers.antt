use Rattle.std.proofs.Common.{refl, subst}
use Rattle.json_span.specs.Answer.{IsJsonFault, flawed, stops}
use Rattle.json_span.specs.Flaw.{equal_names, too_deep}
use Rattle.json_span.specs.declared.reader.JsonFault.{JsonFault}
use Rattle.file_plan.proofs.plan.unread.Goals as goal

pub returns-in-Syntax : goal.returns-in-Syntax
returns-in-Syntax c text is = (stops c.in-Syntax.at, subst (λ (e : JsonFault). IsJsonFault text e) c.in-Syntax.is is, refl)

pub returns-in-Dup : goal.returns-in-Dup
returns-in-Dup c text is = (flawed (equal_names c.in-Dup.start c.in-Dup.end), subst (λ (e : JsonFault). IsJsonFault text e) c.in-Dup.is is, refl)

pub returns-in-Deep : goal.returns-in-Deep
returns-in-Deep c text is = (flawed (too_deep c.in-Deep.start c.in-Deep.end), subst (λ (e : JsonFault). IsJsonFault text e) c.in-Deep.is is, refl)
