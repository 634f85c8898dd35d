use Rattle.std.proofs.Common.{codes}
use Rattle.std.proofs.lemmas.Str.Pattern.{ends_text}
use Rattle.theme_css.proofs.Refusals.{by_end}
use Rattle.theme_css.proofs.refusal.is_refusal.Goals as goal

pub returns : goal.returns
returns c = by_end c.args.path.now c.eq.result c.ends_with.result c.eq.ensures c.if-eq.false (ends_text c.ends_with.result (codes "/REFUSED") c.args.path.now c.ends_with.ensures.cases)
