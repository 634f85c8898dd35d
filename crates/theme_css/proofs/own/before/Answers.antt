use Rattle.theme_css.proofs.Reading.{before_end}
use Rattle.theme_css.proofs.own.before.Goals as goal

pub returns : goal.returns
returns c = before_end c.strip_suffix.result c.args.text.now c.args.end.now _ c.strip_suffix.ensures.cases
