use Rattle.theme_css.proofs.Reading.{after_front}
use Rattle.theme_css.proofs.own.after.Goals as goal

pub returns : goal.returns
returns c = after_front c.strip_prefix.result c.args.text.now c.args.front.now _ c.strip_prefix.ensures.cases
