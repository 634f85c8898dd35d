use Rattle.std.proofs.lemmas.Str.Pattern.{strip_suffix_char}
use Rattle.tk_io.proofs.text.before.Goals as goal

pub returns : goal.returns
returns c = strip_suffix_char c.args.last c.args.text.now c.strip_suffix.result c.strip_suffix.ensures.cases c.requires
