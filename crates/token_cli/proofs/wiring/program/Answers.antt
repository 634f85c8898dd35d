use Rattle.std.proofs.Common.{◌∙◌}
use Rattle.token_cli.proofs.wiring.program.Goals as goal

pub returns : goal.returns
returns c = (c.run_words.ensures.0, c.from.ensures ∙ c.run_words.ensures.1)
