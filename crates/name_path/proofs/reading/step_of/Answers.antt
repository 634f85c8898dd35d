use Rattle.std.proofs.Common.{◌≢◌, All, sym, ap, ◌∙◌, subst}
use Rattle.name_path.specs.Reference.{escaped_step}
use Rattle.name_path.proofs.Escaping.{spells_itself}
use Rattle.name_path.proofs.reading.step_of.Goals as goal

pub returns-in_ok-copy-in-None-clause-step : goal.returns-in_ok-copy-in-None-clause-step
returns-in_ok-copy-in-None-clause-step c = sym (ap escaped_step c.in_ok-copy-in-None.ensures ∙ spells_itself c.args.segment.now c.requires (subst (All (λ b. b ≢ 126)) c.as_str.ensures c.in-None.ensures))
