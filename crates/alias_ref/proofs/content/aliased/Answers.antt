use Rattle.std.proofs.Common.{sym, ap, ◌∙◌, option_map, Err}
use Rattle.alias_ref.specs.Written.{reference_written, whole, refers}
use Rattle.alias_ref.proofs.ReferencesNamed.{alias_found, no_alias}
use Rattle.alias_ref.proofs.content.aliased.Goals as goal

pub returns-in-Ok-clause-written : goal.returns-in-Ok-clause-written
returns-in-Ok-clause-written c = ap (refers c.in-Ok.token) c.new.ensures ∙ sym (ap (λ o. reference_written (option_map whole o)) (alias_found c.args.text.now c.in-Ok.token c.in-Ok.ensures.path))

pub returns-in-Err-BadRef-clause-written : goal.returns-in-Err-BadRef-clause-written
returns-in-Err-BadRef-clause-written c = sym (ap (λ o. reference_written (option_map whole o)) (no_alias c.args.text.now (λ path s. c.in-Err-BadRef.ensures.bad (ap Err c.in-Err-BadRef.field-0-is) path s)))
