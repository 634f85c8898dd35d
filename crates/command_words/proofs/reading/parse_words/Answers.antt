use Rattle.std.proofs.Common.{map, sym, ◌∙◌, string_bytes}
use Rattle.clap.specs.Simple.{app_of}
use Rattle.command_words.proofs.ClapDecides.{ok_gives, err_none}
use Rattle.command_words.proofs.reading.parse_words.Goals as goal

pub returns-in-Some-clause-ok : goal.returns-in-Some-clause-ok
returns-in-Some-clause-ok c =
    let words = map string_bytes c.args.words.now in
    sym (c.in-Some.ensures ∙ ok_gives (app_of c.in_ok-command.command) words c.in-Ok.matches c.in_ok-command.ensures c.requires c.in-Ok.ensures.matches c.in-Ok.ensures.kinds)

pub returns-in-Ok-clause-usage : goal.returns-in-Ok-clause-usage
returns-in-Ok-clause-usage c usage =
    let words = map string_bytes c.args.words.now in
    sym (c.in-None.ensures ∙ ok_gives (app_of c.in_ok-command.command) words c.in-Ok.matches c.in_ok-command.ensures c.requires c.in-Ok.ensures.matches c.in-Ok.ensures.kinds)

pub returns-clause-usage : goal.returns-clause-usage
returns-clause-usage c usage =
    let words = map string_bytes c.args.words.now in
    err_none (app_of c.in_ok-command.command) words c.in_ok-command.ensures c.requires (λ t. c.in_default.not-OutOfMemory (c.kind.ensures ∙ c.in-Err.ensures.passes t))
