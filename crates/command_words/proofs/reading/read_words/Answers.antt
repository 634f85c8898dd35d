use Rattle.std.proofs.Common.{map, sym, ◌∙◌, string_bytes}
use Rattle.command_words.proofs.CommandsSpelled.{unready}
use Rattle.command_words.proofs.reading.read_words.Goals as goal

pub returns-then-not-is_ready-clause-usage : goal.returns-then-not-is_ready-clause-usage
returns-then-not-is_ready-clause-usage c usage =
    unready (map string_bytes c.args.words.now) (sym c.is_ready.ensures ∙ c.if-not-is_ready.true)
