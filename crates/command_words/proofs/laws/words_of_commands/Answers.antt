use Rattle.command_words.proofs.CommandsSpelled.{all, read}
use Rattle.command_words.proofs.laws.words_of_commands.Goals as goal

pub returns-clause-read : goal.returns-clause-read
returns-clause-read c words command e = read words command e

pub returns-clause-all : goal.returns-clause-all
returns-clause-all c words command is = all words command is
