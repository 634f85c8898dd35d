-- Why a run ends early, by what the calls below answer.
use Rattle.tk_io.specs.declared.source.ReadStop.{ReadStop}
use Rattle.tk_io.specs.declared.source.ReadStop.TheVariants as reading
use Rattle.edit_script.specs.declared.script.ScriptStop.{ScriptStop}
use Rattle.edit_script.specs.declared.script.ScriptStop.TheVariants as script
use Rattle.file_plan.specs.declared.loading.LoadStop.{LoadStop}
use Rattle.file_plan.specs.declared.loading.LoadStop.TheVariants as load
use Rattle.command_words.specs.declared.command.WordStop.{WordStop}
use Rattle.command_words.specs.declared.command.WordStop.TheVariants as words
use Rattle.token_cli.specs.declared.stop.Stop.{Stop}
use Rattle.token_cli.specs.declared.stop.Stop.TheVariants as stop

abbrev pub of_read : ReadStop → Stop
of_read reading.ReadFault = stop.ReadFault
of_read reading.TooLong = stop.TooLong
of_read reading.NoMemory = stop.NoMemory

abbrev pub of_script : ScriptStop → Stop
of_script (script.BadScript at) = stop.BadScript at
of_script script.NoMemory = stop.NoMemory

abbrev pub of_load : LoadStop → Stop
of_load (load.Unfit number) = stop.BadEvent number
of_load load.NoMemory = stop.NoMemory

abbrev pub of_words : WordStop → Stop
of_words words.Usage = stop.Usage
of_words words.NoMemory = stop.NoMemory
