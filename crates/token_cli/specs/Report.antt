-- How a run ends: its status and the number of that, and what is said on the error sink.
use Rattle.std.specs.Prelude.{◌⊎◌, ℕ, Bool, List, [], ◌++◌, codes, Option}
use Rattle.std.specs.Fmt.{decimal}
use Rattle.std.specs.Io.KnownBytes.{Appends}
use Rattle.tk_io.specs.Causes.{Rose}
use Rattle.tk_io.specs.Writing.{AppendsPart}
use Rattle.token_cli.specs.declared.stop.Stop.{Stop}
use Rattle.token_cli.specs.declared.stop.Stop.TheVariants as stop
use Rattle.token_cli.specs.declared.status.Status.{Status}
use Rattle.token_cli.specs.declared.status.Status.TheVariants as status

-- where all was written, with or without a refusal held at the end
abbrev pub whole_status : Bool → Status
whole_status Bool.true = status.Refused
whole_status Bool.false = status.Done

-- what a program of this name says of a script that is refused at this byte
abbrev pub bad_script_text : List ℕ → ℕ → List ℕ
bad_script_text program at = program ++ codes ": bad script at byte " ++ decimal at ++ codes "\n"

-- .. and of an event, by its number, that does not fit
abbrev pub bad_event_text : List ℕ → ℕ → List ℕ
bad_event_text program number = program ++ codes ": event " ++ decimal number ++ codes " does not fit\n"

-- .. and of each reason for which a run stopped; `usage` is the line of a program whose arguments are none that it has
abbrev pub said_of : List ℕ → List ℕ → Stop → List ℕ
said_of program usage stop.Usage = usage
said_of program usage (stop.BadScript at) = bad_script_text program at
said_of program usage stop.ReadFault = program ++ codes ": read failed\n"
said_of program usage stop.WriteFault = program ++ codes ": write failed\n"
said_of program usage stop.NoMemory = program ++ codes ": out of memory\n"
said_of program usage stop.TooLong = program ++ codes ": script too long\n"
said_of program usage (stop.BadEvent number) = bad_event_text program number

-- the text of each status; a script that is refused is said with the byte at which it is, and an event with its number
abbrev pub error_text : Status → ℕ → List ℕ
error_text status.Done at = []
error_text status.Refused at = []
error_text status.Usage at = codes "usage: tokc build | replay | stats | gen SEED SIZE\n"
error_text status.BadScript at = bad_script_text (codes "tokc") at
error_text status.ReadFault at = codes "tokc: read failed\n"
error_text status.WriteFault at = codes "tokc: write failed\n"
error_text status.NoMemory at = codes "tokc: out of memory\n"
error_text status.TooLong at = codes "tokc: script too long\n"
error_text status.BadEvent at = bad_event_text (codes "tokc") at

-- the number that the program ends with
abbrev pub status_number : Status → ℕ
status_number status.Done = 0
status_number status.Refused = 1
status_number status.Usage = 2
status_number status.BadScript = 3
status_number status.ReadFault = 4
status_number status.WriteFault = 5
status_number status.NoMemory = 6
status_number status.TooLong = 7
status_number status.BadEvent = 9

-- the text was appended whole, or a part of it, and not all, was and the count rose
abbrev pub Reports : Option (List ℕ) → Option (List ℕ) → ℕ → ℕ → List ℕ → Type 0
Reports old new before now text = Appends old new text ⊎ (AppendsPart old new text × Rose before now)
