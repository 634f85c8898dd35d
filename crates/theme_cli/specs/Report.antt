-- How a run ends: the number of its status, and what is said on the error sink.
use Rattle.std.specs.Prelude.{ℕ, List, [], ◌++◌, codes}
use Rattle.json_span.specs.Spelling.{string_text}
use Rattle.token_cli.specs.Report.{bad_event_text, bad_script_text}
use Rattle.theme_cli.specs.declared.status.ThemeStatus.{ThemeStatus}
use Rattle.theme_cli.specs.declared.status.ThemeStatus.TheVariants as status

-- the first path of a refusal
abbrev pub refused_text : List ℕ → List ℕ
refused_text path = codes "tokc_themes: refused " ++ path ++ codes "\n"

-- the first name that no selector can hold, as a JSON string
abbrev pub name_text : List ℕ → List ℕ
name_text name = codes "tokc_themes: name " ++ string_text name ++ codes "\n"

-- the text of each status; a script that is refused is said with the byte at which it is, an event with its number, a
-- refusal with its path, and a name as a JSON string
abbrev pub error_text : ThemeStatus → ℕ → List ℕ → List ℕ
error_text status.Done at matter = []
error_text status.Refused at matter = refused_text matter
error_text status.Usage at matter = codes "usage: tokc_themes\n"
error_text status.BadScript at matter = bad_script_text (codes "tokc_themes") at
error_text status.ReadFault at matter = codes "tokc_themes: read failed\n"
error_text status.WriteFault at matter = codes "tokc_themes: write failed\n"
error_text status.NoMemory at matter = codes "tokc_themes: out of memory\n"
error_text status.TooLong at matter = codes "tokc_themes: script too long\n"
error_text status.BadEvent at matter = bad_event_text (codes "tokc_themes") at
error_text status.Name at matter = name_text matter

-- the number that the program ends with
abbrev pub status_number : ThemeStatus → ℕ
status_number status.Done = 0
status_number status.Refused = 1
status_number status.Usage = 2
status_number status.BadScript = 3
status_number status.ReadFault = 4
status_number status.WriteFault = 5
status_number status.NoMemory = 6
status_number status.TooLong = 7
status_number status.BadEvent = 9
status_number status.Name = 10
