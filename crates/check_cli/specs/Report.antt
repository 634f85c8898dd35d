-- How a run ends: the number of its status, and what is said on the error sink.
use Rattle.std.specs.Prelude.{ℕ, List, [], codes}
use Rattle.token_cli.specs.Report.{bad_event_text, bad_script_text}
use Rattle.check_cli.specs.declared.status.CheckStatus.{CheckStatus}
use Rattle.check_cli.specs.declared.status.CheckStatus.TheVariants as status

-- the text of each status; a script that is refused is said with the byte at which it is, and an event with its number
abbrev pub error_text : CheckStatus → ℕ → List ℕ
error_text status.Done at = []
error_text status.Broken at = []
error_text status.Usage at = codes "usage: tokc_check\n"
error_text status.BadScript at = bad_script_text (codes "tokc_check") at
error_text status.ReadFault at = codes "tokc_check: read failed\n"
error_text status.WriteFault at = codes "tokc_check: write failed\n"
error_text status.NoMemory at = codes "tokc_check: out of memory\n"
error_text status.TooLong at = codes "tokc_check: script too long\n"
error_text status.BadEvent at = bad_event_text (codes "tokc_check") at

-- the number that the program ends with
abbrev pub status_number : CheckStatus → ℕ
status_number status.Done = 0
status_number status.Broken = 1
status_number status.Usage = 2
status_number status.BadScript = 3
status_number status.ReadFault = 4
status_number status.WriteFault = 5
status_number status.NoMemory = 6
status_number status.TooLong = 7
status_number status.BadEvent = 9
