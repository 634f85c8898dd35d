-- How a run ends: the number of its status, and what is said on the error sink.
use Rattle.std.specs.Prelude.{ℕ, List, [], codes}
use Rattle.token_cli.specs.Report.{bad_event_text, bad_script_text}
use Rattle.explain_cli.specs.declared.status.ExplainStatus.{ExplainStatus}
use Rattle.explain_cli.specs.declared.status.ExplainStatus.TheVariants as status

-- the text of each status; a script that is refused is said with the byte at which it is, and an event with its number
abbrev pub error_text : ExplainStatus → ℕ → List ℕ
error_text status.Done at = []
error_text status.Refused at = codes "tokc_explain: refused\n"
error_text status.Usage at = codes "usage: tokc_explain show PERM PLACE | check CERT\n"
error_text status.BadScript at = bad_script_text (codes "tokc_explain") at
error_text status.ReadFault at = codes "tokc_explain: read failed\n"
error_text status.WriteFault at = codes "tokc_explain: write failed\n"
error_text status.NoMemory at = codes "tokc_explain: out of memory\n"
error_text status.TooLong at = codes "tokc_explain: script too long\n"
error_text status.BadEvent at = bad_event_text (codes "tokc_explain") at
error_text status.NoPermutation at = codes "tokc_explain: no permutation\n"
error_text status.NoPlace at = codes "tokc_explain: no place\n"
error_text status.NoFile at = codes "tokc_explain: no file\n"
error_text status.BadCertificate at = codes "tokc_explain: bad certificate\n"

-- the number that the program ends with
abbrev pub status_number : ExplainStatus → ℕ
status_number status.Done = 0
status_number status.Refused = 1
status_number status.Usage = 2
status_number status.BadScript = 3
status_number status.ReadFault = 4
status_number status.WriteFault = 5
status_number status.NoMemory = 6
status_number status.TooLong = 7
status_number status.BadEvent = 9
status_number status.NoPermutation = 10
status_number status.NoPlace = 11
status_number status.NoFile = 12
status_number status.BadCertificate = 13
