use Rattle.json_out.proofs.Appending.{two}
use Rattle.json_out.proofs.writing.append_description.Goals as goal

pub returns-in_ok-write_string-in-Some : goal.returns-in_ok-write_string-in-Some
returns-in_ok-write_string-in-Some c = rw c.in-Some.is (two _ _ _ _ _ c.in_ok-append-in-Some.ensures.ok c.in_ok-write_string-in-Some.ensures.text)
