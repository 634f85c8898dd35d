use Rattle.std.proofs.Common.{◌++◌, ◌∙◌, ap}
use Rattle.json_out.proofs.Appending.{two}
use Rattle.json_out.proofs.writing.append_extensions.Goals as goal

pub returns-in_ok-append-in-Some-2 : goal.returns-in_ok-append-in-Some-2
returns-in_ok-append-in-Some-2 c = rw c.in-Some.is
    (two _ _ _ _ _ c.in_ok-append-in-Some.ensures.ok (c.in_ok-append-in-Some-2.ensures.ok ∙ ap (λ z. c.append.new.self ++ z) c.as_bytes.ensures.value))
