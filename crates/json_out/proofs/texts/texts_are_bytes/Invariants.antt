use Rattle.std.proofs.Common.{◌≡◌, take, true}
use Rattle.std.specs.List.{list_all}
use Rattle.json_span.specs.Spelling.{are_bytes}
use Rattle.json_out.proofs.texts.texts_are_bytes.Given as goal

abbrev pub invariant-loop-text : goal.invariant-loop-text
invariant-loop-text l = list_all are_bytes (take l.text-index l.texts) ≡ true
