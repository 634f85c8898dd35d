use Rattle.std.proofs.lemmas.Result.{IfOk-weaker}
use Rattle.std.proofs.Common.{◌≡◌}
use Rattle.json_span.specs.Tree.{Placed}
use Rattle.json_span.specs.Reading.{Shows}
use Rattle.json_span.specs.View.{node_view}
use Rattle.json_span.specs.Answer.{IsAnswer, shows}
use Rattle.json_span.proofs.OneAnswer.{is_answer}
use Rattle.json_span.proofs.Unique.{shows_one}
use Rattle.json_span.proofs.reader.read.Goals as goal

pub returns-clause-only : goal.returns-clause-only
returns-clause-only g c = IfOk-weaker c.read_text.result (λ n. IsAnswer c.args.text.now (shows (node_view n))) (λ n. (m : Placed) → Shows c.args.text.now m → m ≡ node_view n)
    (λ n h m k. shows_one c.args.text.now m (node_view n) k h.0) c.read_text.ensures.found

pub returns-clause-answer : goal.returns-clause-answer
returns-clause-answer g c = is_answer c.args.text.now c.read_text.result c.read_text.ensures.found c.read_text.ensures.refused
