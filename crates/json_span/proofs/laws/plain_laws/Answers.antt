use Rattle.json_span.proofs.Saying.{says_frame, shows_says}
use Rattle.json_span.proofs.SaidShown.{says_shows, says_one}
use Rattle.json_span.proofs.SliceSaid.{slice_says}
use Rattle.json_span.proofs.SaidFits.{said_fits}
use Rattle.json_span.proofs.laws.plain_laws.Goals as goal

pub returns : goal.returns
returns g c = record {
  shown = λ num text n s. shows_says num text n s;
  framed = λ num t u v x rest. says_frame num x rest;
  said = λ num text v s. says_shows num text v s;
  one = λ num text v w s r. says_one num text v w s r;
  slices = λ num text root n s i. slice_says num text root n s i;
  fits = λ num text v n utf h s. said_fits num text v n utf h s;
}
