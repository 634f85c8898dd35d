use Rattle.grammar.proofs.Fronts.{is_front}
use Rattle.json_span.specs.Grammar.{grammar}
use Rattle.json_span.proofs.Rfc.{rfc_goes_on}
use Rattle.json_span.proofs.FrontsOn.{front_goes_on}
use Rattle.json_span.proofs.Unique.{shows_one}
use Rattle.json_span.proofs.Answered.{answered}
use Rattle.json_span.proofs.Slices.{slices_show}
use Rattle.json_span.proofs.OneAnswer.{text_shows, shows_text, one_answer}
use Rattle.json_span.proofs.FirstFlaw.{first_is_least, none_is_none}
use Rattle.json_span.proofs.laws.json_laws.Goals as goal

pub returns : goal.returns
returns c = record {
  texts = λ t. (λ d. text_shows t d, λ (n, s). shows_text t n s);
  fronts = λ t. (λ f. rfc_goes_on t f, λ (w, d). is_front grammar t w d);
  front = front_goes_on;
  one = shows_one;
  answer = one_answer;
  answered = answered;
  slices = slices_show;
  first = first_is_least;
  none = none_is_none;
}
