use Rattle.json_span.specs.PlainView.{plain_view}
use Rattle.type_rules.specs.Forms.{text_in}
use Rattle.type_rules.specs.Words.{word_in}
use Rattle.type_rules.proofs.Breaks.{stays, next_ok, next_broken}
use Rattle.type_rules.proofs.words.word_of.Goals as goal

pub returns-in_err-word-clause-broken : goal.returns-in_err-word-clause-broken
unfolding word_in
returns-in_err-word-clause-broken g c = stays (text_in (plain_view c.args.plain.now)) _ _ _ c.from_residual.ensures.1 c.in_err-word.ensures.broken

pub returns-clause-ok : goal.returns-clause-ok
unfolding word_in
returns-clause-ok g c = next_ok (text_in (plain_view c.args.plain.now)) _ _ _ c.in_ok-word.ensures.ok (rw (← c.as_str.ensures, ← c.meaning.ensures) c.or_broken.ensures.ok)

pub returns-clause-broken : goal.returns-clause-broken
unfolding word_in
returns-clause-broken g c = next_broken (text_in (plain_view c.args.plain.now)) _ _ _ c.in_ok-word.ensures.ok (rw (← c.as_str.ensures, ← c.meaning.ensures) c.or_broken.ensures.broken)
