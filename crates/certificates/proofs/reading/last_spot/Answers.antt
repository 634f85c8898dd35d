use Rattle.std.proofs.Common.{codes}
use Rattle.certificates.specs.Certificate.{end_words}
use Rattle.certificates.proofs.Finding.{past_is}
use Rattle.certificates.proofs.reading.last_spot.Goals as goal

pub returns-in-Some-clause-found : goal.returns-in-Some-clause-found
returns-in-Some-clause-found c last fits e = c.end_spot.ensures.found last fits (past_is c.args.text.now (codes "end ") c.in-Some.words.now (end_words last) c.in-Some.ensures e)

pub returns-in-None-clause-found : goal.returns-in-None-clause-found
returns-in-None-clause-found c last fits e = absurd (c.in-None.ensures (end_words last) e)
