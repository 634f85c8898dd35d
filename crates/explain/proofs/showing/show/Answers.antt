use Rattle.std.proofs.lemmas.Result.{IfOk-weaker}
use Rattle.explain.proofs.LinesFit.{valid_spelled}
use Rattle.explain.proofs.PlacesVisited.{may_begin}
use Rattle.explain.proofs.showing.show.Goals as goal

pub explain-requires : goal.explain-requires
explain-requires c = may_begin c.unbroken_tokens.ensures.visits c.args.flat.now c.requires.unbroken c.args.place.now c.new-shown.result c.new-shown.ensures.hops c.new-shown.ensures.knows

pub cert_of-requires : goal.cert_of-requires
cert_of-requires c =
    let old = c.new-shown.result in
    let begin = may_begin c.unbroken_tokens.ensures.visits c.args.flat.now c.requires.unbroken c.args.place.now old c.new-shown.ensures.hops c.new-shown.ensures.knows in
    record { written = c.requires.written; explained = (begin.0, old, c.new-shown.ensures.hops, c.in-Ok.ensures begin.0 begin.1) }

pub returns-in-Ok-clause-spelled : goal.returns-in-Ok-clause-spelled
returns-in-Ok-clause-spelled c = λ lines.
    IfOk-weaker c.cert_of.result _ _ (λ cert valid perm named. valid_spelled c.args.flat.now cert perm lines valid named) c.cert_of.ensures.valid
