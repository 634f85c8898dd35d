use Rattle.std.proofs.Common.{sym, ◌∙◌, subst}
use Rattle.ring.specs.Lists.{In}
use Rattle.explain.specs.Following.{starts_of}
use Rattle.explain.proofs.WaysKnown.{added, known_is, is_none_so, one_longer}
use Rattle.explain.proofs.ways.Ways.add.Goals as goal

pub returns-clause-fresh : goal.returns-clause-fresh
returns-clause-fresh c = λ hops k t.
    let fine = c.in_ok-before.ensures in
    let none = is_none_so c.in_ok-before.before c.is_none.result c.is_none.ensures t in
    added hops c.args.hop.now c.args.self.now (record { reached = c.insert.new.self }) c.in_ok-place.place c.in_ok-target.target c.in_ok-place.ensures c.in_ok-target.ensures k (sym fine.old ∙ none) fine.updates.0 (one_longer _ _ c.in_ok-before.before fine.len none)

pub returns-clause-again : goal.returns-clause-again
returns-clause-again c = λ hops k f.
    subst (λ p. In p (starts_of hops)) c.in_ok-place.ensures (known_is hops c.args.self.now c.in_ok-place.place c.in_ok-before.before c.is_none.result k c.in_ok-before.ensures.old c.is_none.ensures f)
