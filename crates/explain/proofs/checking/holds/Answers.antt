use Rattle.std.proofs.Common.{◌++◌, ◌∷◌, [], sym, ◌∙◌}
use Rattle.std.specs.Prelude.{IsTrue}
use Rattle.explain.specs.inner.Ways.{Knows}
use Rattle.explain.specs.inner.Holding.{HopHolds}
use Rattle.explain.proofs.HopsHold.{ok_more, fresh_of}
use Rattle.explain.proofs.checking.holds.Goals as goal

pub returns-clause-holds : goal.returns-clause-holds
returns-clause-holds c = λ hops k.
    let h = c.args.hop.now in
    let flat = c.args.flat.now in
    let now = c.in_ok-leads.ensures.knows hops k in
    ok_more c.add.result (λ b. IsTrue b → Knows (hops ++ h ∷ []) c.add.new.self) (λ b. IsTrue b → HopHolds flat hops h)
    (λ b more t. record {
      fresh = fresh_of flat hops h (more t).starts;
      leads = c.in_ok-leads.ensures.leads hops k c.if-not-branch.false;
      spot = c.is_spot.ensures.spot c.if-not-is_spot.false;
    })
    (c.add.ensures.fresh hops now)

pub returns-then-not-branch-clause-exact : goal.returns-then-not-branch-clause-exact
returns-then-not-branch-clause-exact c = λ hops k h. sym c.if-not-branch.true ∙ c.in_ok-leads.ensures.exact hops k h.leads
