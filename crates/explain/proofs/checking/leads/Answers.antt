use Rattle.std.proofs.Common.{subst}
use Rattle.alias_ref.specs.Written.{written_in}
use Rattle.explain.specs.inner.Holding.{IsFound, GoesFrom}
use Rattle.explain.specs.inner.Saying.{Says}
use Rattle.explain.proofs.HopsHold.{leads_from, from_leads, goes_once}
use Rattle.explain.proofs.WaysKnown.{same_so, so_same}
use Rattle.explain.proofs.checking.leads.Goals as goal

pub returns-clause-leads : goal.returns-clause-leads
returns-clause-leads c = λ hops k t.
    let T = written_in c.args.flat.now in
    let p = c.args.hop.now.spot.place in
    let n = c.in-Refers.named in
    let refers = subst (λ s. Says s (T p)) c.in-Refers.is c.in_ok-named.ensures in
    let found = subst (IsFound (λ q. GoesFrom T hops n q)) c.in-Some.is (c.in_ok-target.ensures.target hops k) in
    let same = same_so c.in-Some.target c.args.hop.now.target c.eq.result c.eq.ensures t in
    leads_from T hops p n c.args.hop.now.target refers (subst (λ q. GoesFrom T hops n q) same found)

pub returns-clause-exact : goal.returns-clause-exact
returns-clause-exact c = λ hops k l.
    let T = written_in c.args.flat.now in
    let p = c.args.hop.now.spot.place in
    let n = c.in-Refers.named in
    let refers = subst (λ s. Says s (T p)) c.in-Refers.is c.in_ok-named.ensures in
    let found = subst (IsFound (λ q. GoesFrom T hops n q)) c.in-Some.is (c.in_ok-target.ensures.target hops k) in
    let told = from_leads T hops p n c.args.hop.now.target refers l in
    so_same c.in-Some.target c.args.hop.now.target c.eq.result c.eq.ensures (goes_once T hops k.starts found.steps told.steps)
