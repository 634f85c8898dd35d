use Rattle.std.proofs.Common.{[], sym, ◌∙◌, subst}
use Rattle.alias_ref.specs.Written.{written_in}
use Rattle.explain.specs.Validity.{SettlesBy}
use Rattle.explain.specs.inner.Ways.{Knows}
use Rattle.explain.specs.inner.Holding.{IsFound, EachHolds}
use Rattle.explain.proofs.HopsHold.{are_apart, each_leads, each_spot, all_hold, settles_once}
use Rattle.explain.proofs.WaysKnown.{same_so, so_same}
use Rattle.explain.proofs.checking.verify.Goals as goal

pub returns-then-not-branch-clause-exact : goal.returns-then-not-branch-clause-exact
returns-then-not-branch-clause-exact c = λ v.
    let flat = c.args.flat.now in
    let all = all_hold flat c.args.cert.now.hops v.starts v.hops v.spots in
    sym c.if-not-branch.true ∙ c.in_ok-all_hold.ensures.exact (subst (EachHolds flat []) (sym c.as_slice.ensures) all)

pub returns-clause-valid : goal.returns-clause-valid
returns-clause-valid c = λ t.
    let flat = c.args.flat.now in
    let T = written_in flat in
    let cert = c.args.cert.now in
    let all = subst (EachHolds flat []) c.as_slice.ensures (c.in_ok-all_hold.ensures.hold c.if-not-branch.false) in
    let knows = subst (λ hops. Knows hops c.all_hold.new.ways) c.as_slice.ensures (c.in_ok-all_hold.ensures.knows c.if-not-branch.false) in
    let found = subst (IsFound (λ q. SettlesBy T cert.hops cert.from q)) c.in-Some.is (c.in_ok-end.ensures.end cert.hops knows) in
    record {
      starts = are_apart flat cert.hops all;
      hops = each_leads flat [] cert.hops all;
      origin = sym c.written.ensures ∙ c.if-not-written.false;
      end = subst (λ q. SettlesBy T cert.hops cert.from q) (same_so c.in-Some.end cert.last.place c.eq.result c.eq.ensures t) found;
      spots = each_spot flat [] cert.hops all;
      last = c.is_spot.ensures.spot c.if-not-is_spot.false;
    }

pub returns-clause-exact : goal.returns-clause-exact
returns-clause-exact c = λ v.
    let T = written_in c.args.flat.now in
    let cert = c.args.cert.now in
    let knows = subst (λ hops. Knows hops c.all_hold.new.ways) c.as_slice.ensures (c.in_ok-all_hold.ensures.knows c.if-not-branch.false) in
    let found = subst (IsFound (λ q. SettlesBy T cert.hops cert.from q)) c.in-Some.is (c.in_ok-end.ensures.end cert.hops knows) in
    so_same c.in-Some.end cert.last.place c.eq.result c.eq.ensures (settles_once T cert.hops knows.starts found v.end)
