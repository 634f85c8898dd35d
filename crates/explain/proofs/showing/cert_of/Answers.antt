use Rattle.std.proofs.Common.{refl, sym, subst}
use Rattle.explain.specs.Validity.{Valid}
use Rattle.explain.proofs.HopsExplain.{explained_settles, end_written, shown_valid}
use Rattle.explain.proofs.showing.cert_of.Goals as goal

pub end_spot-requires : goal.end_spot-requires
end_spot-requires c =
    let flat = c.args.flat.now in
    let p = c.args.place.now in
    let (b, none, empty, e) = c.requires.explained in
    let found = explained_settles flat b p none c.args.shown e in
    record {
      end = (e.shown.knows, (found.end, found.settles.reached));
      written = λ q reach. end_written flat b p q none c.args.shown e reach c.requires.written;
    }

pub returns-clause-valid : goal.returns-clause-valid
returns-clause-valid c =
    let flat = c.args.flat.now in
    let p = c.args.place.now in
    let (b, none, empty, e) = c.requires.explained in
    let last = c.in_ok-last.last in
    subst (λ x. Valid flat (record { from = x; hops = c.end_spot.new.shown.hops; last = last })) (sym c.in_ok-from.ensures)
    (subst (λ hs. Valid flat (record { from = p; hops = hs; last = last })) (sym c.in_ok-last.ensures.hops)
    (shown_valid flat b p last.place none c.args.shown last e c.in_ok-last.ensures.end c.requires.written c.in_ok-last.ensures.spot refl))
