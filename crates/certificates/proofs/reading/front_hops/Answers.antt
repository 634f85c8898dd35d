use Rattle.std.proofs.Common.{rules, List, length, ap, arith, sym, subst}
use Rattle.std.specs.List.{AllByRecursion}
use Rattle.certificates.specs.Certificate.{HopFits}
use Rattle.certificates.specs.declared.certificate.Hop.{Hop}
use Rattle.certificates.proofs.Finding.{passed}
use Rattle.certificates.proofs.Lines.{fits_push, hop_at, hop_read, hops_read}
use Rattle.certificates.proofs.reading.front_hops.Goals as goal

pub loop-words-init : goal.loop-words-init
loop-words-init c = record {
  text = search rules;
  reads = λ all last fits e. record { more = all; whole = search rules; fits = fits; spelled = e };
  fits = search rules;
}

pub loop-words-smaller : goal.loop-words-smaller
loop-words-smaller c = omega (arith, ap length c.in-Some.ensures, c.in-Ok.ensures.left)

pub loop-words-preserved : goal.loop-words-preserved
loop-words-preserved c = record {
  text = search rules;
  reads = hop_read c.args.text.now c.loop-words.hops c.loop-words.left.now c.in-Some.words.now c.in-Ok.hop c.in-Ok.rest.now c.push.new.self
      c.loop-words.invariant.reads c.in-Some.ensures c.in-Ok.ensures.found c.in_ok-push-in-Ok.ensures.ok;
  fits = subst (λ (z : List Hop). AllByRecursion HopFits z) (sym c.in_ok-push-in-Ok.ensures.ok) (fits_push c.loop-words.hops c.in-Ok.hop c.loop-words.invariant.fits c.in-Ok.ensures.fits);
}

pub returns-in-Err-clause-found : goal.returns-in-Err-clause-found
returns-in-Err-clause-found c all last fits e =
    let at = hop_at c.args.text.now c.loop-words.hops c.loop-words.left.now c.in-Some.words.now all last c.loop-words.invariant.reads c.in-Some.ensures fits e in
    passed c.in-Err.stop _ _ (c.in-Err.ensures.found at.hop at.rest at.fits at.spelled)

pub returns-clause-found : goal.returns-clause-found
returns-clause-found c all last fits e =
    hops_read c.args.text.now c.loop-words.hops c.loop-words.left.now all last c.loop-words.invariant.reads c.in_default.ensures fits e
