use Rattle.std.proofs.Common.{sym, ap, ◌∙◌, subst}
use Rattle.std.specs.Prelude.{IfSome}
use Rattle.alias_ref.specs.Written.{written_in, is_reference}
use Rattle.explain.specs.Following.{Reaches}
use Rattle.explain.proofs.HopsFollowed.{one_end}
use Rattle.explain.proofs.HopsHold.{true_false}
use Rattle.explain.proofs.checking.settle.Goals as goal

pub returns : goal.returns
returns c =
    let T = written_in c.args.flat.now in
    record {
      knows = λ hops k. c.in_ok-end.ensures.knows hops k;
      end = λ hops k. record {
        reached = subst (λ o. IfSome o (λ q. Reaches hops c.args.place.now q)) c.in-Some.is (c.in_ok-end.ensures.end hops k);
        no_reference = sym (c.is_reference.ensures (T c.in-Some.end) c.in_ok-say.ensures) ∙ c.if-is_reference.false;
      };
    }

pub returns-then-is_reference-clause-end : goal.returns-then-is_reference-clause-end
returns-then-is_reference-clause-end c = λ hops k q s.
    let T = written_in c.args.flat.now in
    let way = subst (λ o. IfSome o (λ r. Reaches hops c.args.place.now r)) c.in-Some.is (c.in_ok-end.ensures.end hops k) in
    let same = one_end hops k.starts s.reached way in
    let refers = sym (c.is_reference.ensures (T c.in-Some.end) c.in_ok-say.ensures) ∙ c.if-is_reference.true in
    true_false (sym refers ∙ ap (λ p. is_reference (T p)) (sym same) ∙ s.no_reference)
