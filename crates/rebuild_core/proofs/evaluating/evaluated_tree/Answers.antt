use Rattle.std.proofs.Common.{Option, None, option_map, sym, ap, subst, arith}
use Rattle.std.proofs.lemmas.Result.{IfOk-weaker}
use Rattle.alias_ref.specs.Laws.{Flat}
use Rattle.rebuild_core.specs.inner.Evaluating.{AreReached}
use Rattle.rebuild_core.proofs.KeptPlaces.{all_reached, all_once}
use Rattle.rebuild_core.proofs.evaluating.evaluated_tree.Goals as goal

pub returns-in-None-clause-count : goal.returns-in-None-clause-count
returns-in-None-clause-count g c =
    IfOk-weaker c.evaluated_anew.result _ _
    (λ r many. subst (λ (t : Option Flat). AreReached t c.args.flat r.evaluated) (sym (ap (option_map (λ t. t.now.tokens)) c.in-None.is)) (all_reached c.args.flat r.evaluated many)) c.evaluated_anew.ensures.count

pub returns-in-None-clause-at_most : goal.returns-in-None-clause-at_most
returns-in-None-clause-at_most g c = λ n is.
    let none : AreReached None c.args.flat n = subst (λ (t : Option Flat). AreReached t c.args.flat n) (ap (option_map (λ t. t.now.tokens)) c.in-None.is) is in
    omega (arith, c.evaluated_anew.ensures.at_most, all_once c.args.flat n none)
