use Rattle.std.proofs.Common.{◌≡◌, List, true, false, arith, ap, sym, ◌∙◌}
use Rattle.std.specs.Str.{bytes_eq}
use Rattle.std.proofs.lemmas.Slice.Eq.{bytes_eq-Decides}
use Rattle.build_plain.proofs.NamedTree.{named_here, names_next, none_named, rest_next}
use Rattle.build_plain.proofs.one_tree.perm_named.Goals as goal

pub returns-then-eq-clause-found : goal.returns-then-eq-clause-found
returns-then-eq-clause-found c =
    let same : bytes_eq c.as_str.result.now c.args.name.now ≡ true = sym c.eq.ensures ∙ c.if-eq.true in
    named_here c.args.plan.now c.loop-perm.perm-index c.loop-perm.invariant.rest c.perm-item.result c.loop-perm-test.true c.perm-item.is c.args.name.now
    (sym c.as_str.ensures ∙ (bytes_eq-Decides c.as_str.result.now c.args.name.now).0 same)

pub loop-perm-preserved : goal.loop-perm-preserved
loop-perm-preserved c =
    let other : bytes_eq c.as_str.result.now c.args.name.now ≡ false = sym c.eq.ensures ∙ c.if-eq.false in
    record {
      rest = rest_next c.args.plan.now c.loop-perm.perm-index c.loop-perm.invariant.rest c.perm-item.result c.loop-perm-test.true c.perm-item.is;
      left = names_next c.args.plan.now c.loop-perm.perm-index c.loop-perm.invariant.rest c.perm-item.result c.loop-perm-test.true c.perm-item.is c.args.name.now
          (λ e. (let k : false ≡ true = sym other ∙ (bytes_eq-Decides c.as_str.result.now c.args.name.now).1 (c.as_str.ensures ∙ e) in cc)) c.loop-perm.invariant.left;
    }
