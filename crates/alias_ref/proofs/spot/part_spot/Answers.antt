use Rattle.std.proofs.Common.{◌≡◌, sym, subst}
use Rattle.json_span.specs.Tree.{tree_of}
use Rattle.json_span.specs.View.{ref_view}
use Rattle.alias_ref.specs.Written.{part, role_at}
use Rattle.alias_ref.specs.inner.Contents.{IsContent}
use Rattle.alias_ref.specs.inner.Spots.{IsValueAt}
use Rattle.alias_ref.proofs.SpotsStand.{part_content, part_stands_at}
use Rattle.alias_ref.proofs.spot.part_spot.Goals as goal

pub returns-clause-at : goal.returns-clause-at
returns-clause-at c = λ flat k is.
    let here = c.in_ok-place.place in
    let same : here ≡ part c.args.place.now c.args.step.now = c.in_ok-place.ensures in
    let f = c.args.token.now in
    let m = ref_view c.args.node in
    record {
      value = m;
      stands = subst (λ p. IsValueAt flat p f m) (sym same) (part_stands_at flat c.args.place.now f c.args.step.now m k);
      start = c.start.ensures;
      content = subst (λ p. IsContent c.args.content (role_at f.def.by_ref p.trail) (tree_of m)) (sym same) (part_content flat c.args.place.now f c.args.step.now m c.args.content k is);
      sound = k.sound;
    }
