use Rattle.std.proofs.Common.{List, [], refl, sym, subst}
use Rattle.std.proofs.lemmas.List.{take_all}
use Rattle.ring.specs.Lists.{In}
use Rattle.ring.proofs.ListWords.{has_place_in}
use Rattle.alias_ref.specs.Written.{Step}
use Rattle.tree_changes.specs.inner.Links.{AreNamed}
use Rattle.tree_changes.proofs.Naming.{none_named, one_named, one_lost}
use Rattle.tree_changes.proofs.links.row_of.Goals as goal

pub loop-name-init : goal.loop-name-init
loop-name-init c = none_named c.args.old.now c.args.new.now [] c.clear.new.self.items refl c.clear.ensures.items

pub loop-name-preserved : goal.loop-name-preserved
loop-name-preserved c =
    one_named c.args.old.now c.args.new.now c.args.names.now c.loop-name.name-index c.name-item.result c.loop-name.row.items c.add_named.new.row.items
    c.in_ok-is_gone.is_gone c.if-is_gone.false c.loop-name.invariant c.loop-name-test.true c.name-item.is c.in_ok-is_gone.ensures

pub returns-then-is_gone : goal.returns-then-is_gone
returns-then-is_gone c =
    let names = c.args.names.now in
    let name = c.name-item.result in
    let among : In name names = has_place_in name names (c.loop-name.name-index, c.loop-name-test.true, sym c.name-item.is) in
    record {
      lost = λ _.
          one_lost c.args.old.now c.args.new.now names name c.loop-name.row.items c.add_named.new.row.items c.in_ok-is_gone.is_gone c.if-is_gone.true among
          c.in_ok-is_gone.ensures;
      named = λ e. cc;
    }

pub returns : goal.returns
returns c = record {
  lost = λ e. cc;
  named = λ _.
      subst (λ (ns : List (List Step)). AreNamed c.args.old.now c.args.new.now ns c.loop-name.row.items)
      (take_all c.loop-name.name-index c.args.names.now c.loop-name-test.false) c.loop-name.invariant;
}
