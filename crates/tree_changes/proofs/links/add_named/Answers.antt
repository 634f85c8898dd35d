use Rattle.std.proofs.Common.{inl, inr, is_some, refl, ap, ◌∙◌}
use Rattle.tree_changes.proofs.Naming.{found_there, missed_absent, absent_changed, copied_there}
use Rattle.tree_changes.proofs.links.add_named.Goals as goal

pub returns-in_ok-push-in-Some : goal.returns-in_ok-push-in-Some
returns-in_ok-push-in-Some c = inl (record {
  place = c.in-Some.i;
  there = found_there c.args.new.now c.as_slice.result.now c.args.name.now c.in-Some.i c.as_slice.ensures.entries c.in-Some.ensures;
  added = c.in_ok-push-in-Some.ensures.items;
  stands = refl;
})

pub returns-in-None : goal.returns-in-None
returns-in-None c =
    let absent = missed_absent c.args.new.now c.as_slice.result.now c.args.name.now c.as_slice.ensures.entries c.in-None.ensures in
    inr (record {
      ends = absent;
      same_row = refl;
      changed = absent_changed c.args.old.now c.args.new.now c.args.name.now c.is_some.result
          (c.is_some.ensures ∙ (copied_there c.get.result ∙ ap is_some c.get.ensures)) absent;
    })
