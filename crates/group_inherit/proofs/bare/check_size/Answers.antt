use Rattle.std.proofs.Common.{◌≡◌, [], arith, sym, subst}
use Rattle.token_tree.specs.Tree.{Group}
use Rattle.token_tree.specs.View.{group_view}
use Rattle.group_inherit.specs.inner.Bare.{member_count_of, levels_of}
use Rattle.group_inherit.specs.Extension.{Heights}
use Rattle.group_inherit.proofs.BareTrees.{bare_targets, bare_no_ring, bare_count, bare_height, bare_counted, bare_sound, low_levels}
use Rattle.group_inherit.proofs.bare.check_size.Goals as goal

pub returns-then-size-gt-MOST_MEMBERS-clause-broken : goal.returns-then-size-gt-MOST_MEMBERS-clause-broken
returns-then-size-gt-MOST_MEMBERS-clause-broken c =
    let tree = group_view c.args.tree.now in
    let b = c.requires.bare in
    (bare_targets tree b, bare_no_ring tree b, (member_count_of tree, bare_count tree b, omega (arith, c.requires.many, c.if-size-gt-MOST_MEMBERS.true), c.requires.many))

pub returns-then-size-gt-HIGHEST-clause-broken : goal.returns-then-size-gt-HIGHEST-clause-broken
returns-then-size-gt-HIGHEST-clause-broken c =
    let tree : Group = group_view c.args.tree.now in
    let b = c.requires.bare in
    let levels : c.args.size.levels ≡ levels_of tree = omega (arith, c.requires.many, c.requires.high, low_levels tree, c.if-size-gt-MOST_MEMBERS.false) in
    (bare_targets tree b, bare_no_ring tree b, bare_counted tree c.args.size.members b c.requires.many c.if-size-gt-MOST_MEMBERS.false, (subst (Heights tree []) (sym levels) (bare_height tree b), c.if-size-gt-HIGHEST.true))

pub returns-clause-sound : goal.returns-clause-sound
returns-clause-sound c =
    bare_sound (group_view c.args.tree.now) c.args.size.members c.args.size.levels c.requires.bare c.requires.many c.requires.high c.if-size-gt-MOST_MEMBERS.false c.if-size-gt-HIGHEST.false
