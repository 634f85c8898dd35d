use Rattle.std.proofs.Common.{arith}
use Rattle.std.specs.FinMap as map_of
use Rattle.token_tree.specs.View.{members_view}
use Rattle.token_tree.specs.Tree.{children_of}
use Rattle.group_inherit.proofs.Counting.{tokens_there, many_of}
use Rattle.group_inherit.proofs.sizes.tokens_height.Goals as goal

pub returns-then-children-len : goal.returns-then-children-len
returns-then-children-len c =
    let m = members_view c.args.group.now.members in
    omega (arith, tokens_there (children_of (map_of.entries m)), many_of m, c.len.ensures, c.requires, c.if-children-len.true)

pub returns : goal.returns
returns c =
    let m = members_view c.args.group.now.members in
    omega (arith, tokens_there (children_of (map_of.entries m)), many_of m, c.len.ensures, c.requires, c.if-children-len.false)
