use Rattle.std.proofs.Common.{sym, ap, ◌∙◌}
use Rattle.std.specs.Option.{option_copied}
use Rattle.rebuild_core.proofs.TreesAdded.{known_is, no_tree}
use Rattle.rebuild_core.proofs.reading.known_tree.Goals as goal

pub returns-then-is_known-clause-known : goal.returns-then-is_known-clause-known
returns-then-is_known-clause-known c =
    known_is c.args.past.now.used c.args.past.now.trees c.args.path.now c.args.text.now c.get.result c.requires
    (c.was_in_use-is_known.ensures.same c.if-is_known.true) c.get.ensures

pub returns-then-is_known-clause-new : goal.returns-then-is_known-clause-new
returns-then-is_known-clause-new c = λ none there.
    no_tree c.args.past.now.used c.args.past.now.trees c.args.path.now c.args.text.now c.requires there (sym c.get.ensures ∙ ap option_copied none)

pub returns-clause-new : goal.returns-clause-new
returns-clause-new c = λ none. c.was_in_use-is_known.ensures.other c.if-is_known.false
