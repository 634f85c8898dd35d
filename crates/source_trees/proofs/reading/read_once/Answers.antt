use Rattle.std.proofs.Common.{[], ◌∷◌, sym, ap, ◌∙◌}
use Rattle.std.specs.Option.{option_copied}
use Rattle.source_trees.proofs.NamedTrees.{at_most, adds_seen, counts_seen}
use Rattle.source_trees.proofs.reading.read_once.Goals as goal

pub returns-in-Some-clause-trees : goal.returns-in-Some-clause-trees
returns-in-Some-clause-trees g c =
    adds_seen c.args.files.now c.args.trees.now c.args.name.now c.in-Some.field-0.now (sym c.get.ensures ∙ ap option_copied c.in-Some.is)

pub returns-in-Some-clause-steps : goal.returns-in-Some-clause-steps
returns-in-Some-clause-steps g c =
    counts_seen c.args.files.now c.args.trees.now c.args.name.now c.in-Some.field-0.now c.args.parses.now (sym c.get.ensures ∙ ap option_copied c.in-Some.is)

pub returns-in-Some-clause-at_most : goal.returns-in-Some-clause-at_most
returns-in-Some-clause-at_most g c =
    at_most c.args.files.now (c.args.name.now ∷ []) c.args.trees.now c.args.parses.now c.args.parses.now
    (counts_seen c.args.files.now c.args.trees.now c.args.name.now c.in-Some.field-0.now c.args.parses.now (sym c.get.ensures ∙ ap option_copied c.in-Some.is))

pub read_new-requires : goal.read_new-requires
read_new-requires g c = sym c.get.ensures ∙ ap option_copied c.in-None.is
