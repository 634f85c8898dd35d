use Rattle.std.proofs.Common.{◌-◌, sym, ◌∙◌}
use Rattle.std.proofs.lemmas.List.{get_or_past}
use Rattle.transforms.proofs.TextEnds.{start_behind}
use Rattle.transforms.proofs.texts.start_of.Goals as goal

pub returns-in-Some : goal.returns-in-Some
returns-in-Some c = c.in-Some.ensures.lookup.3.1 0 ∙ sym (start_behind c.args.ends.now c.args.i c.if-i-eq0.false)

pub returns-in-None : goal.returns-in-None
returns-in-None c =
    sym (start_behind c.args.ends.now c.args.i c.if-i-eq0.false ∙ get_or_past c.args.ends.now (c.args.i - 1) 0 c.in-None.ensures.lookup.3)
