use Rattle.std.proofs.Common.{ap, sym, ◌∙◌}
use Rattle.transforms.specs.PlatformName.{without_root}
use Rattle.transforms.proofs.Spelled.{last_left_out, last_stays}
use Rattle.transforms.proofs.name.own_names.Goals as goal

pub returns-then-is_root : goal.returns-then-is_root
returns-then-is_root c = sym (ap without_root c.in-Some.ensures.cases.0 ∙ last_left_out c.in-Some.front.now c.in-Some.last.now (sym c.is_root.ensures ∙ c.if-is_root.true))

pub returns : goal.returns
returns c =
    c.in-Some.ensures.cases.0
    ∙ sym (ap without_root c.in-Some.ensures.cases.0 ∙ last_stays c.in-Some.front.now c.in-Some.last.now (sym c.is_root.ensures ∙ c.if-is_root.false))
