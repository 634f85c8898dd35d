use Rattle.std.proofs.Common.{length, ap, sym, ◌∙◌}
use Rattle.transforms.proofs.TextEnds.{length-texts_from}
use Rattle.transforms.proofs.texts.Texts.len.Goals as goal

pub returns : goal.returns
returns c = c.len.ensures.value ∙ (sym (length-texts_from 0 c.self.inside.ends.items c.self.inside.bytes.items) ∙ ap length c.self.view_is)
