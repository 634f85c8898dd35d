use Rattle.std.proofs.Common.{◌++◌, ◌∙◌, ap, ap₂}
use Rattle.all_breaks.specs.inner.Putting.{with_names}
use Rattle.all_breaks.proofs.Entries.{put_told, told_view}
use Rattle.all_breaks.proofs.told.Told.put.Goals as goal

pub returns : goal.returns
returns c =
    let key = c.in_ok-extend_from_slice.ensures.items ∙ ap (λ items. items ++ c.args.text.now) c.new-key.ensures.items in
    let before = c.self.inside.breaks.entries in
    ap told_view c.in_ok-insert.ensures.entries
    ∙ (put_told before c.extend_from_slice.new.self c.args.names
    ∙ (ap (λ text. with_names (told_view before) text c.args.names) key
    ∙ ap (λ told. with_names told c.args.text.now c.args.names) c.self.view_is))
