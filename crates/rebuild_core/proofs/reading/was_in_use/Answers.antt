use Rattle.std.proofs.Common.{◌≡◌, Some, true, false, sym, ap, ◌∙◌}
use Rattle.std.specs.Option.{option_copied}
use Rattle.std.specs.Str.{bytes_eq}
use Rattle.std.proofs.lemmas.Slice.Eq.{bytes_eq-Decides}
use Rattle.file_plan.proofs.FilesInUse.{some_none, some_is}
use Rattle.rebuild_core.proofs.reading.was_in_use.Goals as goal

pub returns-in-Some-clause-same : goal.returns-in-Some-clause-same
returns-in-Some-clause-same c = λ e.
    sym c.get.ensures ∙ (ap option_copied c.in-Some.is
    ∙ ap Some (sym c.as_str.ensures ∙ (bytes_eq-Decides c.as_str.result.now c.args.text.now).0 (sym c.eq.ensures ∙ e)))

pub returns-in-Some-clause-other : goal.returns-in-Some-clause-other
returns-in-Some-clause-other c = λ e there.
    let same = some_is (sym (sym c.get.ensures ∙ ap option_copied c.in-Some.is) ∙ there) in
    let yes : bytes_eq c.as_str.result.now c.args.text.now ≡ true = (bytes_eq-Decides c.as_str.result.now c.args.text.now).1 (c.as_str.ensures ∙ same) in
    let no : bytes_eq c.as_str.result.now c.args.text.now ≡ false = sym c.eq.ensures ∙ e in
    cc

pub returns-in-None-clause-other : goal.returns-in-None-clause-other
returns-in-None-clause-other c = λ e there. some_none (sym there ∙ (sym c.get.ensures ∙ ap option_copied c.in-None.is))
