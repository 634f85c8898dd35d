use Rattle.std.proofs.Common.{List, ℕ, sym, subst}
use Rattle.android_out.specs.PlatformValue.{android_values}
use Rattle.android_out.specs.Reading.{Block}
use Rattle.android_out.proofs.SheetsDenote.{lines_read}
use Rattle.android_out.proofs.writing.fragment.Goals as goal

pub returns-in-Ok-clause-reads : goal.returns-in-Ok-clause-reads
returns-in-Ok-clause-reads c = λ named.
    let settings = c.args.cfg.now in
    let name = c.args.name.now in
    let v = c.args.typed.now in
    let P : List ℕ → Type 0 = λ text. Block text (android_values settings name v) in
    subst P (sym c.in-Ok.ensures.body) (lines_read settings name v c.has_base.ensures c.requires.typed named)
