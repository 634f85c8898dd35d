use Rattle.std.proofs.Common.{List, ℕ, sym, subst}
use Rattle.ios_out.specs.PlatformValue.{swift_values}
use Rattle.ios_out.specs.Reading.{Block}
use Rattle.ios_out.proofs.SheetsDenote.{lines_read}
use Rattle.ios_out.proofs.writing.fragment.Goals as goal

pub returns-in-Ok-clause-reads : goal.returns-in-Ok-clause-reads
returns-in-Ok-clause-reads c = λ named.
    let settings = c.args.cfg.now in
    let name = c.args.name.now in
    let v = c.args.typed.now in
    let P : List ℕ → Type 0 = λ text. Block text (swift_values settings name v) in
    subst P (sym c.in-Ok.ensures.body) (lines_read settings name v c.has_base.ensures c.requires.typed named)
