use Rattle.std.proofs.Common.{ℕ, List, sym, subst}
use Rattle.json_out.specs.Properties.{extras_view}
use Rattle.json_out.specs.Sheets.{IsReadAsMember}
use Rattle.json_out.proofs.TokensRead.{fragment_read}
use Rattle.json_out.proofs.writing.fragment.Goals as goal

pub returns-in-Ok-clause-reads : goal.returns-in-Ok-clause-reads
returns-in-Ok-clause-reads c = λ typed.
    let path = c.args.path.now in
    let v = c.args.typed.now in
    let e = extras_view c.args.extras.now in
    let P : List ℕ → Type 0 = λ text. IsReadAsMember path v e text in
    subst P (sym c.in-Ok.ensures) (fragment_read path v e typed c.are_bytes.ensures)
