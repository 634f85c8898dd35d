use Rattle.std.proofs.Common.{◌≡◌, decimal, arith, ap, sym, ◌∙◌, false, not}
use Rattle.std.proofs.lemmas.Slice.Eq.{bytes_eq-Decides}
use Rattle.std.proofs.lemmas.Fmt.{parse-decimal}
use Rattle.edit_script.proofs.number.read_number.Goals as goal

pub returns-then-n-ge100000000 : goal.returns-then-n-ge100000000
returns-then-n-ge100000000 c k small e =
    let is = parse-decimal 32 k c.args.text.now c.parse.result (omega arith) (omega arith) e c.parse.ensures.value.0 in
    let same : c.in-Ok.n ≡ k = cc (is, c.in-Ok.is) in
    absurd (omega arith)

pub returns-then-ne : goal.returns-then-ne
returns-then-ne c k small e =
    let is = parse-decimal 32 k c.args.text.now c.parse.result (omega arith) (omega arith) e c.parse.ensures.value.0 in
    let same : c.in-Ok.n ≡ k = cc (is, c.in-Ok.is) in
    let text : c.format.result.now ≡ c.args.text.now = c.format.ensures.text ∙ (ap decimal same ∙ sym e) in
    let equal : c.ne.result ≡ false = c.ne.ensures ∙ ap not ((bytes_eq-Decides c.format.result.now c.args.text.now).1 text) in
    cc (equal, c.if-ne.true)

pub returns-in-Err : goal.returns-in-Err
returns-in-Err c k small e =
    let is = parse-decimal 32 k c.args.text.now c.parse.result (omega arith) (omega arith) e c.parse.ensures.value.0 in
    cc (is, c.in-Err.is)
