use Rattle.std.proofs.Common.{◌≡◌, decimal, arith, ap, sym, ◌∙◌, true, false, not}
use Rattle.std.proofs.lemmas.Bool.{not-false}
use Rattle.std.proofs.lemmas.Slice.Eq.{bytes_eq-Decides}
use Rattle.std.proofs.lemmas.Fmt.{parse-decimal}
use Rattle.std.specs.Str.{bytes_eq}
use Rattle.command_words.proofs.NumbersSpelled.{spelled, unspelled}
use Rattle.command_words.proofs.number.decimal_within.Goals as goal

pub returns-then-n-low : goal.returns-then-n-low
returns-then-n-low c =
    sym (unspelled c.args.low c.args.high c.args.text.now (λ k low high e.
    let is = parse-decimal 32 k c.args.text.now c.parse.result (omega arith) (omega arith) e c.parse.ensures.value.0 in
    let same : c.in-Ok.n ≡ k = cc (is, c.in-Ok.is) in
    absurd (omega arith)))

pub returns-then-n-high : goal.returns-then-n-high
returns-then-n-high c =
    sym (unspelled c.args.low c.args.high c.args.text.now (λ k low high e.
    let is = parse-decimal 32 k c.args.text.now c.parse.result (omega arith) (omega arith) e c.parse.ensures.value.0 in
    let same : c.in-Ok.n ≡ k = cc (is, c.in-Ok.is) in
    absurd (omega arith)))

pub returns-then-ne : goal.returns-then-ne
returns-then-ne c =
    sym (unspelled c.args.low c.args.high c.args.text.now (λ k low high e.
    let is = parse-decimal 32 k c.args.text.now c.parse.result (omega arith) (omega arith) e c.parse.ensures.value.0 in
    let same : c.in-Ok.n ≡ k = cc (is, c.in-Ok.is) in
    let text : c.format.result.now ≡ c.args.text.now = c.format.ensures.text ∙ (ap decimal same ∙ sym e) in
    let no : c.ne.result ≡ false = c.ne.ensures ∙ ap not ((bytes_eq-Decides c.format.result.now c.args.text.now).1 text) in
    cc (no, c.if-ne.true)))

pub returns-else-ne : goal.returns-else-ne
returns-else-ne c =
    let same : bytes_eq c.format.result.now c.args.text.now ≡ true = not-false _ (sym c.ne.ensures ∙ c.if-ne.false) in
    let text = (bytes_eq-Decides c.format.result.now c.args.text.now).0 same in
    sym (spelled c.args.low c.args.high c.in-Ok.n c.args.text.now (omega arith) (sym text ∙ c.format.ensures.text) c.if-n-low.false c.if-n-high.false)

pub returns-in-Err : goal.returns-in-Err
returns-in-Err c =
    sym (unspelled c.args.low c.args.high c.args.text.now (λ k low high e.
    let is = parse-decimal 32 k c.args.text.now c.parse.result (omega arith) (omega arith) e c.parse.ensures.value.0 in
    cc (is, c.in-Err.is)))
