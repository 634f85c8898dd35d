use Rattle.std.proofs.Common.{sym, Err}
use Rattle.std.proofs.lemmas.Result.{err_from_is_err_and}
use Rattle.json_span.proofs.CharacterScans as characters
use Rattle.json_span.proofs.string.characters_end.Goals as goal

pub loop-end-init : goal.loop-end-init
loop-end-init c =
    let x = c.plain_end-end.ensures.plain in
    (x.within_text, characters.run_ends c.args.text.now c.args.at c.plain_end-end.result x, characters.run_leads c.args.text.now c.args.at c.plain_end-end.result x)

pub returns-in_err-behind : goal.returns-in_err-behind
returns-in_err-behind c = let p = err_from_is_err_and c.from_residual.result c.from_residual.ensures.1 in rw (p.1, p.2)
    (c.loop-end.invariant.2 (Err c.in_err-behind.field-0.0)
    (characters.bad_escape c.args.text.now c.loop-end.end c.in_err-behind.field-0.0 c.loop-end-test.ensures.bound (sym c.loop-end-test.ensures.test) c.in_err-behind.ensures))

pub loop-end-preserved : goal.loop-end-preserved
loop-end-preserved c =
    let end = c.plain_end-end-in-loop-end.result in
    let x = c.plain_end-end-in-loop-end.ensures.plain in (
      x.within_text,
      characters.run_ends c.args.text.now c.in_ok-behind.behind end x,
      λ r y. c.loop-end.invariant.2 r
          (characters.escape_leads c.args.text.now c.loop-end.end c.in_ok-behind.behind c.loop-end-test.ensures.bound c.loop-end.invariant.1 (sym c.loop-end-test.ensures.test) c.in_ok-behind.ensures r
          (characters.run_leads c.args.text.now c.in_ok-behind.behind end x r y)),
    )

pub returns : goal.returns
returns c = c.loop-end.invariant.2 c.row_end.result (characters.closing c.args.text.now c.loop-end.end c.row_end.result c.loop-end.invariant.0 c.loop-end.invariant.1 (sym c.loop-end-test.ensures.test) c.row_end.ensures)
