use Rattle.std.proofs.lemmas.Result.{err_from_is_err_and}
use Rattle.grammar.specs.Grammar.{many, seq}
use Rattle.json_span.specs.Grammar.{char, one, string}
use Rattle.json_span.proofs.Scans as scan
use Rattle.json_span.proofs.string.string_end.Goals as goal

pub returns-in_err-inner : goal.returns-in_err-inner
returns-in_err-inner c = let p = err_from_is_err_and c.from_residual.result c.from_residual.ensures.1 in rw (p.1, p.2)
    (scan.halt_name c.args.text.now string c.args.at c.in_err-inner.field-0.0 (scan.halt_first c.args.text.now (one 34) (seq (many char) (one 34)) c.args.at c.in_err-inner.field-0.0 c.in_err-inner.ensures))

pub returns : goal.returns
returns c = scan.scan_name c.args.text.now string c.args.at c.characters_end.result
    (scan.scan_then c.args.text.now (one 34) (seq (many char) (one 34)) c.args.at c.in_ok-inner.inner c.characters_end.result c.in_ok-inner.ensures c.characters_end.ensures)
