use Rattle.std.proofs.Common.{List, ℕ, codes, subst, take}
use Rattle.std.specs.Fmt.{decimal}
use Rattle.tk_io.specs.Writing.{AppendsPart}
use Rattle.edit_script.proofs.Written.{on_err_then, six_numbers}
use Rattle.edit_script.proofs.line.write_stats.Goals as goal

pub returns-clause-part : goal.returns-clause-part
returns-clause-part g c =
    let P : List ℕ → Type 0 = λ text. AppendsPart (g.K.Sink.written c.args.out.now) (g.K.Sink.written c.write_all.new.out) text in
    let line =
    six_numbers (take c.put_number-first.result c.put_number-first.new.piece) (take c.put_number-second.result c.put_number-second.new.piece) (take c.put_number-third.result c.put_number-third.new.piece)
    (take c.put_number-fourth.result c.put_number-fourth.new.piece) (take c.put_number-fifth.result c.put_number-fifth.new.piece) (take c.put_number-sixth.result c.put_number-sixth.new.piece)
    (take c.put_at-len.result c.put_at-len.new.piece) (codes "commit ") (codes " parsed ") (codes " merged ") (codes " evaluated ") (codes " written ") (codes " gone ")
    (decimal c.args.commit) (decimal c.args.parsed) (decimal c.args.merged) (decimal c.args.evaluated) (decimal c.args.written) (decimal c.args.gone) (codes "\n")
    c.put_number-first.ensures.front c.put_number-second.ensures.front c.put_number-third.ensures.front c.put_number-fourth.ensures.front c.put_number-fifth.ensures.front c.put_number-sixth.ensures.front c.put_at-len.ensures.front in
    on_err_then c.write_all.result (λ part. subst P line part) c.write_all.ensures.part
