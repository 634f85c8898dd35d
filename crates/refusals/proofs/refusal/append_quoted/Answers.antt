use Rattle.refusals.proofs.Parts.{nothing_more, no_more_than, none_behind, two_more}
use Rattle.refusals.proofs.refusal.append_quoted.Goals as goal

pub returns-in_err-append-clause-err : goal.returns-in_err-append-clause-err
returns-in_err-append-clause-err c = nothing_more c.from_residual.result c.args.out.now c.append.new.self c.in_err-append.ensures.err

pub returns-in_err-write_string_bytes-clause-err : goal.returns-in_err-write_string_bytes-clause-err
returns-in_err-write_string_bytes-clause-err c =
    no_more_than c.from_residual-in_err-write_string_bytes.result c.args.out.now c.append.new.self c.write_string_bytes.new.out _ c.in_ok-append.ensures.ok c.in_err-write_string_bytes.ensures.err

pub returns-clause-err : goal.returns-clause-err
returns-clause-err c =
    none_behind c.append-2.result c.args.out.now c.write_string_bytes.new.out c.append-2.new.self _
    (two_more c.args.out.now c.append.new.self c.write_string_bytes.new.out _ _ c.in_ok-append.ensures.ok c.in_ok-write_string_bytes.ensures.text) c.append-2.ensures.err
