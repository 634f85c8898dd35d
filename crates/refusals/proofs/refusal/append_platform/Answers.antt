use Rattle.refusals.proofs.Parts.{nothing_more, no_more_than, none_behind, two_more}
use Rattle.refusals.proofs.refusal.append_platform.Goals as goal

pub returns-in_err-append-clause-err : goal.returns-in_err-append-clause-err
returns-in_err-append-clause-err c = nothing_more c.from_residual.result c.args.out.now c.append.new.self c.in_err-append.ensures.err

pub returns-in_err-append-2-clause-err : goal.returns-in_err-append-2-clause-err
returns-in_err-append-2-clause-err c =
    no_more_than c.from_residual-in_err-append-2.result c.args.out.now c.append.new.self c.append-2.new.self _ c.in_ok-append.ensures.ok c.in_err-append-2.ensures.err

pub returns-clause-err : goal.returns-clause-err
returns-clause-err c =
    none_behind c.append-3.result c.args.out.now c.append-2.new.self c.append-3.new.self _
    (two_more c.args.out.now c.append.new.self c.append-2.new.self _ _ c.in_ok-append.ensures.ok c.in_ok-append-2.ensures.ok) c.append-3.ensures.err
