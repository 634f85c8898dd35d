use Rattle.std.proofs.Common.{◌<◌, length, get_or, ◌∙◌, length-set, arith}
use Rattle.std.proofs.lemmas.List.Elements.{All-get_or}
use Rattle.std.proofs.lemmas.Result.{MatchResult-from_err}
use Rattle.ref_graph.proofs.Sets.{add_more, unchanged}
use Rattle.ref_graph.proofs.sources.add_source.Goals as goal

pub loop-target-preserved : goal.loop-target-preserved
loop-target-preserved c =
    let t = get_or c.args.targets.now c.loop-target.target-index 0 in
    let before : t < length c.args.sources.now.items = All-get_or (λ w. w < length c.args.sources.now.items) c.args.targets.now c.loop-target.target-index 0 c.loop-target-test.true c.requires in
    let within : t < length c.loop-target.sources.items = omega (arith, before, c.loop-target.invariant.long) in
    record {
      long = length-set c.loop-target.sources.items t c.insert.new.self ∙ c.loop-target.invariant.long;
      added = add_more c.args.sources.now.items c.loop-target.sources.items c.args.node c.args.targets.now c.loop-target.target-index c.index_mut.result.now c.insert.new.self
          c.loop-target-test.true within c.index_mut.ensures.value c.in_ok-insert.ensures.updates.0 c.loop-target.invariant.added;
    }

pub returns-in_err-insert-clause-err : goal.returns-in_err-insert-clause-err
returns-in_err-insert-clause-err c =
    let i = c.loop-target.target-index in
    let t = get_or c.args.targets.now i 0 in
    let before : t < length c.args.sources.now.items = All-get_or (λ w. w < length c.args.sources.now.items) c.args.targets.now i 0 c.loop-target-test.true c.requires in
    let within : t < length c.loop-target.sources.items = omega (arith, before, c.loop-target.invariant.long) in
    MatchResult-from_err c.from_residual.result _ _ c.from_residual.ensures.0
    (λ _. (i, λ w v. unchanged c.loop-target.sources.items t c.index_mut.result.now c.insert.new.self within c.index_mut.ensures.value c.in_err-insert.ensures.err w v ∙ c.loop-target.invariant.added w v))
