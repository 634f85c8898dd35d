use Rattle.std.proofs.Common.{◌∙◌, ◌+◌, ◌++◌, ◌∷◌, [], ap, sym, take, refl}
use Rattle.std.specs.FinMap as finite
use Rattle.out_store.proofs.Brought.{all_brought_told, all_within, key_known, keys_all, keys_taken, so_far_more, so_far_none, within_on}
use Rattle.out_store.proofs.Runs.{caused_err, caused_later}
use Rattle.out_store.proofs.bringing.bring_all.Goals as goal

pub loop-path-init : goal.loop-path-init
loop-path-init g c = record {
  told = so_far_none c.args.paths.now c.args.outputs.now (g.T.Store.held c.args.store.now);
  still = refl;
}

pub returns-in_err-bring-clause-within : goal.returns-in_err-bring-clause-within
returns-in_err-bring-clause-within g c =
    let es = c.entries-path-items.result.now in
    let i = c.loop-path.path-index in
    let x = c.loop-path-item.result in
    let name = c.as_str.ensures.value in
    let keys = finite.keys c.args.paths.now in
    within_on c.args.paths.now c.args.outputs.now (take i keys) (take (i + 1) keys) c.as_str.result.now
    (keys_taken es c.args.paths.now c.entries-path-items.ensures i x c.loop-path-test.true c.loop-path-item.is ∙ ap (λ k. take i keys ++ k ∷ []) (sym name))
    (ap (finite.contains_key c.args.paths.now) name ∙ key_known es c.args.paths.now c.entries-path-items.ensures i x c.loop-path-test.true c.loop-path-item.is)
    (g.T.Store.held c.args.store.now) (g.T.Store.held c.loop-path.store) (g.T.Store.held c.bring.new.store)
    c.loop-path.invariant.told c.in_err-bring.ensures.elsewhere

pub returns-in_err-bring-clause-cause : goal.returns-in_err-bring-clause-cause
returns-in_err-bring-clause-cause g c =
    caused_later c.from_residual.result _ _ _ c.loop-path.invariant.still (caused_err (Unit {0}) c.from_residual.result c.in_err-bring.field-0.0 _ _ c.from_residual.ensures.1 c.in_err-bring.ensures.cause)

pub loop-path-preserved : goal.loop-path-preserved
loop-path-preserved g c =
    let es = c.entries-path-items.result.now in
    let i = c.loop-path.path-index in
    let x = c.loop-path-item.result in
    let name = c.as_str.ensures.value in
    let keys = finite.keys c.args.paths.now in
    record {
      told = so_far_more c.args.paths.now c.args.outputs.now (take i keys) (take (i + 1) keys) c.as_str.result.now
          (keys_taken es c.args.paths.now c.entries-path-items.ensures i x c.loop-path-test.true c.loop-path-item.is ∙ ap (λ k. take i keys ++ k ∷ []) (sym name))
          (ap (finite.contains_key c.args.paths.now) name ∙ key_known es c.args.paths.now c.entries-path-items.ensures i x c.loop-path-test.true c.loop-path-item.is)
          (g.T.Store.held c.args.store.now) (g.T.Store.held c.loop-path.store) (g.T.Store.held c.bring.new.store)
          c.loop-path.invariant.told c.in_ok-bring.ensures.elsewhere c.in_ok-bring.ensures.there;
      still = c.in_ok-bring.ensures.cause ∙ c.loop-path.invariant.still;
    }

pub returns-clause-within : goal.returns-clause-within
returns-clause-within g c =
    all_within c.args.paths.now c.args.outputs.now (take c.loop-path.path-index (finite.keys c.args.paths.now)) (g.T.Store.held c.args.store.now) (g.T.Store.held c.loop-path.store) c.loop-path.invariant.told

pub returns-clause-brought : goal.returns-clause-brought
returns-clause-brought g c =
    all_brought_told c.args.paths.now c.args.outputs.now (take c.loop-path.path-index (finite.keys c.args.paths.now))
    (keys_all c.entries-path-items.result.now c.args.paths.now c.entries-path-items.ensures c.loop-path.path-index c.loop-path-test.false)
    (g.T.Store.held c.args.store.now) (g.T.Store.held c.loop-path.store) c.loop-path.invariant.told
