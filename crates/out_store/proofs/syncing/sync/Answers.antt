use Rattle.std.proofs.Common.{◌∙◌, map}
use Rattle.std.specs.String.{string_bytes}
use Rattle.out_store.specs.Kept.{IsUnder, Kept}
use Rattle.out_store.specs.inner.Passing.{HoldsNone, IsAnnounced, IsListedAt, current}
use Rattle.out_store.specs.declared.gates.Gates.{Gates}
use Rattle.out_store.proofs.Runs.{are_caused_err, are_caused_later, stop_caused}
use Rattle.out_store.proofs.Whole.{all_by, bad_told, blocked_err, from_start, if_start, kept_same, no_bad_stop, read_all, same_stop, synced_exact, synced_kept, unblocked}
use Rattle.out_store.proofs.syncing.sync.Goals as goal

pub returns-in_err-gates-clause-kept : goal.returns-in_err-gates-clause-kept
returns-in_err-gates-clause-kept g c = kept_same (g.T.Store.held c.args.store.now) (g.T.Store.held c.read_gates.new.store) c.in_err-gates.ensures.same

pub returns-in_err-gates-clause-bad : goal.returns-in_err-gates-clause-bad
returns-in_err-gates-clause-bad g c s e = no_bad_stop c.from_residual.result c.in_err-gates.field-0.0 s c.from_residual.ensures.1 e

pub returns-in_err-gates-clause-blocked : goal.returns-in_err-gates-clause-blocked
returns-in_err-gates-clause-blocked g c = blocked_err c.from_residual.result _ c.from_residual.ensures.1 (g.T.Store.held c.args.store.now)

pub returns-in_err-gates-clause-cause : goal.returns-in_err-gates-clause-cause
returns-in_err-gates-clause-cause g c = stop_caused Gates c.from_residual.result c.in_err-gates.field-0.0 _ _ c.from_residual.ensures.1 c.in_err-gates.ensures.cause

pub returns-in_err-listed-clause-kept : goal.returns-in_err-listed-clause-kept
returns-in_err-listed-clause-kept g c =
    kept_same (g.T.Store.held c.args.store.now) (g.T.Store.held c.read_listed.new.store) (c.in_err-listed.ensures.same ∙ c.in_ok-gates.ensures.same)

pub returns-in_err-listed-clause-bad : goal.returns-in_err-listed-clause-bad
returns-in_err-listed-clause-bad g c s e =
    let gates = c.in_ok-gates.gates in
    let told = c.in_err-listed.ensures.bad s (same_stop _ c.from_residual-in_err-listed.result c.in_err-listed.field-0.0 s c.from_residual-in_err-listed.ensures.1 e) in
    bad_told (g.T.Store.held c.args.store.now) gates s c.in_ok-gates.ensures.gates told.0 told.1 (if_start (λ m. HoldsNone m (current gates)) (g.T.Store.held c.args.store.now) (g.T.Store.held c.read_gates.new.store) c.in_ok-gates.ensures.same told.2)

pub returns-in_err-listed-clause-blocked : goal.returns-in_err-listed-clause-blocked
returns-in_err-listed-clause-blocked g c = blocked_err c.from_residual-in_err-listed.result _ c.from_residual-in_err-listed.ensures.1 (g.T.Store.held c.args.store.now)

pub returns-in_err-listed-clause-cause : goal.returns-in_err-listed-clause-cause
returns-in_err-listed-clause-cause g c =
    are_caused_later c.from_residual-in_err-listed.result _ _ _ c.in_ok-gates.ensures.cause (are_caused_err c.from_residual-in_err-listed.result c.in_err-listed.field-0.0 _ _ c.from_residual-in_err-listed.ensures.1 c.in_err-listed.ensures.cause)

pub returns-in_err-paths-clause-kept : goal.returns-in_err-paths-clause-kept
returns-in_err-paths-clause-kept g c =
    kept_same (g.T.Store.held c.args.store.now) (g.T.Store.held c.read_listed.new.store) (c.in_ok-listed.ensures.same ∙ c.in_ok-gates.ensures.same)

pub returns-in_err-paths-clause-blocked : goal.returns-in_err-paths-clause-blocked
returns-in_err-paths-clause-blocked g c = blocked_err c.from_residual-in_err-paths.result _ c.from_residual-in_err-paths.ensures.1 (g.T.Store.held c.args.store.now)

pub returns-in_err-replace-clause-kept : goal.returns-in_err-replace-clause-kept
returns-in_err-replace-clause-kept g c =
    let gates = c.in_ok-gates.gates in
    let names = map string_bytes c.in_ok-listed.listed.items in
    let old = g.T.Store.held c.args.store.now in
    let read = read_all old gates names c.in_ok-gates.ensures.gates c.in_ok-listed.ensures.ungated (λ some. if_start (λ m. IsListedAt m (current gates) names) old (g.T.Store.held c.read_gates.new.store) c.in_ok-gates.ensures.same (c.in_ok-listed.ensures.gated some)) in
    synced_kept gates names c.in_ok-paths.paths c.args.outputs.now (all_by c.as_slice.result.now c.in_ok-listed.listed.items c.as_slice.ensures.value c.in_ok-paths.paths c.args.outputs.now c.in_ok-paths.ensures) c.requires old (g.T.Store.held c.replace.new.store) read
    (from_start (λ m n. IsAnnounced m gates c.in_ok-paths.paths c.args.outputs.now → Kept m → Kept n) old (g.T.Store.held c.read_listed.new.store) (g.T.Store.held c.replace.new.store) (c.in_ok-listed.ensures.same ∙ c.in_ok-gates.ensures.same) c.in_err-replace.ensures.kept)

pub returns-in_err-replace-clause-bad : goal.returns-in_err-replace-clause-bad
returns-in_err-replace-clause-bad g c s e = no_bad_stop c.from_residual-in_err-replace.result c.in_err-replace.field-0.0 s c.from_residual-in_err-replace.ensures.1 e

pub returns-in_err-replace-clause-blocked : goal.returns-in_err-replace-clause-blocked
returns-in_err-replace-clause-blocked g c = blocked_err c.from_residual-in_err-replace.result _ c.from_residual-in_err-replace.ensures.1 (g.T.Store.held c.args.store.now)

pub returns-in_err-replace-clause-cause : goal.returns-in_err-replace-clause-cause
returns-in_err-replace-clause-cause g c =
    are_caused_later c.from_residual-in_err-replace.result _ _ _ (c.in_ok-listed.ensures.cause ∙ c.in_ok-gates.ensures.cause) (stop_caused (Unit {0}) c.from_residual-in_err-replace.result c.in_err-replace.field-0.0 _ _ c.from_residual-in_err-replace.ensures.1 c.in_err-replace.ensures.cause)

pub returns-clause-kept : goal.returns-clause-kept
returns-clause-kept g c =
    let gates = c.in_ok-gates.gates in
    let names = map string_bytes c.in_ok-listed.listed.items in
    let old = g.T.Store.held c.args.store.now in
    let read = read_all old gates names c.in_ok-gates.ensures.gates c.in_ok-listed.ensures.ungated (λ some. if_start (λ m. IsListedAt m (current gates) names) old (g.T.Store.held c.read_gates.new.store) c.in_ok-gates.ensures.same (c.in_ok-listed.ensures.gated some)) in
    synced_kept gates names c.in_ok-paths.paths c.args.outputs.now (all_by c.as_slice.result.now c.in_ok-listed.listed.items c.as_slice.ensures.value c.in_ok-paths.paths c.args.outputs.now c.in_ok-paths.ensures) c.requires old (g.T.Store.held c.replace.new.store) read
    (from_start (λ m n. IsAnnounced m gates c.in_ok-paths.paths c.args.outputs.now → Kept m → Kept n) old (g.T.Store.held c.read_listed.new.store) (g.T.Store.held c.replace.new.store) (c.in_ok-listed.ensures.same ∙ c.in_ok-gates.ensures.same) c.in_ok-replace.ensures.kept)

pub returns-clause-exact : goal.returns-clause-exact
returns-clause-exact g c =
    let gates = c.in_ok-gates.gates in
    let names = map string_bytes c.in_ok-listed.listed.items in
    let old = g.T.Store.held c.args.store.now in
    let read = read_all old gates names c.in_ok-gates.ensures.gates c.in_ok-listed.ensures.ungated (λ some. if_start (λ m. IsListedAt m (current gates) names) old (g.T.Store.held c.read_gates.new.store) c.in_ok-gates.ensures.same (c.in_ok-listed.ensures.gated some)) in
    synced_exact gates names c.in_ok-paths.paths c.args.outputs.now (all_by c.as_slice.result.now c.in_ok-listed.listed.items c.as_slice.ensures.value c.in_ok-paths.paths c.args.outputs.now c.in_ok-paths.ensures) c.requires old (g.T.Store.held c.replace.new.store) read
    (from_start (λ m n. IsAnnounced m gates c.in_ok-paths.paths c.args.outputs.now → Kept m → IsUnder n c.args.outputs.now) old (g.T.Store.held c.read_listed.new.store) (g.T.Store.held c.replace.new.store) (c.in_ok-listed.ensures.same ∙ c.in_ok-gates.ensures.same) c.in_ok-replace.ensures.exact)

pub returns-clause-blocked : goal.returns-clause-blocked
returns-clause-blocked g c =
    let gates = c.in_ok-gates.gates in
    let names = map string_bytes c.in_ok-listed.listed.items in
    let old = g.T.Store.held c.args.store.now in
    let read = read_all old gates names c.in_ok-gates.ensures.gates c.in_ok-listed.ensures.ungated (λ some. if_start (λ m. IsListedAt m (current gates) names) old (g.T.Store.held c.read_gates.new.store) c.in_ok-gates.ensures.same (c.in_ok-listed.ensures.gated some)) in
    unblocked _ old gates names read

pub returns-clause-cause : goal.returns-clause-cause
returns-clause-cause g c = c.in_ok-replace.ensures.cause ∙ (c.in_ok-listed.ensures.cause ∙ c.in_ok-gates.ensures.cause)
