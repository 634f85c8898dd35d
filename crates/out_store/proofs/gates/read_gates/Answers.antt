use Rattle.std.proofs.Common.{◌≡◌, ◌∙◌, ap, subst, Option}
use Rattle.std.specs.Option.{IfSome}
use Rattle.tk_io.specs.FilesData.{FilesData}
use Rattle.out_store.proofs.Told.{if_both}
use Rattle.out_store.specs.Kept.{has}
use Rattle.out_store.specs.inner.Passing.{AreGates}
use Rattle.out_store.proofs.gates.read_gates.Goals as goal

pub returns-clause-gates : goal.returns-clause-gates
returns-clause-gates g c =
    let old = g.T.Store.held c.args.store.now in
    let zero = c.in_ok-zero.zero in
    let one = c.in_ok-one.one in
    let second = subst (λ (x : Option FilesData). IfSome x (λ m. one ≡ has m c.gate-2.result.now)) c.in_ok-zero.ensures.same c.in_ok-one.ensures.found in
    if_both (AreGates (record { zero = zero; one = one })) old c.in_ok-zero.ensures.found second
    (λ m p q. record { zero = p ∙ ap (has m) c.gate.ensures; one = q ∙ ap (has m) c.gate-2.ensures })
