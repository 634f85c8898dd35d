use Rattle.std.proofs.Common.{rules, sym, subst, map}
use Rattle.std.specs.Prelude.{Contains}
use Rattle.alias_ref.proofs.TracesGrow.{no_start}
use Rattle.alias_ref.proofs.trace.Trace.ring.Goals as goal

pub returns-then-not-contains : goal.returns-then-not-contains
returns-then-not-contains c = λ f h e. sym (no_start f c.args.place.now c.args.self.now.places.items (λ k.
    let there : Contains c.args.self.now.starts.items c.args.start = subst (λ xs. Contains xs c.args.start) (sym h) (subst (λ x. Contains (map f c.args.self.now.places.items) x) (sym e) k) in
    search (rules, there)))
