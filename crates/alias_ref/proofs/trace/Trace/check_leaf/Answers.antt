use Rattle.std.proofs.Common.{rules, ap}
use Rattle.alias_ref.specs.Written.{part, is_misspelled}
use Rattle.alias_ref.specs.inner.Spots.{IsClear}
use Rattle.alias_ref.proofs.TracesGrow.{clear_visit}
use Rattle.alias_ref.proofs.trace.Trace.check_leaf.Goals as goal

pub returns-then-is_clear-clause-broken : goal.returns-then-is_clear-clause-broken
returns-then-is_clear-clause-broken c = λ flat T v starts start is.
    let clear : IsClear c.args.self.now c.args.start = search rules in
    clear_visit flat T c.args.self.now (part c.args.place.now c.args.step.now) c.args.start clear starts start (ap is_misspelled is)
