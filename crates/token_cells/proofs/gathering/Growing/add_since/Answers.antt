use Rattle.std.proofs.Common.{ℕ, Option, cond, ap, arith}
use Rattle.std.proofs.lemmas.Result.{on_ok_weaker}
use Rattle.std.specs.Option.{is_none}
use Rattle.token_cells.specs.Cell.{IsCell}
use Rattle.token_cells.specs.declared.keeping.Kept.{Kept}
use Rattle.token_cells.specs.inner.Kept.{kept_view}
use Rattle.token_cells.proofs.Known.{there_is}
use Rattle.token_cells.proofs.gathering.Growing.add_since.Goals as goal

pub returns-in-Some-clause-added : goal.returns-in-Some-clause-added
returns-in-Some-clause-added g c =
    on_ok_weaker c.add_kept.result
    (λ all. λ tokens h. all c.args.evaluator.now c.args.cfg.now tokens c.args.token.now
    (there_is c.args.kept c.in-Some.kept (λ k. IsCell c.args.evaluator.now c.args.cfg.now c.args.token.now.0 (kept_view k)) c.in-Some.is c.requires.kept) h) c.add_kept.ensures

pub returns-in-Some-clause-step : goal.returns-in-Some-clause-step
returns-in-Some-clause-step g c = omega (arith, ap {B = ℕ} (λ (o : Option Kept). cond (is_none o) 1 0) c.in-Some.is)

pub returns-in-None-clause-step : goal.returns-in-None-clause-step
returns-in-None-clause-step g c = omega (arith, c.add.ensures.step, ap {B = ℕ} (λ (o : Option Kept). cond (is_none o) 1 0) c.in-None.is)
