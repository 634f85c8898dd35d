use Rattle.std.proofs.Common.{ap, sym, subst}
use Rattle.std.proofs.lemmas.Result.{IfOk-weaker}
use Rattle.std.specs.FinMap as map
use Rattle.token_cells.specs.Cell.{AreCells}
use Rattle.token_cells.specs.Evaluated.{EvaluatedTree}
use Rattle.token_cells.specs.inner.Earlier.{IsKept, IsKnown}
use Rattle.token_cells.proofs.earlier.Known.kept.Goals as goal

pub kept_in-requires : goal.kept_in-requires
kept_in-requires c =
    let known = c.args.self.now in (
      known.settings,
      subst (λ (t : EvaluatedTree). AreCells t.tokens known.settings (map.entries t.tokens) t.cells) (sym (ap (λ k. k.tree) c.self.view_is)) (subst IsKnown c.self.view_is c.self.invariant),
    )

pub returns : goal.returns
returns c =
    let known = c.args.self.now in
    IfOk-weaker c.kept_in.result _ (IsKept c.args.flat.now known.settings)
    (λ kept are. are known.settings
    (subst (λ (t : EvaluatedTree). AreCells t.tokens known.settings (map.entries t.tokens) t.cells) (sym (ap (λ k. k.tree) c.self.view_is)) (subst IsKnown c.self.view_is c.self.invariant))) c.kept_in.ensures
